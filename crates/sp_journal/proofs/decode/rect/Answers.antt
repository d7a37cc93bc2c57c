use Rattle.std.proofs.Common.{◌++◌, ap, Ok}
use Rattle.sp_journal.specs.Format.{coordinate_bytes}
use Rattle.sp_journal.proofs.Readers.{no_err, ok_same, rect_parts, corner_spans, rect_made, rect_refused}
use Rattle.sp_journal.proofs.decode.rect.Goals as goal

pub returns-in_err-x1 : goal.returns-in_err-x1
returns-in_err-x1 c = λ r rest fits is.
    let parts = rect_parts r rest c.args.from.now is in
    let spans = corner_spans r fits in
    let x1 = c.coordinate.ensures r.x1 (coordinate_bytes r.y1 ++ (coordinate_bytes r.x2 ++ (coordinate_bytes r.y2 ++ rest))) spans.0.0 spans.0.1 parts in
    no_err _ _ _ _ x1.0 c.in_err-x1.was

pub returns-in_err-y1 : goal.returns-in_err-y1
returns-in_err-y1 c = λ r rest fits is.
    let parts = rect_parts r rest c.args.from.now is in
    let spans = corner_spans r fits in
    let x1 = c.coordinate.ensures r.x1 (coordinate_bytes r.y1 ++ (coordinate_bytes r.x2 ++ (coordinate_bytes r.y2 ++ rest))) spans.0.0 spans.0.1 parts in
    let y1 = c.coordinate-2.ensures r.y1 (coordinate_bytes r.x2 ++ (coordinate_bytes r.y2 ++ rest)) spans.0.2 spans.0.3 x1.1 in
    no_err _ _ _ _ y1.0 c.in_err-y1.was

pub returns-in_err-x2 : goal.returns-in_err-x2
returns-in_err-x2 c = λ r rest fits is.
    let parts = rect_parts r rest c.args.from.now is in
    let spans = corner_spans r fits in
    let x1 = c.coordinate.ensures r.x1 (coordinate_bytes r.y1 ++ (coordinate_bytes r.x2 ++ (coordinate_bytes r.y2 ++ rest))) spans.0.0 spans.0.1 parts in
    let y1 = c.coordinate-2.ensures r.y1 (coordinate_bytes r.x2 ++ (coordinate_bytes r.y2 ++ rest)) spans.0.2 spans.0.3 x1.1 in
    let x2 = c.coordinate-3.ensures r.x2 (coordinate_bytes r.y2 ++ rest) spans.1.0 spans.1.1 y1.1 in
    no_err _ _ _ _ x2.0 c.in_err-x2.was

pub returns-in_err-y2 : goal.returns-in_err-y2
returns-in_err-y2 c = λ r rest fits is.
    let parts = rect_parts r rest c.args.from.now is in
    let spans = corner_spans r fits in
    let x1 = c.coordinate.ensures r.x1 (coordinate_bytes r.y1 ++ (coordinate_bytes r.x2 ++ (coordinate_bytes r.y2 ++ rest))) spans.0.0 spans.0.1 parts in
    let y1 = c.coordinate-2.ensures r.y1 (coordinate_bytes r.x2 ++ (coordinate_bytes r.y2 ++ rest)) spans.0.2 spans.0.3 x1.1 in
    let x2 = c.coordinate-3.ensures r.x2 (coordinate_bytes r.y2 ++ rest) spans.1.0 spans.1.1 y1.1 in
    let y2 = c.coordinate-4.ensures r.y2 rest spans.1.2 spans.1.3 x2.1 in
    no_err _ _ _ _ y2.0 c.in_err-y2.was

pub returns-in-Ok : goal.returns-in-Ok
returns-in-Ok c = λ r rest fits is.
    let parts = rect_parts r rest c.args.from.now is in
    let spans = corner_spans r fits in
    let x1 = c.coordinate.ensures r.x1 (coordinate_bytes r.y1 ++ (coordinate_bytes r.x2 ++ (coordinate_bytes r.y2 ++ rest))) spans.0.0 spans.0.1 parts in
    let y1 = c.coordinate-2.ensures r.y1 (coordinate_bytes r.x2 ++ (coordinate_bytes r.y2 ++ rest)) spans.0.2 spans.0.3 x1.1 in
    let x2 = c.coordinate-3.ensures r.x2 (coordinate_bytes r.y2 ++ rest) spans.1.0 spans.1.1 y1.1 in
    let y2 = c.coordinate-4.ensures r.y2 rest spans.1.2 spans.1.3 x2.1 in
    (ap Ok (rect_made c.in_ok-x1.x1 c.in_ok-y1.y1 c.in_ok-x2.x2 c.in_ok-y2.y2 r c.in-Ok.rect fits (ok_same _ _ _ c.in_ok-x1.was x1.0) (ok_same _ _ _ c.in_ok-y1.was y1.0) (ok_same _ _ _ c.in_ok-x2.was x2.0) (ok_same _ _ _ c.in_ok-y2.was y2.0) c.in-Ok.ensures), y2.1)

pub returns-in-Err : goal.returns-in-Err
returns-in-Err c = λ r rest fits is.
    let parts = rect_parts r rest c.args.from.now is in
    let spans = corner_spans r fits in
    let x1 = c.coordinate.ensures r.x1 (coordinate_bytes r.y1 ++ (coordinate_bytes r.x2 ++ (coordinate_bytes r.y2 ++ rest))) spans.0.0 spans.0.1 parts in
    let y1 = c.coordinate-2.ensures r.y1 (coordinate_bytes r.x2 ++ (coordinate_bytes r.y2 ++ rest)) spans.0.2 spans.0.3 x1.1 in
    let x2 = c.coordinate-3.ensures r.x2 (coordinate_bytes r.y2 ++ rest) spans.1.0 spans.1.1 y1.1 in
    let y2 = c.coordinate-4.ensures r.y2 rest spans.1.2 spans.1.3 x2.1 in
    (rect_refused c.in_ok-x1.x1 c.in_ok-y1.y1 c.in_ok-x2.x2 c.in_ok-y2.y2 r _ fits (ok_same _ _ _ c.in_ok-x1.was x1.0) (ok_same _ _ _ c.in_ok-y1.was y1.0) (ok_same _ _ _ c.in_ok-x2.was x2.0) (ok_same _ _ _ c.in_ok-y2.was y2.0) c.in-Err.ensures, y2.1)
