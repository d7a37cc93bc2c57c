use Rattle.sp_journal.specs.Format.{rect_bytes}
use Rattle.sp_journal.proofs.Chunks.{four}
use Rattle.sp_journal.proofs.Corner.{passed_x1, passed_y1, passed_x2, passed_y2}
use Rattle.sp_journal.proofs.encode.push_rect.Goals as goal

pub returns-clause-bytes : goal.returns-clause-bytes
unfolding rect_bytes
returns-clause-bytes c =
    let r = c.args.rect.now in
    let is = c.x1.ensures.valid in
    four _ _ _ _ _ _ _ _ _ _ _ _ _ c.in_ok-push_coordinate.ensures c.in_ok-push_coordinate-2.ensures c.in_ok-push_coordinate-3.ensures c.in_ok-push_coordinate-4.ensures
    (passed_x1 r c.x1.result is c.x1.ensures.value) (passed_y1 r c.y1.result is c.y1.ensures) (passed_x2 r c.x2.result is c.x2.ensures) (passed_y2 r c.y2.result is c.y2.ensures)
