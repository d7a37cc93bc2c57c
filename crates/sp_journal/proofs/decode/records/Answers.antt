use Rattle.std.proofs.Common.{◌≡◌, ◌+◌, ◌++◌, ◌∷◌, [], ap, sym, ◌∙◌, arith, rules, drop, take}
use Rattle.std.specs.List.{flat_map}
use Rattle.sp_journal.specs.declared.decode.Unread.TheVariants.{Memory}
use Rattle.sp_journal.specs.Format.{put_bytes}
use Rattle.sp_journal.proofs.Pages.{next_of}
use Rattle.sp_journal.proofs.decode.records.Goals as goal

pub returns-in_err-record : goal.returns-in_err-record
returns-in_err-record c = λ cs rest all count is.
    let inv = c.loop-i.invariant cs rest all count is in
    let n = next_of cs c.loop-i.i rest all (omega (arith, count)) in
    let none : c.in_err-record.field-0.0 ≡ Memory = c.in_err-record.ensures n.0 (flat_map put_bytes (drop (c.loop-i.i + 1) cs) ++ rest) n.1 (inv.1 ∙ n.2) in
    search rules

pub loop-i-preserved : goal.loop-i-preserved
loop-i-preserved c = λ cs rest all count is.
    let inv = c.loop-i.invariant cs rest all count is in
    let n = next_of cs c.loop-i.i rest all (omega (arith, count)) in
    let got = c.in_ok-record.ensures n.0 (flat_map put_bytes (drop (c.loop-i.i + 1) cs) ++ rest) n.1 (inv.1 ∙ n.2) in
    (c.in_ok-push.ensures ∙ ap (λ l. l ++ c.in_ok-record.field-0 ∷ []) inv.0 ∙ ap (λ d. take c.loop-i.i cs ++ d ∷ []) got.0 ∙ sym n.3, got.1)
