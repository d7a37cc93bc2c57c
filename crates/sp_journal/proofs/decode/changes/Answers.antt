use Rattle.std.proofs.Common.{◌≡◌, ◌+◌, ◌++◌, ◌∷◌, [], ap, sym, ◌∙◌, arith, rules, drop, take}
use Rattle.std.specs.List.{flat_map}
use Rattle.sp_journal.specs.declared.decode.Unread.TheVariants.{Memory}
use Rattle.sp_journal.specs.Format.{change_bytes}
use Rattle.sp_journal.proofs.Readers.{next_change}
use Rattle.sp_journal.proofs.decode.changes.Goals as goal

pub returns-in_err-change : goal.returns-in_err-change
returns-in_err-change c = λ cs rest all count is.
    let inv = c.loop-i.invariant cs rest all count is in
    let n = next_change cs c.loop-i.i rest all (omega (arith, count)) in
    let none : c.in_err-change.field-0.0 ≡ Memory = c.in_err-change.ensures n.0 (flat_map change_bytes (drop (c.loop-i.i + 1) cs) ++ rest) n.1 (inv.1 ∙ n.2) in
    search rules

pub loop-i-preserved : goal.loop-i-preserved
loop-i-preserved c = λ cs rest all count is.
    let inv = c.loop-i.invariant cs rest all count is in
    let n = next_change cs c.loop-i.i rest all (omega (arith, count)) in
    let got = c.in_ok-change.ensures n.0 (flat_map change_bytes (drop (c.loop-i.i + 1) cs) ++ rest) n.1 (inv.1 ∙ n.2) in
    (c.in_ok-push.ensures ∙ ap (λ l. l ++ c.in_ok-change.field-0 ∷ []) inv.0 ∙ ap (λ d. take c.loop-i.i cs ++ d ∷ []) got.0 ∙ sym n.3, got.1)
