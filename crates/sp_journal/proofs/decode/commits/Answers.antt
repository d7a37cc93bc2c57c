use Rattle.std.proofs.Common.{◌≡◌, ◌+◌, ◌++◌, ◌∷◌, [], ap, sym, ◌∙◌, arith, rules, drop, take}
use Rattle.std.specs.List.{flat_map}
use Rattle.sp_journal.specs.declared.decode.Unread.TheVariants.{Memory}
use Rattle.sp_journal.specs.Format.{commit_bytes}
use Rattle.sp_journal.proofs.Readers.{next_commit}
use Rattle.sp_journal.proofs.decode.commits.Goals as goal

pub returns-in_err-commit : goal.returns-in_err-commit
returns-in_err-commit c = λ cs rest all count is.
    let inv = c.loop-i.invariant cs rest all count is in
    let n = next_commit cs c.loop-i.i rest all (omega (arith, count)) in
    let none : c.in_err-commit.field-0.0 ≡ Memory = c.in_err-commit.ensures n.0 (flat_map commit_bytes (drop (c.loop-i.i + 1) cs) ++ rest) n.1 (inv.1 ∙ n.2) in
    search rules

pub loop-i-preserved : goal.loop-i-preserved
loop-i-preserved c = λ cs rest all count is.
    let inv = c.loop-i.invariant cs rest all count is in
    let n = next_commit cs c.loop-i.i rest all (omega (arith, count)) in
    let got = c.in_ok-commit.ensures n.0 (flat_map commit_bytes (drop (c.loop-i.i + 1) cs) ++ rest) n.1 (inv.1 ∙ n.2) in
    (c.in_ok-push.ensures ∙ ap (λ l. l ++ c.in_ok-commit.field-0 ∷ []) inv.0 ∙ ap (λ d. take c.loop-i.i cs ++ d ∷ []) got.0 ∙ sym n.3, got.1)
