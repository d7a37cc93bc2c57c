use Rattle.std.proofs.Common.{◌+◌, ℕ, length, sym, ap, subst, arith}
use Rattle.sp_journal.specs.Recovery.{Enters, all_changes}
use Rattle.sp_journal.proofs.Payloads.{enters_batch, few_commits, was_taken}
use Rattle.sp_journal.proofs.contents.make_batch.Goals as goal

pub returns-clause-made : goal.returns-clause-made
returns-clause-made c = λ generation front found same kind.
    let whole = c.in_ok-commits.ensures.whole in
    let made = was_taken (all_changes c.in_ok-commits.commits) c.args.store.now c.make_all.new.store c.in_ok-make_all.field-0 c.if-not-branch.false c.in_ok-make_all.ensures.made in
    subst (λ (n : ℕ). Enters generation front found c.args.payload.now (record { records = c.make_all.new.store; batches = found.batches + 1; commits = found.commits + n })) (sym c.len.ensures.len)
    (enters_batch generation front c.args.payload.now found c.in_ok-commits.commits c.args.store.now c.make_all.new.store same kind whole.0 whole.1 made)

pub returns-clause-few : goal.returns-clause-few
returns-clause-few c = let len = c.len.ensures.len in let whole = c.in_ok-commits.ensures.whole in omega (arith, few_commits c.in_ok-commits.commits, ap length whole.1)
