use Rattle.std.proofs.Common.{[], ◌∙◌, sym, ap}
use Rattle.sp_plain.specs.Taking.{taken}
use Rattle.sp_journal.proofs.Payloads.{was_taken, loaded_is}
use Rattle.sp_journal.proofs.contents.load.Goals as goal

pub returns-clause-loaded : goal.returns-clause-loaded
returns-clause-loaded c = λ generation found low.
    let whole = c.in_ok-read_checkpoint.ensures.whole in
    loaded_is generation c.args.payload.now found c.in_ok-read_checkpoint.field-0 c.take.new.store c.in_ok-changes.changes low whole.0 whole.1 (c.in_ok-changes.ensures whole.0)
    (was_taken c.in_ok-changes.changes [] c.take.new.store c.in_ok-take.field-0 c.if-not-branch.false (ap (λ r. taken c.in_ok-changes.changes r) (sym c.new-store.ensures) ∙ c.in_ok-take.ensures.made))
