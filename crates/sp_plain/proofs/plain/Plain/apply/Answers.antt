use Rattle.std.proofs.Common.{◌≡◌, List, subst, sym, ap, ◌∙◌, is_ok, if◌then◌else◌}
use Rattle.sp_rect.specs.Store.{IsOrdered, after}
use Rattle.sp_rect.specs.declared.record.Record.{Record}
use Rattle.sp_plain.proofs.Keeping.{ordered_either}
use Rattle.sp_plain.proofs.plain.Plain.apply.Goals as goal

pub invariant_of-self : goal.invariant_of-self
invariant_of-self c =
    let held : c.into_vec-members.result.items ≡ c.self.inside.records = c.into_vec-members.ensures ∙ c.replace.ensures.value in
    let same : c.from_vec.result ≡ (if is_ok c.run-reply.result then after c.args.op.now c.self.inside.records else c.self.inside.records) = c.from_vec.ensures ∙ (c.run-reply.ensures.after ∙ ap (λ (xs : List Record). if is_ok c.run-reply.result then after c.args.op.now xs else xs) held) in
    subst IsOrdered (sym same) (ordered_either (is_ok c.run-reply.result) c.args.op.now c.self.inside.records c.self.invariant)
