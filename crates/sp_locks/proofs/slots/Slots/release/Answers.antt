use Rattle.std.proofs.Common.{[], ◌++◌, append-nil, sym, ap, ◌∙◌}
use Rattle.sp_locks.specs.Slots.{made, worked_through}
use Rattle.sp_locks.proofs.Working.{made-none, made-through}
use Rattle.sp_locks.proofs.slots.Slots.release.Goals as goal

pub returns-then-len : goal.returns-then-len
returns-then-len c =
    c.squeeze.ensures.rows ∙ sym (made-none (λ v. v.items) c.args.scope c.args.session c.release_each-2.new.slots.items)
    ∙ c.release_each-2.ensures.rows [] ∙ c.release_each.ensures.rows (c.args.others.now ++ [])
    ∙ ap (λ ns. made (λ v. v.items) c.args.scope c.args.session (c.args.names.now ++ ns) c.self.inside.slots.items) (append-nil c.args.others.now)
    ∙ made-through (λ v. v.items) c.args.scope c.args.session (c.args.names.now ++ c.args.others.now) c.self.inside.slots.items c.self.invariant.0
    ∙ ap (worked_through c.args.scope c.args.session (c.args.names.now ++ c.args.others.now)) c.self.view_is

pub returns-else-len : goal.returns-else-len
returns-else-len c =
    sym (made-none (λ v. v.items) c.args.scope c.args.session c.release_each-2.new.slots.items)
    ∙ c.release_each-2.ensures.rows [] ∙ c.release_each.ensures.rows (c.args.others.now ++ [])
    ∙ ap (λ ns. made (λ v. v.items) c.args.scope c.args.session (c.args.names.now ++ ns) c.self.inside.slots.items) (append-nil c.args.others.now)
    ∙ made-through (λ v. v.items) c.args.scope c.args.session (c.args.names.now ++ c.args.others.now) c.self.inside.slots.items c.self.invariant.0
    ∙ ap (worked_through c.args.scope c.args.session (c.args.names.now ++ c.args.others.now)) c.self.view_is
