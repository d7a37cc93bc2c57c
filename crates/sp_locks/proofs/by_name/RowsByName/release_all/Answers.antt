use Rattle.std.proofs.Common.{sym, subst, ap, ◌∙◌}
use Rattle.sp_locks.specs.Lists.{AreListed}
use Rattle.sp_locks.specs.Soundness.{IsSound}
use Rattle.sp_locks.specs.Table.{released}
use Rattle.sp_locks.specs.declared.row.Scope.TheVariants.{AllRows}
use Rattle.sp_locks.proofs.Listing.{released-all, listed-all}
use Rattle.sp_locks.proofs.by_name.RowsByName.release_all.Goals as goal

pub invariant_of-self : goal.invariant_of-self
invariant_of-self c =
    subst (AreListed (λ v. v.items) c.forget.new.lists.entries c.forget-2.new.lists.entries)
    (sym (released-all (λ v. v.items) c.self.inside.commits.entries c.self.inside.shorts.entries c.args.session c.self.inside.rows c.release.new.self c.names-commits.result.now c.names-shorts.result.now c.self.invariant
    (subst IsSound (sym c.self.view_is) c.requires) c.names-commits.ensures c.names-shorts.ensures c.release.ensures))
    (listed-all (λ v. v.items) c.self.inside.commits.entries c.self.inside.shorts.entries c.forget.new.lists.entries c.forget-2.new.lists.entries c.args.session c.self.inside.rows c.self.invariant c.forget.ensures c.forget-2.ensures)

pub returns : goal.returns
returns c =
    released-all (λ v. v.items) c.self.inside.commits.entries c.self.inside.shorts.entries c.args.session c.self.inside.rows c.release.new.self c.names-commits.result.now c.names-shorts.result.now c.self.invariant
    (subst IsSound (sym c.self.view_is) c.requires) c.names-commits.ensures c.names-shorts.ensures c.release.ensures
    ∙ ap (released AllRows c.args.session) c.self.view_is
