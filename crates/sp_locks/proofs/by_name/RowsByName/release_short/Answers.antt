use Rattle.std.proofs.Common.{sym, subst, ap, ◌∙◌, rules}
use Rattle.sp_locks.specs.Rows.{waiting_in}
use Rattle.sp_locks.specs.Lists.{AreListed}
use Rattle.sp_locks.specs.Soundness.{IsSound}
use Rattle.sp_locks.specs.Table.{released}
use Rattle.sp_locks.specs.declared.row.Scope.TheVariants.{ShortLocks}
use Rattle.sp_locks.proofs.Listing.{released-short, listed-short, listed-released}
use Rattle.sp_locks.proofs.by_name.RowsByName.release_short.Goals as goal

pub invariant_of-self : goal.invariant_of-self
invariant_of-self c =
    subst (AreListed (λ v. v.items) c.self.inside.commits.entries c.forget.new.lists.entries)
    (sym (released-short (λ v. v.items) c.self.inside.commits.entries c.self.inside.shorts.entries c.args.session c.self.inside.rows c.release.new.self c.names-names.result.now c.self.invariant
    (subst IsSound (sym c.self.view_is) c.requires.sound) c.names-names.ensures c.release.ensures))
    (listed-short (λ v. v.items) c.self.inside.commits.entries c.self.inside.shorts.entries c.forget.new.lists.entries c.args.session c.self.inside.rows c.self.invariant (ap (waiting_in c.args.session) c.self.view_is ∙ c.requires.awake (search rules)) c.forget.ensures)

pub invariant_of-self-else-not-waits : goal.invariant_of-self-else-not-waits
invariant_of-self-else-not-waits c =
    subst (AreListed (λ v. v.items) c.self.inside.commits.entries c.self.inside.shorts.entries)
    (sym (released-short (λ v. v.items) c.self.inside.commits.entries c.self.inside.shorts.entries c.args.session c.self.inside.rows c.release.new.self c.names-names.result.now c.self.invariant
    (subst IsSound (sym c.self.view_is) c.requires.sound) c.names-names.ensures c.release.ensures))
    (listed-released (λ v. v.items) c.self.inside.commits.entries c.self.inside.shorts.entries ShortLocks c.args.session c.self.inside.rows c.self.invariant)

pub returns-then-not-waits : goal.returns-then-not-waits
returns-then-not-waits c =
    released-short (λ v. v.items) c.self.inside.commits.entries c.self.inside.shorts.entries c.args.session c.self.inside.rows c.release.new.self c.names-names.result.now c.self.invariant
    (subst IsSound (sym c.self.view_is) c.requires.sound) c.names-names.ensures c.release.ensures
    ∙ ap (released ShortLocks c.args.session) c.self.view_is

pub returns-else-not-waits : goal.returns-else-not-waits
returns-else-not-waits c =
    released-short (λ v. v.items) c.self.inside.commits.entries c.self.inside.shorts.entries c.args.session c.self.inside.rows c.release.new.self c.names-names.result.now c.self.invariant
    (subst IsSound (sym c.self.view_is) c.requires.sound) c.names-names.ensures c.release.ensures
    ∙ ap (released ShortLocks c.args.session) c.self.view_is
