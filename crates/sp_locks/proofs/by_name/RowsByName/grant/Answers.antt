use Rattle.sp_locks.specs.Answers.{is_yes}
use Rattle.sp_locks.proofs.Listing.{listed-more}
use Rattle.sp_locks.proofs.by_name.RowsByName.grant.Goals as goal

pub invariant_of-self : goal.invariant_of-self
invariant_of-self c =
    listed-more (λ v. v.items) c.self.inside.commits.entries c.self.inside.shorts.entries c.grant.new.commits.entries c.grant.new.shorts.entries c.args.lock (is_yes c.grant.result) c.self.inside.rows c.grant.new.self
    c.self.invariant c.grant.ensures.commits c.grant.ensures.shorts c.grant.ensures.listed c.grant.ensures.rows
