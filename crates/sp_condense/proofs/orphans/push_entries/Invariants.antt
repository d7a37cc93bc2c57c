use Rattle.std.proofs.Common.{◌≡◌, ◌++◌, take, map}
use Rattle.sp_grow.specs.declared.member.Member.TheVariants.{Entry as EntryOf}
use Rattle.sp_condense.proofs.orphans.push_entries.Given as goal

abbrev pub invariant-loop-entry : goal.invariant-loop-entry
invariant-loop-entry l = l.orphans.items ≡ l.fn.orphans.items ++ map (λ m. record { depth = l.depth; member = EntryOf m }) (take l.entry-index l.entries)
