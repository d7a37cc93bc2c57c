use Rattle.std.proofs.Common.{◌≡◌, subst, sym, ap, ◌∙◌}
use Rattle.std.specs.List.{filter}
use Rattle.std.specs.List.Sorted.{IsPermutation, IsStrictlyIncreasing}
use Rattle.sp_rect.specs.Store.{part_of}
use Rattle.sp_node.specs.Index.{entry_of}
use Rattle.sp_node.proofs.Members.{ascends_filter}
use Rattle.sp_ops.specs.Seen.{sees, numbers_seen}
use Rattle.sp_ops.proofs.Seeing.{seen_numbers}
use Rattle.sp_ops.proofs.seen.seen_by.Goals as goal

kept : (c : goal.After-drop-numbers-inside-2) → c.from_vec.result ≡ filter (λ n. sees c.args.txn (entry_of c.args.tree.now.table.nodes n)) c.in_ok-numbers.numbers
kept c = c.from_vec.ensures ∙ c.in_ok-kept.ensures ∙ ap (filter (λ n. sees c.args.txn (entry_of c.args.tree.now.table.nodes n))) c.as_slice.ensures

pub returns-clause-found : goal.returns-clause-found
returns-clause-found c =
    subst (IsPermutation (numbers_seen c.args.tree.now.table c.args.txn (part_of c.args.op.now))) (sym (kept c)) (seen_numbers c.args.tree.now.table c.root-valid.ensures.valid c.args.txn (part_of c.args.op.now) c.in_ok-numbers.numbers c.in_ok-numbers.ensures.found c.in_ok-numbers.ensures.ascending)

pub returns-clause-ascending : goal.returns-clause-ascending
returns-clause-ascending c = subst IsStrictlyIncreasing (sym (kept c)) (ascends_filter (λ n. sees c.args.txn (entry_of c.args.tree.now.table.nodes n)) c.in_ok-numbers.numbers c.in_ok-numbers.ensures.ascending)
