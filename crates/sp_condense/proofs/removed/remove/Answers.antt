use Rattle.std.proofs.Common.{◌∷◌, List, map, sym, subst}
use Rattle.std.proofs.lemmas.Result.{IfOk-weaker}
use Rattle.std.specs.List.Sorted.{IsPermutation}
use Rattle.sp_node.specs.declared.plan.Plan.{Plan}
use Rattle.sp_node.specs.Plan.{IsMadeOf, planned}
use Rattle.sp_node.specs.Table.{entries_of}
use Rattle.sp_condense.specs.declared.orphans.Orphan.{Orphan as Found}
use Rattle.sp_condense.specs.Removal.{IsRemoved, KeepsOthers}
use Rattle.sp_condense.specs.Staging.{Ready, IsOutcome}
use Rattle.sp_condense.proofs.Done.{ready_at, goes_at, stage_at, finished}
use Rattle.sp_condense.proofs.removed.remove.Goals as goal

pub insert_all-requires : goal.insert_all-requires
insert_all-requires c =
    let r = ready_at c.args.tree.now.table c.next-valid.ensures.valid c.next-valid.ensures.rising c.requires.numbers c.args.entry c.in_ok-rest.rest c.in_ok-rest.ensures c.in_ok-changed.changed c.in_ok-changed.ensures in
    (r.0, subst (λ (fs : List Found). Ready r.0 c.in_ok-changed.changed fs 0) (sym c.as_slice.ensures.value) r.1)

pub collapse-requires : goal.collapse-requires
collapse-requires c =
    let g = goes_at c.args.tree.now.table c.next-valid.ensures.valid c.next-valid.ensures.rising c.requires.numbers c.args.entry c.in_ok-rest.rest c.in_ok-rest.ensures c.in_ok-changed.changed c.insert_all.new.tree c.as_slice.result.now c.in_ok-changed.ensures c.as_slice.ensures.value c.in_ok-insert_all.ensures in
    stage_at c.args.tree.now.table c.next-valid.ensures.valid c.next-valid.ensures.rising c.requires.numbers c.args.entry c.in_ok-rest.rest c.in_ok-rest.ensures c.insert_all.new.tree g.0 g.1

pub returns-clause-made : goal.returns-clause-made
returns-clause-made c =
    let g = goes_at c.args.tree.now.table c.next-valid.ensures.valid c.next-valid.ensures.rising c.requires.numbers c.args.entry c.in_ok-rest.rest c.in_ok-rest.ensures c.in_ok-changed.changed c.insert_all.new.tree c.as_slice.result.now c.in_ok-changed.ensures c.as_slice.ensures.value c.in_ok-insert_all.ensures in
    let s = stage_at c.args.tree.now.table c.next-valid.ensures.valid c.next-valid.ensures.rising c.requires.numbers c.args.entry c.in_ok-rest.rest c.in_ok-rest.ensures c.insert_all.new.tree g.0 g.1 in
    let d = c.in_ok-collapse.ensures s.0 s.1 s.2 in
    let done = λ (plan : Plan) (out : IsOutcome c.args.tree.now.table.nodes c.collapse.new.tree plan). finished c.args.tree.now.table c.next-valid.ensures.valid c.next-valid.ensures.rising c.requires.numbers c.args.entry c.in_ok-rest.rest c.in_ok-rest.ensures c.insert_all.new.tree g.0 g.1 c.collapse.new.tree d plan out in
    IfOk-weaker c.settle.result (IsOutcome c.args.tree.now.table.nodes c.collapse.new.tree) (λ (plan : Plan). IsMadeOf c.args.tree.now.table plan) (λ plan out. (done plan out).made) c.settle.ensures

pub returns-clause-removed : goal.returns-clause-removed
returns-clause-removed c =
    let g = goes_at c.args.tree.now.table c.next-valid.ensures.valid c.next-valid.ensures.rising c.requires.numbers c.args.entry c.in_ok-rest.rest c.in_ok-rest.ensures c.in_ok-changed.changed c.insert_all.new.tree c.as_slice.result.now c.in_ok-changed.ensures c.as_slice.ensures.value c.in_ok-insert_all.ensures in
    let s = stage_at c.args.tree.now.table c.next-valid.ensures.valid c.next-valid.ensures.rising c.requires.numbers c.args.entry c.in_ok-rest.rest c.in_ok-rest.ensures c.insert_all.new.tree g.0 g.1 in
    let d = c.in_ok-collapse.ensures s.0 s.1 s.2 in
    let done = λ (plan : Plan) (out : IsOutcome c.args.tree.now.table.nodes c.collapse.new.tree plan). finished c.args.tree.now.table c.next-valid.ensures.valid c.next-valid.ensures.rising c.requires.numbers c.args.entry c.in_ok-rest.rest c.in_ok-rest.ensures c.insert_all.new.tree g.0 g.1 c.collapse.new.tree d plan out in
    IfOk-weaker c.settle.result (IsOutcome c.args.tree.now.table.nodes c.collapse.new.tree) (λ (plan : Plan). IsRemoved c.args.tree.now.table c.args.entry (planned c.args.tree.now.table plan)) (λ plan out. (done plan out).removed) c.settle.ensures

pub returns-clause-keeps : goal.returns-clause-keeps
returns-clause-keeps c =
    let g = goes_at c.args.tree.now.table c.next-valid.ensures.valid c.next-valid.ensures.rising c.requires.numbers c.args.entry c.in_ok-rest.rest c.in_ok-rest.ensures c.in_ok-changed.changed c.insert_all.new.tree c.as_slice.result.now c.in_ok-changed.ensures c.as_slice.ensures.value c.in_ok-insert_all.ensures in
    let s = stage_at c.args.tree.now.table c.next-valid.ensures.valid c.next-valid.ensures.rising c.requires.numbers c.args.entry c.in_ok-rest.rest c.in_ok-rest.ensures c.insert_all.new.tree g.0 g.1 in
    let d = c.in_ok-collapse.ensures s.0 s.1 s.2 in
    let done = λ (plan : Plan) (out : IsOutcome c.args.tree.now.table.nodes c.collapse.new.tree plan). finished c.args.tree.now.table c.next-valid.ensures.valid c.next-valid.ensures.rising c.requires.numbers c.args.entry c.in_ok-rest.rest c.in_ok-rest.ensures c.insert_all.new.tree g.0 g.1 c.collapse.new.tree d plan out in
    IfOk-weaker c.settle.result (IsOutcome c.args.tree.now.table.nodes c.collapse.new.tree) (λ (plan : Plan). KeepsOthers c.args.tree.now.table c.args.entry (planned c.args.tree.now.table plan)) (λ plan out. (done plan out).keeps) c.settle.ensures

pub returns-clause-left : goal.returns-clause-left
returns-clause-left c =
    let g = goes_at c.args.tree.now.table c.next-valid.ensures.valid c.next-valid.ensures.rising c.requires.numbers c.args.entry c.in_ok-rest.rest c.in_ok-rest.ensures c.in_ok-changed.changed c.insert_all.new.tree c.as_slice.result.now c.in_ok-changed.ensures c.as_slice.ensures.value c.in_ok-insert_all.ensures in
    let s = stage_at c.args.tree.now.table c.next-valid.ensures.valid c.next-valid.ensures.rising c.requires.numbers c.args.entry c.in_ok-rest.rest c.in_ok-rest.ensures c.insert_all.new.tree g.0 g.1 in
    let d = c.in_ok-collapse.ensures s.0 s.1 s.2 in
    let done = λ (plan : Plan) (out : IsOutcome c.args.tree.now.table.nodes c.collapse.new.tree plan). finished c.args.tree.now.table c.next-valid.ensures.valid c.next-valid.ensures.rising c.requires.numbers c.args.entry c.in_ok-rest.rest c.in_ok-rest.ensures c.insert_all.new.tree g.0 g.1 c.collapse.new.tree d plan out in
    IfOk-weaker c.settle.result (IsOutcome c.args.tree.now.table.nodes c.collapse.new.tree) (λ (plan : Plan). IsPermutation (map (λ e. e.number) (entries_of c.args.tree.now.table)) (c.args.entry ∷ map (λ e. e.number) (entries_of (planned c.args.tree.now.table plan)))) (λ plan out. (done plan out).left) c.settle.ensures
