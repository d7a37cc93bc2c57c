use Rattle.std.proofs.Common.{sym, subst}
use Rattle.sp_node.specs.declared.node.Entry.{Entry}
use Rattle.sp_node.specs.Plan.{planned}
use Rattle.sp_model.specs.Plans.{IsInserted}
use Rattle.sp_state.specs.Held.{kernel_of}
use Rattle.sp_requests.proofs.Needed.{put-needs}
use Rattle.sp_requests.proofs.needing.put_needs.Goals as goal

pub returns-clause-needs : goal.returns-clause-needs
returns-clause-needs c =
    put-needs (kernel_of c.args.state.now) c.args.seat.now c.args.added.now c.number.result c.in_ok-entry.entry c.in_ok-plan.plan c.choose_leaf-chosen.result c.searches.result.now c.in_ok-commit.commit c.in_ok-short.short
    c.number.ensures c.searches.ensures c.requires.adding c.in_ok-entry.ensures c.in_ok-plan.ensures.inserted c.choose_leaf-chosen.ensures c.in_ok-commit.ensures c.in_ok-short.ensures

pub returns-clause-sketch : goal.returns-clause-sketch
returns-clause-sketch c =
    let t = c.args.state.now.tree.table in
    let plan = c.in_ok-plan.plan in
    record {
      made = c.in_ok-plan.ensures.made;
      inserted = subst (λ (e : Entry). IsInserted t e (planned t plan)) (sym c.in_ok-kept.ensures) c.in_ok-plan.ensures.inserted;
    }
