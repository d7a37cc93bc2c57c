use Rattle.std.proofs.Common.{◌≡◌}
use Rattle.std.proofs.lemmas.Result.{IfOk-weaker}
use Rattle.sp_node.specs.declared.node.Entry.{Entry as EntryOf}
use Rattle.sp_node.specs.declared.plan.Plan.{Plan}
use Rattle.sp_grow.specs.Grown.{IsDone}
use Rattle.sp_grow.specs.Overlay.{table_of}
use Rattle.sp_grow.specs.Below.{Aims, IsInsertion}
use Rattle.sp_grow.specs.declared.member.Member.TheVariants.{Entry}
use Rattle.sp_grow.proofs.Entered.{aims_at, entered}
use Rattle.sp_grow.proofs.grown.plan.Goals as goal

pub insert_at-requires : goal.insert_at-requires
insert_at-requires c = let f = c.requires.fresh in aims_at c.args.tree.now.table c.next-valid.ensures.valid c.requires.numbers f.0 c.args.entry.now c.new-base.result f.1 c.new-base.ensures

pub returns : goal.returns
returns c =
    let f = c.requires.fresh in
    IfOk-weaker c.insert_at.result (λ (plan : Plan). (a : Aims (table_of c.new-base.result) c.args.entry.now 0 c.new-base.result.plan.root) → IsInsertion (table_of c.new-base.result) a.k a.x a.level plan) (λ (plan : Plan). (e : EntryOf) → c.args.entry.now ≡ Entry e → IsDone c.args.tree.now.table e plan)
    (λ plan h e is. entered c.args.tree.now.table c.next-valid.ensures.valid c.requires.numbers f.0 c.next-valid.ensures.rising f.2 f.3 c.args.entry.now c.new-base.result plan f.1 c.new-base.ensures h e is) c.insert_at.ensures.step
