use Rattle.std.proofs.Common.{ap, length, get_or, arith}
use Rattle.sp_rect.specs.Store.{Area}
use Rattle.sp_rect.specs.declared.record.Record.{Record}
use Rattle.sp_plain.proofs.Handing.{handed_more}
use Rattle.sp_plain.proofs.keep.hand_out.Goals as goal

pub loop-record-preserved : goal.loop-record-preserved
loop-record-preserved c = λ v enough.
    let so_far = c.loop-record.invariant v enough in
    handed_more (Area c.args.rect.now) v c.args.records.now.items c.loop-record.record-items c.loop-record.record-index
    (get_or c.loop-record.record-items c.loop-record.record-index c.record-item.result) c.give.new.record c.loop-record.values.items c.give.new.values.items
    (omega (arith, ap length c.deref_mut-record-items.ensures.value)) so_far.0 so_far.1
    (ap (λ (d : Record). get_or c.loop-record.record-items c.loop-record.record-index d) c.record-item.is) (λ n k. c.give.ensures v n k)
