use Rattle.std.proofs.Common.{◌≡◌, [], map, ◌∙◌, ap, sym, arith, length}
use Rattle.std.proofs.lemmas.Iterator.Adapters.{YieldsList-from_vec}
use Rattle.std.proofs.lemmas.Iterator.Consumers.{YieldsList-end}
use Rattle.std.proofs.lemmas.List.{map-id}
use Rattle.sp_plain.specs.declared.change.Change.TheVariants.{Put}
use Rattle.sp_plain.specs.Taking.{taken}
use Rattle.sp_journal.proofs.Payloads.{checkpoint_puts}
use Rattle.sp_journal.proofs.contents.puts.Goals as goal

pub returns : goal.returns
returns c = λ is.
    let gives = c.into_iter-record-iterator.ensures.into_iter_gives in
    let items = c.into_vec-record-items.ensures in
    let e = YieldsList-end (YieldsList-from_vec {s = c.into_iter-record-iterator.result} c.args.records (gives.0 ∙ items) (omega (arith, gives.1, c.into_vec-record-items.result.ok.0, ap length items))) c.loop-record.yielded c.loop-record.record-iterator c.loop-record.yielded_by _ c.next.new.self c.in-None.is c.next.ensures.steps in
    let all : c.loop-record.yielded ≡ c.args.records = sym (map-id c.loop-record.yielded) ∙ e.0 in
    ap (λ l. taken l []) (c.loop-record.invariant ∙ ap (λ l. map Put l) all) ∙ checkpoint_puts c.args.records is
