use Rattle.std.proofs.Common.{◌≡◌, ℕ, ◌+◌, ◌<◌, [], refl, sym, ap, ◌∙◌, subst, arith}
use Rattle.sp_rect.specs.declared.operation.Reply.{Reply}
use Rattle.sp_model.specs.declared.session.Stage.TheVariants.{Idle}
use Rattle.sp_model.specs.State.{staged, with_change}
use Rattle.sp_model.specs.Moves.{lengthened}
use Rattle.sp_model.specs.Stepped.{records_in, most_records_told}
use Rattle.sp_state.specs.Held.{kernel_of}
use Rattle.sp_apply.proofs.Overs.{full_of_replies, stayed, kept_fits, as_many_marked, marked_is}
use Rattle.sp_apply.proofs.Ready.{stands_within}
use Rattle.sp_apply.proofs.staying.stay.Goals as goal

pub passes-requires : goal.passes-requires
passes-requires c =
    let kept = c.requires.fits.records in
    let few = c.requires.sound.counts.replies in
    let small = c.records_in-count.ensures.small in
    omega (arith, kept, few, small)

pub returns-then-passes-clause-done : goal.returns-then-passes-clause-done
returns-then-passes-clause-done c =
    let s = c.args.state.now in
    let x = c.requires.ready.0 in
    let op = c.requires.ready.1 in
    let ready = c.requires.ready.2 in
    let passes : (0 < c.records_in-count.result) × (most_records_told < s.records + c.records_in-count.result) = c.if-passes.ensures in
    full_of_replies (kernel_of s) c.args.session c.args.at x op ready c.args.effect.reply s.records (kernel_of c.end.new.state) c.requires.ready.3.reply c.requires.fits.records
    (subst (λ (n : ℕ). (0 < n) × (most_records_told < s.records + n)) c.records_in-count.ensures.count passes) (c.end.ensures.over x op ready)

pub keep-requires-clause-bound : goal.keep-requires-clause-bound
keep-requires-clause-bound c = stands_within c.args.state.now.seats.items c.args.at c.requires.ready.0 c.requires.ready.2.stands

pub returns-clause-done : goal.returns-clause-done
returns-clause-done c =
    let s = c.args.state.now in
    let x = c.requires.ready.0 in
    let op = c.requires.ready.1 in
    let ready = c.requires.ready.2 in
    let effect = c.requires.ready.3 in
    let few : (0 < c.records_in-count.result) × (most_records_told < s.records + c.records_in-count.result) → ⊥ = c.if-passes.ensures in
    let same : c.in_ok-answer.answer ≡ c.args.effect.reply = c.in_ok-answer.ensures in
    let marks = marked_is s.tree.table c.note_all.new.tree.table c.mark_all.new.tree.table x.txn.number op c.args.effect.marks c.into_vec.result.items c.in_ok-note_all.ensures.table c.into_vec.ensures effect.marks c.mark_all.ensures in
    let sessions = c.in_ok-keep.ensures.ok x op [] ready.stands ready.planned in
    stayed (kernel_of s) c.args.session c.args.at x op ready c.in_ok-answer.answer s.records c.mark_all.new.tree.table c.keep.new.seats.items c.release_short.new.self (same ∙ effect.reply) c.requires.fits.records
    (subst (λ (n : ℕ). (0 < n) × (most_records_told < s.records + n) → ⊥) (c.records_in-count.ensures.count ∙ ap records_in (sym same)) few) c.requires.ready.4 marks
    (sessions ∙ ap (λ (r : Reply). staged x.txn.session Idle (with_change x.txn.session (lengthened op r) s.seats.items)) (sym same)) c.release_short.ensures.rows

pub returns-clause-fits : goal.returns-clause-fits
returns-clause-fits c =
    let s = c.args.state.now in
    let x = c.requires.ready.0 in
    let op = c.requires.ready.1 in
    let ready = c.requires.ready.2 in
    let effect = c.requires.ready.3 in
    let marks = marked_is s.tree.table c.note_all.new.tree.table c.mark_all.new.tree.table x.txn.number op c.args.effect.marks c.into_vec.result.items c.in_ok-note_all.ensures.table c.into_vec.ensures effect.marks c.mark_all.ensures in
    let many = as_many_marked x.txn.number op s.tree.table c.mark_all.new.tree.table marks in
    let room = c.requires.fits.graves in
    kept_fits s c.args.session c.args.at x op c.requires.sound c.requires.fits ready c.args.effect.reply _ (c.in_ok-keep.ensures.ok x op [] ready.stands ready.planned) refl (omega (arith, many, room)) refl
    (ap (λ (n : ℕ). s.records + n) c.records_in-count.ensures.count)
    tt
