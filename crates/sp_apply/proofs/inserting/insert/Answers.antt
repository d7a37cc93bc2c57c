use Rattle.std.proofs.Common.{◌+◌, [], length, refl, sym, ap, ◌∙◌, true≢false, arith}
use Rattle.sp_rect.specs.declared.operation.Op.TheVariants.{Put}
use Rattle.sp_rect.specs.declared.operation.Reply.TheVariants.{Done}
use Rattle.sp_node.specs.Plan.{planned}
use Rattle.sp_node.specs.Table.{Table, entries_of}
use Rattle.sp_state.specs.Held.{kernel_of}
use Rattle.sp_apply.proofs.Overs.{kept_fits}
use Rattle.sp_apply.proofs.Puts.{free_gifts, longer, inserted_entry}
use Rattle.sp_apply.proofs.Ready.{stands_within, seat_is}
use Rattle.sp_apply.proofs.inserting.insert.Goals as goal

pub give-requires : goal.give-requires
give-requires c =
    let s = c.args.state.now in
    let x = c.requires.going.0 in
    let r = c.requires.going.1 in
    record { free = free_gifts (kernel_of s) x c.index.result.now r (planned s.tree.table c.args.plan) c.in_ok-gifts.gifts c.requires.sound c.requires.going.3.inserted c.in_ok-gifts.ensures }

pub keep-requires-clause-bound : goal.keep-requires-clause-bound
keep-requires-clause-bound c = stands_within c.args.state.now.seats.items c.args.at c.requires.going.0 c.requires.going.2.stands

pub returns-in_err-keep-clause-same : goal.returns-in_err-keep-clause-same
returns-in_err-keep-clause-same c = absurd (true≢false (sym (c.in_err-keep.ensures.sure c.requires.going.0 (Put c.requires.going.1) [] c.requires.going.2.stands c.requires.going.2.planned refl)))

pub returns-clause-done : goal.returns-clause-done
returns-clause-done c =
    let s = c.args.state.now in
    let x = c.requires.going.0 in
    let r = c.requires.going.1 in
    let ready = c.requires.going.2 in
    let y = c.index.result.now in
    inserted_entry (kernel_of s) c.args.session c.args.at x y r c.args.plan c.in_ok-gifts.gifts c.adopt.new.self.table (s.next_entry + 1) c.keep.new.seats.items c.make_graves.new.dead.items c.give.new.self c.release_short.new.self
    ready c.requires.going.3 (seat_is s.seats.items c.args.at x y c.index.ensures ready.stands) c.in_ok-gifts.ensures
    (c.adopt.ensures ∙ ap (λ (t : Table). planned t c.args.plan) c.in_ok-make_room.ensures.table) refl (c.in_ok-keep.ensures.ok x (Put r) [] ready.stands ready.planned)
    c.in_ok-make_graves.ensures.same c.in_ok-give.ensures.ok c.release_short.ensures.rows

pub returns-clause-fits : goal.returns-clause-fits
returns-clause-fits c =
    let s = c.args.state.now in
    let x = c.requires.going.0 in
    let r = c.requires.going.1 in
    let ready = c.requires.going.2 in
    let tree = c.adopt.ensures ∙ ap (λ (t : Table). planned t c.args.plan) c.in_ok-make_room.ensures.table in
    let many = ap (λ (t : Table). length (entries_of t)) tree in
    let more = longer (kernel_of s) x r (planned s.tree.table c.args.plan) c.requires.sound c.requires.going.3.inserted in
    let room = c.in_ok-make_graves.ensures.room in
    let all = c.len.ensures in
    let same = ap (λ (t : Table). length (entries_of t)) c.in_ok-make_room.ensures.table in
    kept_fits s c.args.session c.args.at x (Put r) c.requires.sound c.requires.fits ready Done _ (c.in_ok-keep.ensures.ok x (Put r) [] ready.stands ready.planned) refl (omega (arith, many, more, room, all, same)) refl (omega arith) tt
