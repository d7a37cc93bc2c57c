use Rattle.std.proofs.Common.{◌≡◌, ◌∙◌, ◌++◌, ◌<◌, ℕ, List, [], ◌∷◌, length, ap, sym, subst, refl}
use Rattle.std.specs.Prelude.{slice_set}
use Rattle.sp_event.specs.declared.event.Event.TheVariants.{Commit}
use Rattle.sp_event.specs.declared.answer.Answer.TheVariants.{Queued as IsQueued}
use Rattle.sp_model.specs.declared.session.Session.{Session}
use Rattle.sp_model.specs.declared.session.Stage.TheVariants.{Queued}
use Rattle.sp_model.specs.State.{Kernel, at_stage, staged, is_active_stage}
use Rattle.sp_model.specs.Moves.{with_stage}
use Rattle.sp_model.specs.Stepped.{Does}
use Rattle.sp_model.specs.Removal.{IsTakenOut}
use Rattle.sp_model.proofs.Sessions.{found-among}
use Rattle.sp_state.specs.Held.{kernel_of}
use Rattle.sp_state.proofs.Standing.{got_at, with_change-set}
use Rattle.sp_ending.proofs.Departures.{found-there, got-among, one-got}
use Rattle.sp_ending.proofs.Counted.{fits-changed}
use Rattle.sp_ending.proofs.queueing.join_queue.Goals as goal

-- the session waits, and its number is last in the queue
joined : (k : Kernel) (s : ℕ) (sessions : List Session) (queue : List ℕ) → Does IsTakenOut k (Commit s) IsQueued (record (with_stage s Queued k) { queue = k.queue ++ s ∷ [] }) → sessions ≡ staged s Queued k.sessions → queue ≡ k.queue ++ s ∷ []
    → Does IsTakenOut k (Commit s) IsQueued (record k { sessions = sessions; queue = queue })
joined k s sessions queue h is last = subst (λ (xs : List Session). Does IsTakenOut k (Commit s) IsQueued (record k { sessions = xs; queue = queue })) (sym is) (subst (λ (ns : List ℕ). Does IsTakenOut k (Commit s) IsQueued (record k { sessions = staged s Queued k.sessions; queue = ns })) (sym last) h)

pub returns-clause-done : goal.returns-clause-done
returns-clause-done c =
    let s = c.args.state.now in
    let seat = c.index_mut-seat.result.now in
    let x = found-there c.args.session c.in-Some.at s.seats.items c.as_slice.result.now c.as_slice.ensures.value c.in-Some.ensures.found c.in-Some.ensures.bound in
    let bound = subst (λ (xs : List Session). c.in-Some.at < length xs) c.as_slice.ensures.value c.in-Some.ensures.bound in
    let got = got_at s.seats.items c.in-Some.at seat bound c.index_mut-seat.ensures.value in
    let same = one-got s.seats.items c.in-Some.at seat x.0 got x.1 in
    let number = ap (λ (y : Session). y.txn.session) same ∙ (found-among c.args.session s.seats.items x.0 x.2).1 in
    joined (kernel_of s) c.args.session _ _
    (Does.JoinsQueue c.args.session x.0 x.2 (c.requires.idle x.0 x.2) (c.requires.changes x.0 x.2))
    (ap (slice_set s.seats.items c.in-Some.at) c.rest.ensures ∙ with_change-set s.seats.items c.in-Some.at seat (at_stage Queued) c.requires.sound.sessions.ascending got ∙ ap (λ (n : ℕ). staged n Queued s.seats.items) number)
    c.in_ok-push.ensures.items

pub returns-clause-fits : goal.returns-clause-fits
returns-clause-fits c =
    let s = c.args.state.now in
    let seat = c.index_mut-seat.result.now in
    let x = found-there c.args.session c.in-Some.at s.seats.items c.as_slice.result.now c.as_slice.ensures.value c.in-Some.ensures.found c.in-Some.ensures.bound in
    let bound = subst (λ (xs : List Session). c.in-Some.at < length xs) c.as_slice.ensures.value c.in-Some.ensures.bound in
    let got = got_at s.seats.items c.in-Some.at seat bound c.index_mut-seat.ensures.value in
    let same = one-got s.seats.items c.in-Some.at seat x.0 got x.1 in
    let idle = ap (λ (y : Session). y.stage) same ∙ c.requires.idle x.0 x.2 in
    let active = ap is_active_stage idle in
    fits-changed s seat c.requires.fits c.requires.sound.sessions.ascending (got-among s.seats.items c.in-Some.at seat got) (at_stage Queued) _
    (rw (active, idle) refl) (rw active refl) (rw active refl)
    (ap (slice_set s.seats.items c.in-Some.at) c.rest.ensures ∙ with_change-set s.seats.items c.in-Some.at seat (at_stage Queued) c.requires.sound.sessions.ascending got) refl refl refl refl refl c.requires.fits.sketch
