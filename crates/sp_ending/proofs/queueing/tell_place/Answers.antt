use Rattle.std.proofs.Common.{◌≡◌, ◌∙◌, ℕ, List, ap, sym, subst, refl}
use Rattle.sp_rect.specs.declared.commit.Commit.{Commit as AnyCommit}
use Rattle.sp_event.specs.declared.event.Event.TheVariants.{Commit}
use Rattle.sp_event.specs.declared.answer.Answer.TheVariants.{Committed}
use Rattle.sp_model.specs.declared.session.Session.{Session}
use Rattle.sp_model.specs.State.{Kernel, is_active_stage, sessions_without}
use Rattle.sp_model.specs.Stepped.{Does, last_place}
use Rattle.sp_model.specs.Removal.{IsTakenOut}
use Rattle.sp_model.proofs.Sessions.{found-among}
use Rattle.sp_state.specs.Held.{kernel_of}
use Rattle.sp_ending.proofs.Departures.{found-there, got-among, one-got}
use Rattle.sp_ending.proofs.Counted.{fits-told}
use Rattle.sp_ending.proofs.queueing.tell_place.Goals as goal

-- the news of a place, with the list of sessions that is left
told : (k : Kernel) (s place : ℕ) (x : Session) (left : List Session) → (h : Does IsTakenOut k (Commit s) (Committed (last_place s k.commits 0)) (record k { sessions = sessions_without s k.sessions })) → place ≡ last_place s k.commits 0 → left ≡ sessions_without s k.sessions
    → Does IsTakenOut k (Commit s) (Committed place) (record k { sessions = left })
told k s place x left h is same = subst (λ (n : ℕ). Does IsTakenOut k (Commit s) (Committed n) (record k { sessions = left })) (sym is) (subst (λ (xs : List Session). Does IsTakenOut k (Commit s) (Committed (last_place s k.commits 0)) (record k { sessions = xs })) (sym same) h)

pub returns-in-Some-clause-done : goal.returns-in-Some-clause-done
returns-in-Some-clause-done c =
    let s = c.args.state.now in
    let seat = c.dismiss-seat.result in
    let x = found-there c.args.session c.in-Some.at s.seats.items c.as_slice.result.now c.as_slice.ensures.value c.in-Some.ensures.found c.in-Some.ensures.bound in
    let same = one-got s.seats.items c.in-Some.at seat x.0 c.dismiss-seat.ensures.one x.1 in
    let at = (found-among c.args.session s.seats.items x.0 x.2).1 in
    told (kernel_of s) c.args.session c.last_place.result x.0 c.dismiss-seat.new.seats.items
    (Does.TellsPlace c.args.session x.0 x.2 (c.requires.placed x.0 x.2))
    (c.last_place.ensures ∙ ap (λ (cs : List AnyCommit). last_place c.args.session cs 0) c.commits.ensures.commits)
    (c.dismiss-seat.ensures.others ∙ ap (λ (n : ℕ). sessions_without n s.seats.items) (ap (λ (y : Session). y.txn.session) same ∙ at))

pub returns-in-Some-clause-fits : goal.returns-in-Some-clause-fits
returns-in-Some-clause-fits c =
    let s = c.args.state.now in
    let seat = c.dismiss-seat.result in
    let x = found-there c.args.session c.in-Some.at s.seats.items c.as_slice.result.now c.as_slice.ensures.value c.in-Some.ensures.found c.in-Some.ensures.bound in
    let same = one-got s.seats.items c.in-Some.at seat x.0 c.dismiss-seat.ensures.one x.1 in
    fits-told s seat c.requires.fits c.requires.sound.sessions.ascending (got-among s.seats.items c.in-Some.at seat c.dismiss-seat.ensures.one) _
    (ap is_active_stage (ap (λ (y : Session). y.stage) same ∙ c.requires.placed x.0 x.2)) c.dismiss-seat.ensures.others refl refl refl refl refl c.requires.fits.sketch
