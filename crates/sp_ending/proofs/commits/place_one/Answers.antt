use Rattle.std.proofs.Common.{◌≡◌, ◌∙◌, ◌+◌, ◌<◌, ◌++◌, ℕ, List, [], ◌∷◌, length, ap, sym, subst, refl}
use Rattle.std.specs.Prelude.{true, Some, slice_set}
use Rattle.sp_rect.specs.declared.commit.Commit.{Commit as AnyCommit}
use Rattle.sp_rect.specs.Serial.{Serial}
use Rattle.sp_locks.specs.declared.row.Scope.TheVariants.{AllRows}
use Rattle.sp_locks.specs.Table.{released}
use Rattle.sp_node.specs.Change.{table_with}
use Rattle.sp_node.specs.Marks.{settled}
use Rattle.sp_node.specs.Table.{entries_of}
use Rattle.sp_model.specs.declared.session.Session.{Session}
use Rattle.sp_model.specs.State.{is_active}
use Rattle.sp_model.specs.Refusals.{under_way}
use Rattle.sp_model.specs.Moves.{placed_commit, placed_found, at_place}
use Rattle.sp_state.specs.Held.{kernel_of}
use Rattle.sp_state.proofs.Standing.{got_at, with_change-set}
use Rattle.sp_ending.specs.declared.marks.Ending.TheVariants.{Commit}
use Rattle.sp_ending.specs.Ends.{ended, AreClean}
use Rattle.sp_ending.proofs.Counted.{sum-of, goes-placed, room-left, fits-committed}
use Rattle.sp_ending.proofs.Departures.{sits, one-at, clean-for}
use Rattle.sp_ending.proofs.Taking.{commit-is, placed-is}
use Rattle.sp_ending.proofs.commits.place_one.Goals as goal

pub end_marks-requires-clause-clean : goal.end_marks-requires-clause-clean
end_marks-requires-clause-clean c =
    let s = c.args.state.now in
    let x = c.index_mut-seat.result.now in
    let bound = subst (λ (xs : List Session). c.in-Some.at < length xs) c.as_slice.ensures.value c.in-Some.ensures.bound in
    let got = got_at s.seats.items c.in-Some.at x bound c.index_mut-seat.ensures.value in
    let here = sits (kernel_of s) c.args.session c.in-Some.at c.as_slice.result.now x c.as_slice.ensures.value c.in-Some.ensures.found got in
    let may = c.requires.may in
    let same = one-at s.seats.items c.args.session may.session x may.stands here.at in
    let active = subst (λ (z : Session). is_active z ≡ true) same may.active in
    subst (λ (n : ℕ). AreClean Commit n (entries_of s.tree.table)) (sym c.number-number.ensures) (clean-for Commit (kernel_of s) x may.untouched here.here active)

pub add-requires-clause-room : goal.add-requires-clause-room
add-requires-clause-room c =
    let s = c.args.state.now in
    let x = c.index_mut-seat.result.now in
    let bound = subst (λ (xs : List Session). c.in-Some.at < length xs) c.as_slice.ensures.value c.in-Some.ensures.bound in
    let got = got_at s.seats.items c.in-Some.at x bound c.index_mut-seat.ensures.value in
    let here = sits (kernel_of s) c.args.session c.in-Some.at c.as_slice.result.now x c.as_slice.ensures.value c.in-Some.ensures.found got in
    let may = c.requires.may in
    let same = one-at s.seats.items c.args.session may.session x may.stands here.at in
    let active = subst (λ (z : Session). is_active z ≡ true) same may.active in
    room-left s x c.requires.fits may.ascending here.here active

pub add-requires-clause-serial : goal.add-requires-clause-serial
add-requires-clause-serial c =
    let s = c.args.state.now in
    let x = c.index_mut-seat.result.now in
    let bound = subst (λ (xs : List Session). c.in-Some.at < length xs) c.as_slice.ensures.value c.in-Some.ensures.bound in
    let got = got_at s.seats.items c.in-Some.at x bound c.index_mut-seat.ensures.value in
    let here = sits (kernel_of s) c.args.session c.in-Some.at c.as_slice.result.now x c.as_slice.ensures.value c.in-Some.ensures.found got in
    let may = c.requires.may in
    let same = one-at s.seats.items c.args.session may.session x may.stands here.at in
    let active = subst (λ (z : Session). is_active z ≡ true) same may.active in
    let place = c.next_place-place.ensures ∙ ap (λ (cs : List AnyCommit). length cs + 1) c.commits.ensures.commits in
    let commit = commit-is (kernel_of s) x c.take_place-commit.result c.next_place-place.result c.take_place-commit.ensures.commit place in
    subst (λ (d : AnyCommit). Serial s.audit.base (s.audit.commits ++ d ∷ [])) (ap (λ (z : Session). placed_commit z (kernel_of s)) same ∙ sym commit) may.serial

pub returns-clause-placed : goal.returns-clause-placed
unfolding ended
returns-clause-placed c = λ y at.
    let s = c.args.state.now in
    let x = c.index_mut-seat.result.now in
    let bound = subst (λ (xs : List Session). c.in-Some.at < length xs) c.as_slice.ensures.value c.in-Some.ensures.bound in
    let got = got_at s.seats.items c.in-Some.at x bound c.index_mut-seat.ensures.value in
    let here = sits (kernel_of s) c.args.session c.in-Some.at c.as_slice.result.now x c.as_slice.ensures.value c.in-Some.ensures.found got in
    let may = c.requires.may in
    let same = one-at s.seats.items c.args.session may.session x may.stands here.at in
    let active = subst (λ (z : Session). is_active z ≡ true) same may.active in
    let place = c.next_place-place.ensures ∙ ap (λ (cs : List AnyCommit). length cs + 1) c.commits.ensures.commits in
    let commit = commit-is (kernel_of s) x c.take_place-commit.result c.next_place-place.result c.take_place-commit.ensures.commit place in
    placed-is (kernel_of s) x _ _ _ _ _ _ _
    (c.end_marks.ensures.table ∙ ap (λ (n : ℕ). table_with (settled n) s.tree.table) c.number-number.ensures)
    (c.release_all.ensures.rows ∙ ap (λ (n : ℕ). released AllRows n s.locks) (sym here.number))
    (ap (slice_set s.seats.items c.in-Some.at) c.take_place-commit.ensures.placed ∙ with_change-set s.seats.items c.in-Some.at x at_place may.ascending got)
    c.add.ensures.base (c.add.ensures.commits ∙ ap (λ (d : AnyCommit). s.audit.commits ++ d ∷ []) commit) c.add.ensures.ended
    ∙ ap (λ (z : Session). record (placed_found (Some z) (kernel_of s)) { dead = c.end_marks.new.dead.items }) (one-at s.seats.items c.args.session x y here.at at)

pub returns-clause-fits : goal.returns-clause-fits
returns-clause-fits c =
    let s = c.args.state.now in
    let x = c.index_mut-seat.result.now in
    let bound = subst (λ (xs : List Session). c.in-Some.at < length xs) c.as_slice.ensures.value c.in-Some.ensures.bound in
    let got = got_at s.seats.items c.in-Some.at x bound c.index_mut-seat.ensures.value in
    let here = sits (kernel_of s) c.args.session c.in-Some.at c.as_slice.result.now x c.as_slice.ensures.value c.in-Some.ensures.found got in
    let may = c.requires.may in
    let same = one-at s.seats.items c.args.session may.session x may.stands here.at in
    let active = subst (λ (z : Session). is_active z ≡ true) same may.active in
    let sessions = ap (slice_set s.seats.items c.in-Some.at) c.take_place-commit.ensures.placed ∙ with_change-set s.seats.items c.in-Some.at x at_place may.ascending got in
    fits-committed s _ x c.take_place-commit.result c.requires.fits (subst (λ (z : Session). under_way z.stage ≡ 0) same may.quiet)
    (λ f. subst (λ (xs : List Session). sum-of f xs + f x ≡ sum-of f s.seats.items) (sym sessions) (goes-placed s.seats.items x may.ascending here.here active f))
    c.add.ensures.commits (ap (λ (d : AnyCommit). d.ops) c.take_place-commit.ensures.commit) c.add.ensures.room refl refl c.end_marks.ensures.room tt
