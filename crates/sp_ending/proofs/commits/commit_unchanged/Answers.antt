use Rattle.std.proofs.Common.{◌≡◌, ◌∙◌, ◌+◌, ◌++◌, ℕ, List, [], ◌∷◌, length, ap, sym, subst, refl}
use Rattle.std.specs.Prelude.{false}
use Rattle.sp_rect.specs.declared.commit.Commit.{Commit as AnyCommit}
use Rattle.sp_rect.specs.Serial.{Serial}
use Rattle.sp_locks.specs.declared.row.Scope.TheVariants.{AllRows}
use Rattle.sp_locks.specs.Table.{released}
use Rattle.sp_node.specs.Change.{table_with}
use Rattle.sp_node.specs.Marks.{settled}
use Rattle.sp_node.specs.Table.{entries_of}
use Rattle.sp_event.specs.declared.event.Event.TheVariants.{Commit as AskCommit}
use Rattle.sp_event.specs.declared.answer.Answer.TheVariants.{Committed}
use Rattle.sp_model.specs.declared.session.Session.{Session}
use Rattle.sp_model.specs.declared.session.Stage.TheVariants.{Idle}
use Rattle.sp_model.specs.State.{Kernel, is_active_stage}
use Rattle.sp_model.specs.Refusals.{under_way}
use Rattle.sp_model.specs.Moves.{committed}
use Rattle.sp_model.specs.Stepped.{Does, IsAt, has_changes}
use Rattle.sp_model.specs.Removal.{IsTakenOut}
use Rattle.sp_model.proofs.Bare.{bare}
use Rattle.sp_model.proofs.Endings.{commit-serial}
use Rattle.sp_state.specs.Held.{kernel_of}
use Rattle.sp_ending.specs.declared.marks.Ending.TheVariants.{Commit}
use Rattle.sp_ending.specs.Ends.{ended, AreClean}
use Rattle.sp_ending.proofs.Counted.{sum-of, goes-without, room-left, fits-committed}
use Rattle.sp_ending.proofs.Departures.{sits, clean-for, tail-begins, tail-whole}
use Rattle.sp_ending.proofs.Taking.{commit-is, committed-is}
use Rattle.sp_ending.proofs.commits.commit_unchanged.Goals as goal

pub end_marks-requires-clause-clean : goal.end_marks-requires-clause-clean
end_marks-requires-clause-clean c =
    let s = c.args.state.now in
    let x = c.dismiss-seat.result in
    let here = sits (kernel_of s) c.args.session c.in-Some.at c.as_slice.result.now x c.as_slice.ensures.value c.in-Some.ensures.found c.dismiss-seat.ensures.one in
    let idle = c.requires.idle x here.at in
    let active = ap is_active_stage idle in
    subst (λ (n : ℕ). AreClean Commit n (entries_of s.tree.table)) (sym c.number.ensures) (clean-for Commit (kernel_of s) x c.requires.sound.untouched here.here active)

pub end_marks-requires-clause-tail : goal.end_marks-requires-clause-tail
end_marks-requires-clause-tail c =
    let s = c.args.state.now in
    (entries_of s.tree.table, tail-begins s.dead.items c.len-from.result (entries_of s.tree.table) (c.len-from.ensures ∙ s.dead.ok.0) c.requires.sound.dead)

pub add-requires-clause-room : goal.add-requires-clause-room
add-requires-clause-room c =
    let s = c.args.state.now in
    let x = c.dismiss-seat.result in
    let here = sits (kernel_of s) c.args.session c.in-Some.at c.as_slice.result.now x c.as_slice.ensures.value c.in-Some.ensures.found c.dismiss-seat.ensures.one in
    let idle = c.requires.idle x here.at in
    let active = ap is_active_stage idle in
    room-left s x c.requires.fits c.requires.sound.sessions.ascending here.here active

pub add-requires-clause-serial : goal.add-requires-clause-serial
add-requires-clause-serial c =
    let s = c.args.state.now in
    let x = c.dismiss-seat.result in
    let here = sits (kernel_of s) c.args.session c.in-Some.at c.as_slice.result.now x c.as_slice.ensures.value c.in-Some.ensures.found c.dismiss-seat.ensures.one in
    let idle = c.requires.idle x here.at in
    let active = ap is_active_stage idle in
    let place = c.next_place-place.ensures ∙ ap (λ (cs : List AnyCommit). length cs + 1) c.commits.ensures.commits in
    subst (λ (d : AnyCommit). Serial s.audit.base (s.audit.commits ++ d ∷ [])) (sym (commit-is (kernel_of s) x c.into_commit.result c.next_place-place.result c.into_commit.ensures place))
    (commit-serial (kernel_of s) x (bare (kernel_of s) c.requires.sound) here.here active)

-- the answer tells the next place
told : (k : Kernel) (s place : ℕ) (x : Session) → IsAt k s x → x.stage ≡ Idle → has_changes k x ≡ false → place ≡ length k.commits + 1 → (after : Kernel) → after ≡ committed x k → Does IsTakenOut k (AskCommit s) (Committed place) after
told k s place x at idle none is after e =
    subst (λ (n : ℕ). Does IsTakenOut k (AskCommit s) (Committed n) after) (sym is) (subst (λ (k' : Kernel). Does IsTakenOut k (AskCommit s) (Committed (length k.commits + 1)) k') (sym e) (Does.Commits s x at idle none))

pub returns-clause-done : goal.returns-clause-done
unfolding ended
returns-clause-done c =
    let s = c.args.state.now in
    let x = c.dismiss-seat.result in
    let here = sits (kernel_of s) c.args.session c.in-Some.at c.as_slice.result.now x c.as_slice.ensures.value c.in-Some.ensures.found c.dismiss-seat.ensures.one in
    let idle = c.requires.idle x here.at in
    let active = ap is_active_stage idle in
    let e = c.len-from.ensures ∙ s.dead.ok.0 in
    let place = c.next_place-place.ensures ∙ ap (λ (cs : List AnyCommit). length cs + 1) c.commits.ensures.commits in
    told (kernel_of s) c.args.session c.next_place-place.result x here.at idle (c.requires.unchanged x here.at) place _
    (committed-is (kernel_of s) x _ _ _ _ _ _ _
    (c.end_marks.ensures.table ∙ ap (λ (n : ℕ). table_with (settled n) s.tree.table) c.number.ensures)
    (tail-whole s.dead.items c.end_marks.new.dead.items c.len-from.result (entries_of s.tree.table) (entries_of c.end_marks.new.tree.table) e c.end_marks.ensures.front
    (c.end_marks.ensures.tail (entries_of s.tree.table) (tail-begins s.dead.items c.len-from.result (entries_of s.tree.table) e c.requires.sound.dead)))
    (c.release_all.ensures.rows ∙ ap (λ (n : ℕ). released AllRows n s.locks) (sym here.number))
    c.dismiss-seat.ensures.others c.add.ensures.base
    (c.add.ensures.commits ∙ ap (λ (d : AnyCommit). s.audit.commits ++ d ∷ []) (commit-is (kernel_of s) x c.into_commit.result c.next_place-place.result c.into_commit.ensures place))
    c.add.ensures.ended)

pub returns-clause-fits : goal.returns-clause-fits
returns-clause-fits c =
    let s = c.args.state.now in
    let x = c.dismiss-seat.result in
    let here = sits (kernel_of s) c.args.session c.in-Some.at c.as_slice.result.now x c.as_slice.ensures.value c.in-Some.ensures.found c.dismiss-seat.ensures.one in
    let idle = c.requires.idle x here.at in
    let active = ap is_active_stage idle in
    fits-committed s _ x c.into_commit.result c.requires.fits (ap under_way idle)
    (λ f. subst (λ (xs : List Session). sum-of f xs + f x ≡ sum-of f s.seats.items) (sym c.dismiss-seat.ensures.others) (goes-without s.seats.items x c.requires.sound.sessions.ascending here.here active f))
    c.add.ensures.commits (ap (λ (d : AnyCommit). d.ops) c.into_commit.ensures) c.add.ensures.room refl refl c.end_marks.ensures.room tt
