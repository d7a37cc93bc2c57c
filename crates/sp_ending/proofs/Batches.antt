-- A batch that takes its places one after the other.
use Rattle.std.proofs.Common.{◌≡◌, ◌≢◌, ℕ, suc, ◌+◌, arith, ◌<◌, get_or, drop-cons, true, List, [], ◌∷◌, ◌++◌, length, take, drop, Option, Some, refl, sym, ap, ◌∙◌, subst, inl, true≢false}
use Rattle.std.proofs.Math.Seq.{take-length}
use Rattle.sp_node.specs.Among.{Among}
use Rattle.sp_node.specs.Marks.{settled}
use Rattle.sp_node.proofs.Changed.{entries_of_with}
use Rattle.sp_model.specs.declared.session.Session.{Session}
use Rattle.sp_model.specs.declared.session.Stage.{Stage}
use Rattle.sp_model.specs.declared.session.Stage.TheVariants.{Idle, Started, NameWait, Named, NeedWait, Planned, Queued, Placed}
use Rattle.sp_model.specs.State.{Kernel, entries_in, is_active, is_active_stage, session_at, with_change}
use Rattle.sp_model.specs.Refusals.{under_way}
use Rattle.sp_model.specs.Moves.{newly_dead, at_place, placed_found, placed_each, placed_all}
use Rattle.sp_model.specs.Soundness.{Sound, DeadListed, is_queued}
use Rattle.sp_model.specs.Stepped.{IsAt}
use Rattle.sp_model.specs.Unmarked.{DeadUntouched, IsDeadUntouched}
use Rattle.sp_model.proofs.Bare.{Bare, bare}
use Rattle.sp_model.proofs.Endings.{commit-serial}
use Rattle.sp_model.proofs.Flushing.{as_if, place_next, batch-sound}
use Rattle.sp_model.proofs.Sessions.{found-among, among-found, Fate, Changes, Stays, of_change}
use Rattle.sp_model.proofs.Settling.{settled-keeps, settled-free}
use Rattle.sp_model.proofs.Untouched.{untouched-ended, settled-newly}
use Rattle.sp_ending.specs.Ends.{MayPlace, Placing}
use Rattle.sp_ending.specs.Tail.{IsTail}
use Rattle.sp_ending.proofs.Departures.{tail-begins, tail-whole}

queued-active : (stage : Stage) → is_queued stage ≡ true → (is_active_stage stage ≡ true) × (under_way stage ≡ 0)
queued-active Queued q = (refl, refl)
queued-active Idle q = (refl, refl)
queued-active (Started op) q = absurd (true≢false (sym q))
queued-active (NameWait op) q = absurd (true≢false (sym q))
queued-active (Named op) q = absurd (true≢false (sym q))
queued-active (NeedWait op) q = absurd (true≢false (sym q))
queued-active (Planned op left) q = absurd (true≢false (sym q))
queued-active Placed q = absurd (true≢false (sym q))

module _ (before : Kernel) (s : ℕ) (rest : List ℕ) (from : ℕ) (k : Kernel) (placing : Placing before (s ∷ rest) from k) where
  -- the next one may take its place
  pub may_place : MayPlace s k
  may_place = record {
    session = q.0;
    stands = stands;
    active = (queued-active q.0.stage q.3).0;
    quiet = (queued-active q.0.stage q.3).1;
    serial = commit-serial (as_if before (s ∷ rest) k) q.0 placing.sound q.1 (queued-active q.0.stage q.3).0;
    ascending = placing.sound.sessions.ascending;
    untouched = placing.untouched;
  }
    where
      q : (x : Session) × Among x k.sessions × (x.txn.session ≡ s) × (is_queued x.stage ≡ true)
      q = placing.sound.queued.back s (inl refl)

      stands : IsAt k s q.0
      stands = subst (λ (n : ℕ). session_at n k.sessions ≡ Some q.0) q.2 (among-found k.sessions placing.sound.sessions.ascending q.0 q.1)

  module _ (x : Session) (at : IsAt k s x) where
    untouched-placed : IsDeadUntouched (placed_found (Some x) k)
    untouched-placed =
        subst (DeadUntouched (with_change x.txn.session at_place k.sessions)) (sym (entries_of_with (settled x.txn.number) (settled-keeps x.txn.number) k.tree))
        (untouched-ended (as_if before (s ∷ rest) k) x (settled x.txn.number) placing.sound (found-among s k.sessions x at).0 placing.untouched (settled-free x.txn.number) (settled-newly x.txn.number) (with_change x.txn.session at_place k.sessions)
        (λ y i a. let o = of_change x.txn.session at_place k.sessions y i in other o.old y o.stood o.how a))
      where
        other : (z y : Session) → Among z k.sessions → Fate x.txn.session at_place z y → is_active y ≡ true → Among y k.sessions × (y.txn.session ≢ x.txn.session)
        other z _ j (Changes e) a = absurd (true≢false (sym a))
        other z _ j (Stays e) a = (j, e)

    sound-placed : Bare (as_if before rest (placed_found (Some x) k))
    sound-placed = subst (λ (o : Option Session). Bare (as_if before rest (placed_found o k))) at (place_next before k s rest listed placing.tail.stay placing.sound).0
      where
        listed : DeadListed before.dead (entries_in before)
        listed = subst (λ (ns : List ℕ). DeadListed ns (entries_in before)) placing.front placing.tail.listed

    left-placed : placed_each rest (placed_found (Some x) (record k { dead = before.dead })) ≡ placed_each before.flight before
    left-placed = ap (λ (o : Option Session). placed_each rest (placed_found o (record k { dead = before.dead }))) (sym at) ∙ placing.left

    -- with the dead list as it is then
    placed-next : (dead : List ℕ) → IsTail dead from (entries_in before) (entries_in (placed_found (Some x) k)) → take from dead ≡ take from k.dead → Placing before rest from (record (placed_found (Some x) k) { dead = dead })
    placed-next dead tail front = record {
      sound = sound-placed;
      untouched = untouched-placed;
      tail = tail;
      front = front ∙ placing.front;
      left = left-placed;
    }

    pub next-placed : (k' : Kernel) → k' ≡ record (placed_found (Some x) k) { dead = k'.dead } → IsTail k'.dead from (entries_in before) (entries_in k') → take from k'.dead ≡ take from k.dead → Placing before rest from k'
    next-placed k' is tail front =
        subst (Placing before rest from) (sym is) (placed-next k'.dead (subst (λ (j : Kernel). IsTail k'.dead from (entries_in before) (entries_in j)) is tail) front)

-- before the first one
pub placing-begins : (k : Kernel) (from : ℕ) → Sound k → from ≡ length k.dead → Placing k k.flight from k
placing-begins k from sound e = record {
  sound = batch-sound k (bare k sound);
  untouched = sound.untouched;
  tail = tail-begins k.dead from (entries_in k) e sound.dead;
  front = ap (λ (n : ℕ). take n k.dead) e ∙ take-length k.dead;
  left = refl;
}

-- after the last one
pub placing-ends : (before k : Kernel) (from : ℕ) → from ≡ length before.dead → Placing before [] from k → record k { flight = []; calls = 0 } ≡ placed_all before
placing-ends before k from e placing = ap (λ (ns : List ℕ). record k { dead = ns; flight = []; calls = 0 }) died ∙ ap (λ (j : Kernel). record j { dead = before.dead ++ newly_dead (entries_in before) (entries_in j); flight = []; calls = 0 }) placing.left
  where
    died : k.dead ≡ before.dead ++ newly_dead (entries_in before) (entries_in k)
    died = tail-whole before.dead k.dead from (entries_in before) (entries_in k) e (placing.front ∙ sym (take-length before.dead) ∙ ap (λ (n : ℕ). take n before.dead) (sym e)) placing.tail

-- the next of the batch
pub next-is : (xs ys : List ℕ) (i n : ℕ) → ys ≡ xs → i < length xs → n ≡ get_or ys i n → drop i xs ≡ n ∷ drop (i + 1) xs
next-is xs ys i n same l is = drop-cons xs i n l ∙ ap (λ (j : ℕ). get_or xs i n ∷ drop j xs) (let e : suc i ≡ i + 1 = omega arith in e) ∙ ap (λ (m : ℕ). m ∷ drop (i + 1) xs) (sym (is ∙ ap (λ (zs : List ℕ). get_or zs i n) same))
