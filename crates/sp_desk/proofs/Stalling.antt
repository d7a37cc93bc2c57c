-- Operations that wait, one after the other.
use Rattle.std.proofs.Common.{◌≡◌, ◌⊎◌, ℕ, ◌+◌, ◌<◌, ◌≤◌, true, false, List, None, Some, slice_get, sym, ap, ◌∙◌, subst, inl, inr, arith}
use Rattle.std.proofs.lemmas.Bool.{cases_lt}
use Rattle.sp_model.specs.State.{Kernel}
use Rattle.sp_desk.specs.declared.stalled.Stalled.{Stalled}
use Rattle.sp_event.specs.declared.answer.Answer.{Answer}
use Rattle.sp_desk.specs.declared.point.Point.{Point}
use Rattle.sp_desk.specs.Working.{Proceeds}
use Rattle.sp_desk.specs.Cleaning.{fault_in}
use Rattle.sp_desk.specs.Waiting.{still_waits, is_still, WaitBelow, WakesSo}

some_is : (x y : Stalled) → Some x ≡ Some y → x ≡ y
some_is x y e = cc

-- one more of them still waits
pub wait_more : (k m : Kernel) (waiting : List Stalled) (at : ℕ) (x : Stalled) → WaitBelow k waiting at → m ≡ k → slice_get waiting at ≡ Some x
    → still_waits m x.session x.point ≡ true → WaitBelow k waiting (at + 1)
wait_more k m waiting at x first same found waits i y low there = go (cases_lt i at)
  where
    waits_here : is_still k x ≡ true
    waits_here = subst (λ (l : Kernel). still_waits l x.session x.point ≡ true) same waits

    go : (i < at) ⊎ (at ≤ i) → is_still k y ≡ true
    go (inl l) = first i y l there
    go (inr l) =
        let e : i ≡ at = omega (arith, l, low) in
        subst (λ (z : Stalled). is_still k z ≡ true) (some_is x y (sym found ∙ ap (λ (j : ℕ). slice_get waiting j) (sym e) ∙ there)) waits_here

-- the first that no longer waits goes on
pub wakes_so : (k m : Kernel) (waiting : List Stalled) (place : ℕ) (x : Stalled) (answer : Answer) (at : Point) (n : Kernel) → WaitBelow k waiting place → m ≡ k → slice_get waiting place ≡ Some x
    → Proceeds x.session x.point m answer at n → (fault_in answer ≡ None → still_waits m x.session x.point ≡ false) → WakesSo k waiting place answer at n
wakes_so k m waiting place x answer at n first same found proceeds awake = record {
  stalled = x;
  found = found;
  wakes = λ free. record {
    found = found;
    first = first;
    awake = subst (λ (l : Kernel). still_waits l x.session x.point ≡ false) same (awake free);
    proceeds = subst (λ (l : Kernel). Proceeds x.session x.point l answer at n) same proceeds;
  };
}
