-- The answers to operations that waited, and what follows a command.
use Rattle.std.proofs.Common.{rules, ◌≡◌, ℕ, ◌<◌, true, List, [], ◌∷◌, ◌++◌, length, slice_get, Option, Result, Ok, Err, None, Some, refl, sym, ap, ◌∙◌, subst}
use Rattle.std.specs.List.{remove}
use Rattle.std.proofs.lemmas.Option.{slice_get_within}
use Rattle.std.specs.Io.KnownBytes.{Appends}
use Rattle.sp_io.specs.Streams.{AppendsFront}
use Rattle.sp_io.proofs.Known.{Appends-none}
use Rattle.sp_event.specs.declared.answer.Answer.{Answer}
use Rattle.sp_rect.specs.declared.operation.Op.{Op}
use Rattle.sp_text.specs.Grammar.{Wrong}
use Rattle.sp_text.specs.declared.form.Form.{Form}
use Rattle.sp_text.specs.declared.form.Form.TheVariants.{Play}
use Rattle.sp_text.specs.Texts.{render, item_text}
use Rattle.sp_text.specs.declared.types.Said.{Said}
use Rattle.sp_text.specs.declared.types.Item.{Item}
use Rattle.sp_text.specs.declared.types.Item.TheVariants.{Told}
use Rattle.sp_text.specs.declared.types.Command.TheVariants.{Do}
use Rattle.sp_lines.specs.declared.fault.Fault.{Fault}
use Rattle.sp_lines.specs.declared.fault.Fault.TheVariants.{Write, Disk, Memory}
use Rattle.sp_lines.specs.Keeping.{KeptAt}
use Rattle.sp_model.specs.State.{Kernel}
use Rattle.sp_desk.specs.declared.point.Point.{Point}
use Rattle.sp_desk.specs.declared.stalled.Stalled.{Stalled}
use Rattle.sp_desk.specs.Course.{Leads}
use Rattle.sp_desk.specs.Cleaning.{fault_in, Cleans}
use Rattle.sp_desk.specs.Waiting.{Wakes, WakesSo, AllWait, stalled_by}
use Rattle.sp_desk.specs.Playing.{Turn, Plays}
use Rattle.sp_desk.specs.Hearing.{Place, place, Passes, Stops}
use Rattle.sp_desk.proofs.Joining.{leads_none}
use Rattle.sp_desk.proofs.Laws.{passes_none, stops_none, stops_later}
use Rattle.std.specs.Prelude.{IfErr, IsErrOf}

append-nil : {A : Type 0} (x : List A) → x ++ [] ≡ x
append-nil x = search rules

some_is : (x y : Stalled) → Some x ≡ Some y → x ≡ y
some_is x y e = cc

render_one : (item : Item) → render Play (item ∷ []) ≡ item_text Play item
render_one item = append-nil (item_text Play item)

-- it is among those that wait
pub woken_within : (k : Kernel) (w : List Stalled) (spot : ℕ) (answer : Answer) (at : Point) (n : Kernel) → WakesSo k w spot answer at n → spot < length w
woken_within k w spot answer at n h = slice_get_within w spot h.stalled h.found

wakes_it : (k : Kernel) (w : List Stalled) (spot : ℕ) (x : Stalled) (answer : Answer) (at : Point) (n : Kernel) → WakesSo k w spot answer at n → slice_get w spot ≡ Some x → fault_in answer ≡ None → Wakes k w spot x answer at n
wakes_it k w spot x answer at n h found free =
    subst (λ (y : Stalled). Wakes k w spot y answer at n) (some_is h.stalled x (sym h.found ∙ found)) (h.wakes free)

plays_woken : (k : Kernel) (w v : List Stalled) (spot : ℕ) (x : Stalled) (answer : Answer) (at : Point) (n : Kernel) → WakesSo k w spot answer at n → slice_get w spot ≡ Some x → fault_in answer ≡ None
    → v ≡ remove w spot ++ stalled_by x.session x.op answer at → Plays k w Turn.GoingOn ([] ++ Told x.session (Do x.op) answer true ∷ []) n v Turn.GoingOn
plays_woken k w v spot x answer at n h found free moved =
    subst (λ (l : List Stalled). Plays k w Turn.GoingOn ([] ++ Told x.session (Do x.op) answer true ∷ []) n l Turn.GoingOn) (sym moved)
    (Plays.GoesOn Plays.Stays spot x answer at n (wakes_it k w spot x answer at n h found free) free)

-- the answer was told
pub woken_passes : (x : Stalled) (spot : ℕ) (answer : Answer) (at : Point) (is was js : List Item) (w v : List Stalled) (k n : Kernel) (old new : Option (List ℕ)) (form : Form) → form ≡ Play → was ≡ is
    → WakesSo k w spot answer at n → slice_get w spot ≡ Some x → fault_in answer ≡ None → v ≡ remove w spot ++ stalled_by x.session x.op answer at
    → js ≡ was ++ Told x.session (Do x.op) answer true ∷ [] → Appends old new (item_text form (Told x.session (Do x.op) answer true))
    → Passes Turn.GoingOn Turn.GoingOn [] (place is w k old) (place js v n new)
woken_passes x spot answer at is was js w v k n old new form play same h found free moved kept wrote = record {
  items = [] ++ Told x.session (Do x.op) answer true ∷ [];
  kept = kept ∙ ap (λ (l : List Item). l ++ Told x.session (Do x.op) answer true ∷ []) same;
  heard_as = refl;
  plays = plays_woken k w v spot x answer at n h found free moved;
  written = subst (λ (l : List ℕ). Appends old new l) (ap (λ (f : Form). item_text f (Told x.session (Do x.op) answer true)) play ∙ sym (render_one (Told x.session (Do x.op) answer true))) wrote;
}

-- the same where keeping it failed
pub woken_stops : (fault : Fault) (x : Stalled) (spot : ℕ) (answer : Answer) (at : Point) (is was js : List Item) (w v : List Stalled) (k n : Kernel) (old new : Option (List ℕ)) (form : Form) → form ≡ Play → was ≡ is
    → WakesSo k w spot answer at n → slice_get w spot ≡ Some x → fault_in answer ≡ None → v ≡ remove w spot ++ stalled_by x.session x.op answer at
    → Leads k n → KeptAt fault form was js (Told x.session (Do x.op) answer true) old new
    → Stops fault Turn.GoingOn [] (place is w k old) (place js v n new)
woken_stops Write x spot answer at is was js w v k n old new form play same h found free moved leads kept = record {
  items = [] ++ Told x.session (Do x.op) answer true ∷ [];
  kept = kept.0 ∙ ap (λ (l : List Item). l ++ Told x.session (Do x.op) answer true ∷ []) same;
  unanswered = [];
  heard_as = refl;
  reached = n;
  waiting = v;
  turn = Turn.GoingOn;
  plays = plays_woken k w v spot x answer at n h found free moved;
  leads = leads_none n;
  whole = λ e. refl;
  written = subst (λ (l : List ℕ). AppendsFront old new l) (ap (λ (f : Form). item_text f (Told x.session (Do x.op) answer true)) play ∙ sym (render_one (Told x.session (Do x.op) answer true))) kept.1;
}
woken_stops Disk x spot answer at is was js w v k n old new form play same h found free moved leads kept = absurd kept
woken_stops Memory x spot answer at is was js w v k n old new form play same h found free moved leads kept = record {
  items = [];
  kept = kept.0 ∙ same ∙ sym (append-nil is);
  unanswered = [];
  heard_as = refl;
  reached = k;
  waiting = w;
  turn = Turn.GoingOn;
  plays = Plays.Stays;
  leads = leads;
  whole = λ e. absurd (apart e);
  written = kept.1;
}
  where
    apart : Memory ≡ Write → ⊥
    apart e = cc

-- all wait, and the dead entries are tried
pub rests_then : (is : List Item) (w : List Stalled) (k n : Kernel) (taken : Option (List ℕ)) → AllWait k w → Cleans k (length k.dead) n → Passes Turn.GoingOn Turn.Hearing [] (place is w k taken) (place is w n taken)
rests_then is w k n taken wait cleans = record {
  items = [];
  kept = sym (append-nil is);
  heard_as = refl;
  plays = Plays.Rests Plays.Stays wait n cleans;
  written = Appends-none taken;
}

pub wakes_told : (k : Kernel) (w z : List Stalled) (spot : ℕ) (answer came : Answer) (at : Point) (n : Kernel) → z ≡ w → answer ≡ came → WakesSo k z spot came at n → WakesSo k w spot answer at n
wakes_told k w z spot answer came at n e f h = subst (λ (a : Answer). WakesSo k w spot a at n) (sym f) (subst (λ (l : List Stalled). WakesSo k l spot came at n) e h)

pub moved_told : (w rest v : List Stalled) (spot s : ℕ) (op : Op) (answer came : Answer) (at : Point) → answer ≡ came → rest ≡ remove w spot → v ≡ rest ++ stalled_by s op came at → v ≡ remove w spot ++ stalled_by s op answer at
moved_told w rest v spot s op answer came at e f h = h ∙ ap (λ (l : List Stalled). l ++ stalled_by s op came at) f ∙ ap (λ (a : Answer). remove w spot ++ stalled_by s op a at) (sym e)

-- nothing is told
pub stays_passes : (t : Turn) (is : List Item) (w : List Stalled) (k n : Kernel) (taken : Option (List ℕ)) → n ≡ k → Passes t t [] (place is w k taken) (place is w n taken)
stays_passes t is w k n taken e = subst (λ (m : Kernel). Passes t t [] (place is w k taken) (place is w m taken)) (sym e) (passes_none t (place is w k taken))

-- a fault behind what was told
pub passes_stop : (fault : Fault) (r s : Turn) (xs : List (Result Said Wrong)) (p z : Place) → (fault ≡ Write → ⊥) → Passes r s xs p z → Stops fault r xs p z
passes_stop fault r s xs p z other a = subst (λ l. Stops fault r l p z) (append-nil xs) (stops_later fault r s xs [] p z z a (stops_none fault s [] z z other refl (leads_none z.kernel) refl))

pub memory_apart : Memory ≡ Write → ⊥
memory_apart e = cc

-- an error that is no failed write
pub err_free : {A : Type 0} (r : Result A Fault) (P : Fault → Type 0) → (IsErrOf r Write → ⊥) → ((f : Fault) → (f ≡ Write → ⊥) → P f) → IfErr r P
err_free (Ok a) P free h = tt
err_free (Err f) P free h = h f (λ e. free (ap (λ x. Err x) e))
