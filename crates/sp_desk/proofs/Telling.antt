-- The answer to one command.
use Rattle.std.proofs.Common.{rules, ◌≡◌, ℕ, false, not, nat_eq, List, [], ◌∷◌, ◌++◌, filter, Option, Result, Ok, Err, None, Some, refl, sym, ap, ◌∙◌, subst}
use Rattle.std.specs.Prelude.{IfOk, IfErr, OnOk, IsErrOf}
use Rattle.std.specs.Io.KnownBytes.{Appends}
use Rattle.sp_io.specs.Streams.{AppendsFront}
use Rattle.sp_event.specs.declared.event.Event.TheVariants.{Begin as AskBegin, Rollback as AskRollback}
use Rattle.sp_event.specs.declared.answer.Answer.{Answer}
use Rattle.sp_event.specs.declared.answer.Answer.TheVariants.{RolledBack}
use Rattle.sp_rect.specs.declared.operation.Op.{Op}
use Rattle.sp_text.specs.declared.form.Form.{Form}
use Rattle.sp_text.specs.declared.form.Form.TheVariants.{Play}
use Rattle.sp_text.specs.Texts.{render, item_text}
use Rattle.sp_text.specs.declared.types.Said.TheVariants.{Do as Tells}
use Rattle.sp_text.specs.declared.types.Item.{Item}
use Rattle.sp_text.specs.declared.types.Item.TheVariants.{Told}
use Rattle.sp_text.specs.declared.types.Command.{Command}
use Rattle.sp_text.specs.declared.types.Command.TheVariants.{Begin, Do, Commit, Rollback}
use Rattle.sp_lines.specs.declared.fault.Fault.{Fault}
use Rattle.sp_lines.specs.declared.fault.Fault.TheVariants.{Write, Disk, Memory}
use Rattle.sp_lines.specs.Keeping.{KeptAt}
use Rattle.sp_model.specs.State.{Kernel}
use Rattle.sp_kernel.specs.Answers.{Answers}
use Rattle.sp_desk.specs.declared.stalled.Stalled.{Stalled}
use Rattle.sp_desk.specs.Course.{Leads}
use Rattle.sp_desk.specs.Cleaning.{fault_in}
use Rattle.sp_desk.specs.Committing.{Commits}
use Rattle.sp_desk.specs.Waiting.{freed_by}
use Rattle.sp_desk.specs.Playing.{Turn, Plays, Does, DoesSo}
use Rattle.sp_desk.specs.Hearing.{place, Passes, Stops}
use Rattle.sp_desk.proofs.Joining.{leads_none}

append-nil : {A : Type 0} (x : List A) → x ++ [] ≡ x
append-nil x = search rules

pub ok_both : {A E : Type 0} (r : Result A E) (P Q R : Type 0) → (P → Q → R) → OnOk r P → OnOk r Q → OnOk r R
ok_both (Ok a) P Q R f p q = f p q
ok_both (Err e) P Q R f p q = tt

pub err_both : {A E : Type 0} (r : Result A E) (P Q R : E → Type 0) → ((e : E) → P e → Q e → R e) → IfErr r P → IfErr r Q → IfErr r R
err_both (Ok a) P Q R f p q = tt
err_both (Err e) P Q R f p q = f e p q

-- an answer that is told is the one that came
pub told_so : (r : Result Answer Fault) (answer : Answer) (P : Answer → Type 0) → IfOk r (λ a. (a ≡ answer) × (fault_in answer ≡ None)) → P answer → IfOk r P
told_so (Ok a) answer P h p = subst P (sym h.0) p
told_so (Err e) answer P h p = tt

pub ok_map : (r : Result Answer Fault) (P Q : Answer → Type 0) → ((a : Answer) → P a → Q a) → IfOk r P → IfOk r Q
ok_map (Ok a) P Q f h = f a h
ok_map (Err e) P Q f h = tt

module _ (s : ℕ) (k : Kernel) (w : List Stalled) (command : Command) (answer : Answer) (n : Kernel) where
  pub begins_so : command ≡ Begin → Answers k (AskBegin s) answer n → Does s k w command answer n w
  begins_so e h = subst (λ (c : Command). Does s k w c answer n w) (sym e) (Does.Begins answer n h)

  pub commits_so : command ≡ Commit → Commits s k answer n → Does s k w command answer n w
  commits_so e h = subst (λ (c : Command). Does s k w c answer n w) (sym e) (Does.Committing answer n h)

  pub operates_so : (op : Op) (v : List Stalled) → command ≡ Do op → DoesSo s k w op answer n v → Does s k w command answer n v
  operates_so op v e h = subst (λ (c : Command). Does s k w c answer n v) (sym e) (Does.Operating op answer n v h)

  pub rolls_so : (v : List Stalled) → command ≡ Rollback → Does s k w Rollback answer n v → Does s k w command answer n v
  rolls_so v e h = subst (λ (c : Command). Does s k w c answer n v) (sym e) h

-- a rollback that is done, and one that is not
pub freed_so : (s : ℕ) (k : Kernel) (w v : List Stalled) (answer : Answer) (n : Kernel) → Answers k (AskRollback s) answer n → answer ≡ RolledBack → v ≡ filter (λ x. not (nat_eq x.session s)) w
    → Does s k w Rollback answer n v
freed_so s k w v answer n h e f =
    subst (λ (l : List Stalled). Does s k w Rollback answer n l) (ap (λ (a : Answer). freed_by s a w) e ∙ sym f) (Does.RollsBack answer n h)

not_freed : (s : ℕ) (answer : Answer) (w : List Stalled) → (answer ≡ RolledBack → ⊥) → freed_by s answer w ≡ w
not_freed s RolledBack w h = absurd (h refl)
not_freed s answer w h = refl

pub kept_so : (s : ℕ) (k : Kernel) (w : List Stalled) (answer : Answer) (n : Kernel) → Answers k (AskRollback s) answer n → (answer ≡ RolledBack → ⊥) → Does s k w Rollback answer n w
kept_so s k w answer n h e = subst (λ (l : List Stalled). Does s k w Rollback answer n l) (not_freed s answer w e) (Does.RollsBack answer n h)

render_one : (item : Item) → render Play (item ∷ []) ≡ item_text Play item
render_one item = append-nil (item_text Play item)

-- the answer to a line was told
pub told_passes : (s : ℕ) (command : Command) (answer : Answer) (is was js : List Item) (w v : List Stalled) (k n : Kernel) (old new : Option (List ℕ)) (form : Form) → form ≡ Play → was ≡ is
    → Does s k w command answer n v → fault_in answer ≡ None → js ≡ was ++ Told s command answer false ∷ [] → Appends old new (item_text form (Told s command answer false))
    → Passes Turn.Hearing Turn.GoingOn (Ok (Tells (Some s) command) ∷ []) (place is w k old) (place js v n new)
told_passes s command answer is was js w v k n old new form play same does free kept wrote = record {
  items = [] ++ Told s command answer false ∷ [];
  kept = kept ∙ ap (λ (l : List Item). l ++ Told s command answer false ∷ []) same;
  heard_as = refl;
  plays = Plays.Hears Plays.Stays s command answer n v does free;
  written = subst (λ (l : List ℕ). Appends old new l) (ap (λ (f : Form). item_text f (Told s command answer false)) play ∙ sym (render_one (Told s command answer false))) wrote;
}

-- the same where keeping it failed
pub told_stops : (fault : Fault) (s : ℕ) (command : Command) (answer : Answer) (is was js : List Item) (w v : List Stalled) (k n : Kernel) (old new : Option (List ℕ)) (form : Form) → form ≡ Play → was ≡ is
    → Does s k w command answer n v → fault_in answer ≡ None → Leads k n → KeptAt fault form was js (Told s command answer false) old new
    → Stops fault Turn.Hearing (Ok (Tells (Some s) command) ∷ []) (place is w k old) (place js v n new)
told_stops Write s command answer is was js w v k n old new form play same does free leads kept = record {
  items = [] ++ Told s command answer false ∷ [];
  kept = kept.0 ∙ ap (λ (l : List Item). l ++ Told s command answer false ∷ []) same;
  unanswered = [];
  heard_as = refl;
  reached = n;
  waiting = v;
  turn = Turn.GoingOn;
  plays = Plays.Hears Plays.Stays s command answer n v does free;
  leads = leads_none n;
  whole = λ e. refl;
  written = subst (λ (l : List ℕ). AppendsFront old new l) (ap (λ (f : Form). item_text f (Told s command answer false)) play ∙ sym (render_one (Told s command answer false))) kept.1;
}
told_stops Disk s command answer is was js w v k n old new form play same does free leads kept = absurd kept
told_stops Memory s command answer is was js w v k n old new form play same does free leads kept = record {
  items = [];
  kept = kept.0 ∙ same ∙ sym (append-nil is);
  unanswered = Ok (Tells (Some s) command) ∷ [];
  heard_as = refl;
  reached = k;
  waiting = w;
  turn = Turn.Hearing;
  plays = Plays.Stays;
  leads = leads;
  whole = λ e. absurd (apart e);
  written = kept.1;
}
  where
    apart : Memory ≡ Write → ⊥
    apart e = cc

-- an error that was told by its value
pub unwritten_so : {A : Type 0} (r : Result A Fault) (fault : Fault) → r ≡ Err fault → (IsErrOf r Write → ⊥) → fault ≡ Write → ⊥
unwritten_so r fault e h w = h (e ∙ ap (λ f. Err f) w)
