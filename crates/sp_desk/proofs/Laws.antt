-- Laws of what was heard and told: how one stretch of a script joins the next.
use Rattle.std.proofs.Common.{rules, ◌≡◌, ℕ, Bool, true, false, List, [], ◌∷◌, ◌++◌, Option, Result, refl, sym, ap, ◌∙◌, subst, append_assoc}
use Rattle.std.proofs.lemmas.List.{map-append}
use Rattle.std.specs.List.{remove}
use Rattle.std.specs.Io.KnownBytes.{Appends}
use Rattle.sp_io.proofs.Known.{Appends-none, Appends-more}
use Rattle.sp_event.specs.declared.answer.Answer.{Answer}
use Rattle.sp_text.specs.Grammar.{said, Wrong}
use Rattle.sp_text.specs.declared.form.Form.TheVariants.{Play}
use Rattle.sp_text.specs.Transcripts.{heard}
use Rattle.sp_text.specs.declared.types.Said.{Said}
use Rattle.sp_text.specs.declared.types.Item.{Item}
use Rattle.sp_text.specs.declared.types.Item.TheVariants.{Bad, Told}
use Rattle.sp_text.specs.declared.types.Command.{Command}
use Rattle.sp_lines.specs.declared.fault.Fault.{Fault}
use Rattle.sp_lines.specs.declared.fault.Fault.TheVariants.{Write, Disk, Memory}
use Rattle.sp_lines.specs.Keeping.{WrittenAt}
use Rattle.sp_lines.proofs.Hearing.{heard-append, render-append, written_more}
use Rattle.sp_model.specs.State.{Kernel}
use Rattle.sp_desk.specs.declared.stalled.Stalled.{Stalled}
use Rattle.sp_desk.specs.Course.{Leads}
use Rattle.sp_desk.specs.Waiting.{stalled_by}
use Rattle.sp_desk.specs.Playing.{Turn, Plays}
use Rattle.sp_desk.specs.Hearing.{Place, place, Passes, Stops, AnswersLines, StopsInLines, turn_after}
use Rattle.sp_desk.proofs.Joining.{leads_none}

append-nil : {A : Type 0} (x : List A) → x ++ [] ≡ x
append-nil x = search rules

-- items after items
pub plays_join : (k m : Kernel) (w v : List Stalled) (r s : Turn) (a b : List Item) (n : Kernel) (x : List Stalled) (t : Turn) → Plays k w r a m v s → Plays m v s b n x t → Plays k w r (a ++ b) n x t
plays_join k m w v r s a _ _ _ _ p Plays.Stays = subst (λ (l : List Item). Plays k w r l m v s) (sym (append-nil a)) p
plays_join k m w v r s a _ _ _ _ p (Plays.HearsBad {items} {m = l} {w = u} q session bad) =
    subst (λ (is : List Item). Plays k w r is l u Turn.Hearing) (append_assoc a items (Bad session bad ∷ []))
    (Plays.HearsBad (plays_join k m w v r s a items l u Turn.Hearing p q) session bad)
plays_join k m w v r s a _ _ _ _ p (Plays.Hears {items} {m = l} {w = u} q i command answer n y does free) =
    subst (λ (is : List Item). Plays k w r is n y Turn.GoingOn) (append_assoc a items (Told i command answer false ∷ []))
    (Plays.Hears (plays_join k m w v r s a items l u Turn.Hearing p q) i command answer n y does free)
plays_join k m w v r s a _ _ _ _ p (Plays.GoesOn {items} {m = l} {w = u} q place x answer at n wakes free) =
    subst (λ (is : List Item). Plays k w r is n (remove u place ++ stalled_by x.session x.op answer at) Turn.GoingOn) (append_assoc a items (Told x.session (Command.Do x.op) answer true ∷ []))
    (Plays.GoesOn (plays_join k m w v r s a items l u Turn.GoingOn p q) place x answer at n wakes free)
plays_join k m w v r s a _ _ _ _ p (Plays.Rests {items} {m = l} {w = u} q wait n cleans) =
    Plays.Rests (plays_join k m w v r s a items l u Turn.GoingOn p q) wait n cleans
plays_join k m w v r s a _ _ _ _ p (Plays.Ends {items} {m = l} {w = u} q) = Plays.Ends (plays_join k m w v r s a items l u Turn.Hearing p q)
plays_join k m w v r s a _ _ _ _ p (Plays.Closes {items} {m = l} {w = u} q i n over answers) =
    subst (λ (is : List Item). Plays k w r is n u Turn.Closing) (append_assoc a items (Told i Command.Rollback Answer.RolledBack true ∷ []))
    (Plays.Closes (plays_join k m w v r s a items l u Turn.Closing p q) i n over answers)

-- nothing is heard
pub passes_none : (t : Turn) (p : Place) → Passes t t [] p p
passes_none t p = record { items = []; kept = sym (append-nil p.items); heard_as = refl; plays = Plays.Stays; written = Appends-none p.taken }

pub passes_join : (r s t : Turn) (xs ys : List (Result Said Wrong)) (p q z : Place) → Passes r s xs p q → Passes s t ys q z → Passes r t (xs ++ ys) p z
passes_join r s t xs ys p q z a b = record {
  items = a.items ++ b.items;
  kept = b.kept ∙ ap (λ (l : List Item). l ++ b.items) a.kept ∙ append_assoc p.items a.items b.items;
  heard_as = heard-append Play a.items b.items ∙ ap (λ l. l ++ heard Play b.items) a.heard_as ∙ ap (λ l. xs ++ l) b.heard_as;
  plays = plays_join p.kernel q.kernel p.waiting q.waiting r s a.items b.items z.kernel z.waiting t a.plays b.plays;
  written = subst (λ (l : List ℕ). Appends p.taken z.taken l) (sym (render-append Play a.items b.items)) (Appends-more p.taken q.taken z.taken _ _ a.written b.written);
}

-- nothing is heard, and then a fault comes
pub stops_none : (fault : Fault) (t : Turn) (says : List (Result Said Wrong)) (p z : Place) → (fault ≡ Write → ⊥) → z.items ≡ p.items → Leads p.kernel z.kernel → z.taken ≡ p.taken → Stops fault t says p z
stops_none fault t says p z other kept leads taken = record {
  items = [];
  kept = kept ∙ sym (append-nil p.items);
  unanswered = says;
  heard_as = refl;
  reached = p.kernel;
  waiting = p.waiting;
  turn = t;
  plays = Plays.Stays;
  leads = leads;
  whole = λ e. absurd (other e);
  written = go fault other;
}
  where
    none : Appends p.taken z.taken []
    none = subst (λ (o : Option (List ℕ)). Appends p.taken o []) (sym taken) (Appends-none p.taken)

    go : (f : Fault) → (f ≡ Write → ⊥) → WrittenAt f p.taken z.taken []
    go Write h = absurd (h refl)
    go Disk h = none
    go Memory h = none

pub stops_later : (fault : Fault) (r s : Turn) (xs ys : List (Result Said Wrong)) (p q z : Place) → Passes r s xs p q → Stops fault s ys q z → Stops fault r (xs ++ ys) p z
stops_later fault r s xs ys p q z a b = record {
  items = a.items ++ b.items;
  kept = b.kept ∙ ap (λ (l : List Item). l ++ b.items) a.kept ∙ append_assoc p.items a.items b.items;
  unanswered = b.unanswered;
  heard_as = ap (λ l. xs ++ l) b.heard_as ∙ sym (append_assoc xs (heard Play b.items) b.unanswered)
      ∙ ap (λ l. l ++ b.unanswered) (ap (λ l. l ++ heard Play b.items) (sym a.heard_as) ∙ sym (heard-append Play a.items b.items));
  reached = b.reached;
  waiting = b.waiting;
  turn = b.turn;
  plays = plays_join p.kernel q.kernel p.waiting q.waiting r s a.items b.items b.reached b.waiting b.turn a.plays b.plays;
  leads = b.leads;
  whole = b.whole;
  written = subst (λ (l : List ℕ). WrittenAt fault p.taken z.taken l) (sym (render-append Play a.items b.items)) (written_more fault p.taken q.taken z.taken _ _ a.written b.written);
}

pub stops_more : (fault : Fault) (r : Turn) (xs ys : List (Result Said Wrong)) (p z : Place) → Stops fault r xs p z → Stops fault r (xs ++ ys) p z
stops_more fault r xs ys p z a = record {
  items = a.items;
  kept = a.kept;
  unanswered = a.unanswered ++ ys;
  heard_as = ap (λ l. l ++ ys) a.heard_as ∙ append_assoc (heard Play a.items) a.unanswered ys;
  reached = a.reached;
  waiting = a.waiting;
  turn = a.turn;
  plays = a.plays;
  leads = a.leads;
  whole = a.whole;
  written = a.written;
}

-- the same for the lines
pub lines_none : (sessions : ℕ) (p : Place) → AnswersLines sessions false [] p p
lines_none sessions p = record { passes = passes_none Turn.Hearing p; closed = λ e. absurd (differ e) }
  where
    differ : false ≡ true → ⊥
    differ e = cc

-- nothing is heard, and the sink is flushed
pub lines_flushed : (sessions : ℕ) (p : Place) (t : Option (List ℕ)) → Appends p.taken t [] → AnswersLines sessions false [] p (place p.items p.waiting p.kernel t)
lines_flushed sessions p t f = record {
  passes = record { items = []; kept = sym (append-nil p.items); heard_as = refl; plays = Plays.Stays; written = f };
  closed = λ e. absurd (differ e);
}
  where
    differ : false ≡ true → ⊥
    differ e = cc

pub lines_join : (sessions : ℕ) (ended : Bool) (xs ys : List (List ℕ)) (p q z : Place) → AnswersLines sessions false xs p q → AnswersLines sessions ended ys q z → AnswersLines sessions ended (xs ++ ys) p z
lines_join sessions ended xs ys p q z a b = record {
  passes = subst (λ l. Passes Turn.Hearing (turn_after ended) l p z) (sym (map-append (said Play) xs ys)) (passes_join Turn.Hearing Turn.Hearing (turn_after ended) _ _ p q z a.passes b.passes);
  closed = b.closed;
}

pub halts_none : (p : Place) → StopsInLines Memory [] p p
halts_none p = record { stops = stops_none Memory Turn.Hearing [] p p (λ e. other e) refl (leads_none p.kernel) refl; stopped = λ e. absurd (apart e) }
  where
    other : Memory ≡ Write → ⊥
    other e = cc

    apart : Memory ≡ Disk → ⊥
    apart e = cc

-- nothing is heard, since the sink cannot be flushed
pub halts_unwritten : (p : Place) (t : Option (List ℕ)) → Appends p.taken t [] → StopsInLines Write [] p (place p.items p.waiting p.kernel t)
halts_unwritten p t f = record {
  stops = record {
    items = [];
    kept = sym (append-nil p.items);
    unanswered = [];
    heard_as = refl;
    reached = p.kernel;
    waiting = p.waiting;
    turn = Turn.Hearing;
    plays = Plays.Stays;
    leads = leads_none p.kernel;
    whole = λ e. refl;
    written = ([], [], refl, f);
  };
  stopped = λ e. absurd (apart e);
}
  where
    apart : Write ≡ Disk → ⊥
    apart e = cc

pub halts_later : (fault : Fault) (sessions : ℕ) (xs ys : List (List ℕ)) (p q z : Place) → AnswersLines sessions false xs p q → StopsInLines fault ys q z → StopsInLines fault (xs ++ ys) p z
halts_later fault sessions xs ys p q z a b = record {
  stops = subst (λ l. Stops fault Turn.Hearing l p z) (sym (map-append (said Play) xs ys)) (stops_later fault Turn.Hearing Turn.Hearing _ _ p q z a.passes b.stops);
  stopped = b.stopped;
}

pub halts_more : (fault : Fault) (xs ys : List (List ℕ)) (p z : Place) → StopsInLines fault xs p z → StopsInLines fault (xs ++ ys) p z
halts_more fault xs ys p z a = record {
  stops = subst (λ l. Stops fault Turn.Hearing l p z) (sym (map-append (said Play) xs ys)) (stops_more fault Turn.Hearing _ _ p z a.stops);
  stopped = a.stopped;
}
