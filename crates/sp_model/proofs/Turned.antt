-- What holds where an event is not turned away.
use Rattle.std.proofs.Common.{◌≡◌, ◌≢◌, ℕ, ◌+◌, ◌<◌, Bool, true, false, not, cond, ◌&&◌, List, [], ◌∷◌, Option, None, Some, length, nat_eq, nat_le, refl, sym, subst, inl, inr, arith}
use Rattle.std.proofs.lemmas.Bool.Decides.{nat_tests}
use Rattle.sp_rect.specs.declared.operation.Op.{Op}
use Rattle.sp_locks.specs.declared.row.Row.{Row}
use Rattle.sp_locks.specs.Rows.{waiting_in}
use Rattle.sp_event.specs.declared.event.Event.{Event}
use Rattle.sp_event.specs.declared.event.Event.TheVariants.{Begin, Start, Name, Plan}
use Rattle.sp_event.specs.declared.answer.Answer.{Answer}
use Rattle.sp_event.specs.declared.answer.Answer.TheVariants.{LatchBusy}
use Rattle.sp_event.specs.declared.answer.Why.{Why}
use Rattle.sp_node.specs.Among.{Among}
use Rattle.sp_model.specs.declared.session.Session.{Session}
use Rattle.sp_model.specs.declared.session.Stage.{Stage}
use Rattle.sp_model.specs.declared.session.Stage.TheVariants.{Idle, Started, NameWait, Named, NeedWait, Planned, Queued, Placed}
use Rattle.sp_model.specs.State.{Kernel, session_at}
use Rattle.sp_model.specs.Refusals.{first_of, answer_if, found_for, stops, refusal, start_refused, refused, full, still, still_for, latched, first_holder, holds_latch, shares, kept_operations, open_operations, open_transactions, most_transactions, most_endings, most_operations, most_history, first_unused, turned_away}

-- the first answer is none where no answer is one
pub none-first : (a : Option Answer) (rest : List (Option Answer)) → first_of (a ∷ rest) ≡ None → (a ≡ None) × (first_of rest ≡ None)
none-first None rest h = (refl, h)
none-first (Some a) rest h = absurd (some h)
  where
    some : Some a ≡ None → ⊥
    some h = cc

none-if : (b : Bool) (a : Answer) → answer_if b a ≡ None → b ≡ false
none-if false a h = refl
none-if true a h = absurd (some h)
  where
    some : Some a ≡ None → ⊥
    some h = cc

none-refused : (o : Option Why) → refused o ≡ None → o ≡ None
none-refused None h = refl
none-refused (Some why) h = absurd (some h)
  where
    some : refused (Some why) ≡ None → ⊥
    some h = cc

none-still : (o : Option Row) → still_for o ≡ None → o ≡ None
none-still None h = refl
none-still (Some row) h = absurd (some h)
  where
    some : still_for (Some row) ≡ None → ⊥
    some h = cc

below : (a b : ℕ) → nat_le a b ≡ false → b < a
below a b h = grind (arith, nat_tests)

-- the five answers that are none
pub record IsLet (k : Kernel) (event : Event) : Type 0 where
  pub refusal : refusal event (found_for event k.sessions) ≡ None
  pub full : full event (found_for event k.sessions) k ≡ None
  pub still : still event k.locks ≡ None
  pub latched : latched event (found_for event k.sessions) k.sessions ≡ None

pub is_let : (k : Kernel) (event : Event) → turned_away k event ≡ None → IsLet k event
is_let k event h =
    let a = none-first (stops k.stopped event (found_for event k.sessions)) _ h in
    let b = none-first (refused (refusal event (found_for event k.sessions))) _ a.1 in
    let c = none-first (full event (found_for event k.sessions) k) _ b.1 in
    let d = none-first (still event k.locks) _ c.1 in
    let e = none-first (latched event (found_for event k.sessions) k.sessions) _ d.1 in
    record { refusal = none-refused (refusal event (found_for event k.sessions)) b.0; full = c.0; still = d.0; latched = e.0 }

-- a begin
pub record MayBegin (k : Kernel) (s : ℕ) : Type 0 where
  pub out : session_at s k.sessions ≡ None
  pub number : k.next_txn < first_unused
  pub transactions : open_transactions k.sessions < most_transactions
  pub endings : length k.commits + length k.ended + open_transactions k.sessions < most_endings

pub may_begin : (k : Kernel) (s : ℕ) → turned_away k (Begin s) ≡ None → MayBegin k s
may_begin k s h = go (session_at s k.sessions) refl (is_let k (Begin s) h).refusal
  where
    some : (why : Why) → Some why ≡ None → ⊥
    some why e = cc

    go : (o : Option Session) → session_at s k.sessions ≡ o → refusal (Begin s) o ≡ None → MayBegin k s
    go (Some x) e r = absurd (some _ r)
    go None e r =
        let a = none-first (answer_if (nat_le first_unused k.next_txn) _) _ (is_let k (Begin s) h).full in
        let b = none-first (answer_if (nat_le most_transactions (open_transactions k.sessions)) _) _ a.1 in
        let c = none-first (answer_if (nat_le most_endings (length k.commits + length k.ended + open_transactions k.sessions)) _) _ b.1 in
        record {
          out = e;
          number = below first_unused k.next_txn (none-if (nat_le first_unused k.next_txn) _ a.0);
          transactions = below most_transactions (open_transactions k.sessions) (none-if (nat_le most_transactions (open_transactions k.sessions)) _ b.0);
          endings = below most_endings (length k.commits + length k.ended + open_transactions k.sessions) (none-if (nat_le most_endings (length k.commits + length k.ended + open_transactions k.sessions)) _ c.0);
        }

-- a start
pub record MayStart (k : Kernel) (x : Session) : Type 0 where
  pub idle : x.stage ≡ Idle
  pub operations : length x.txn.ops < most_operations
  pub history : kept_operations k.commits + open_operations k.sessions < most_history

pub may_start : (k : Kernel) (s : ℕ) (op : Op) (x : Session) → session_at s k.sessions ≡ Some x → turned_away k (Start s op) ≡ None → MayStart k x
may_start k s op x here h =
    let a = none-first (answer_if (nat_le most_operations (length x.txn.ops)) _) _ (subst (λ (o : Option Session). full (Start s op) o k ≡ None) here (is_let k (Start s op) h).full) in
    let b = none-first (answer_if (nat_le most_history (kept_operations k.commits + open_operations k.sessions)) _) _ a.1 in
    record {
      idle = idle x.stage (subst (λ (o : Option Session). refusal (Start s op) o ≡ None) here (is_let k (Start s op) h).refusal);
      operations = below most_operations (length x.txn.ops) (none-if (nat_le most_operations (length x.txn.ops)) _ a.0);
      history = below most_history (kept_operations k.commits + open_operations k.sessions) (none-if (nat_le most_history (kept_operations k.commits + open_operations k.sessions)) _ b.0);
    }
  where
    some : (why : Why) → Some why ≡ None → ⊥
    some why e = cc

    idle : (stage : Stage) → start_refused stage ≡ None → stage ≡ Idle
    idle Idle e = refl
    idle (Started o) e = absurd (some _ e)
    idle (NameWait o) e = absurd (some _ e)
    idle (Named o) e = absurd (some _ e)
    idle (NeedWait o) e = absurd (some _ e)
    idle (Planned o left) e = absurd (some _ e)
    idle Queued e = absurd (some _ e)
    idle Placed e = absurd (some _ e)

-- a session that names or plans waits for nothing
pub name-awake : (k : Kernel) (s : ℕ) → turned_away k (Name s) ≡ None → waiting_in s k.locks ≡ None
name-awake k s h = none-still (waiting_in s k.locks) (is_let k (Name s) h).still

pub plan-awake : (k : Kernel) (s : ℕ) → turned_away k (Plan s) ≡ None → waiting_in s k.locks ≡ None
plan-awake k s h = none-still (waiting_in s k.locks) (is_let k (Plan s) h).still

-- nobody holds the latch
free-each : (shared : Bool) (others : Session → Bool) (xs : List Session) → first_holder shared others xs ≡ None → (y : Session) → Among y xs → others y ≡ true → holds_latch shared y.stage ≡ false
free-each shared others [] h y i o = absurd i
free-each shared others (x ∷ xs) h y i o = go (others x && holds_latch shared x.stage) refl h i (λ e j. free-each shared others xs e y j o)
  where
    some : Some (LatchBusy x.txn.session) ≡ None → ⊥
    some e = cc

    second : (a b : Bool) → a ≡ true → (a && b) ≡ false → b ≡ false
    second a b e f = grind arith

    go : (b : Bool) → (others x && holds_latch shared x.stage) ≡ b → cond b (Some (LatchBusy x.txn.session)) (first_holder shared others xs) ≡ None → Among y (x ∷ xs) → (first_holder shared others xs ≡ None → Among y xs → holds_latch shared y.stage ≡ false) → holds_latch shared y.stage ≡ false
    go true k e i rest = absurd (some e)
    go false k e (inl f) rest = subst (λ (z : Session). holds_latch shared z.stage ≡ false) (sym f) (second (others x) (holds_latch shared x.stage) (subst (λ (z : Session). others z ≡ true) f o) k)
    go false k e (inr j) rest = rest e j

pub plan-latch : (k : Kernel) (s : ℕ) (x y : Session) → session_at s k.sessions ≡ Some x → turned_away k (Plan s) ≡ None → Among y k.sessions → y.txn.session ≢ s → holds_latch (shares x.stage) y.stage ≡ false
plan-latch k s x y here h i apart =
    free-each (shares x.stage) (λ y. not (nat_eq y.txn.session s)) k.sessions (subst (λ (o : Option Session). latched (Plan s) o k.sessions ≡ None) here (is_let k (Plan s) h).latched) y i (other y.txn.session s apart)
  where
    other : (a b : ℕ) → a ≢ b → not (nat_eq a b) ≡ true
    other a b h = grind (arith, nat_tests)
