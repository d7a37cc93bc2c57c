-- What one change of a session leaves of the agreement on operations that were started.
use Rattle.std.proofs.Common.{◌≡◌, ℕ, Bool, true, false, ◌∷◌, nat_eq, Option, None, Some, refl, sym, ap, ◌∙◌, subst, arith}
use Rattle.std.proofs.lemmas.Bool.Decides.{nat_tests}
use Rattle.sp_rect.specs.declared.operation.Op.{Op}
use Rattle.sp_text.specs.Transcripts.{Ledger, last_started}
use Rattle.sp_model.specs.declared.session.Session.{Session}
use Rattle.sp_model.specs.State.{Kernel, session_at}
use Rattle.sp_model.specs.Stepped.{IsAt}
use Rattle.sp_model.proofs.Sessions.{number-same}
use Rattle.sp_told.specs.Telling.{operation_of, TellsStarted}
use Rattle.sp_told.proofs.Changes.{SessionsAnew}

one-session : (x y : Session) → Some x ≡ Some y → x ≡ y
one-session x y h = cc

no-operation : (op : Op) → None ≡ Some op → ⊥
no-operation op h = cc

-- the same sessions, and nothing started
pub started_same : (l l' : Ledger) (k k' : Kernel) → k'.sessions ≡ k.sessions → l'.started ≡ l.started → TellsStarted l k → TellsStarted l' k'
started_same l l' k k' sessions started t = record { last = λ s x op at under. ap (last_started s) started ∙ t.last s x op (ap (session_at s) (sym sessions) ∙ at) under }

-- one session changes, comes or goes
pub started_turn : (l l' : Ledger) (k k' : Kernel) (s : ℕ) (o : Option Session) → TellsStarted l k → SessionsAnew s k.sessions k'.sessions o
    → ((y : Session) (op : Op) → o ≡ Some y → operation_of y.stage ≡ Some op → last_started s l'.started ≡ Some op)
    → ((n : ℕ) → nat_eq n s ≡ false → last_started n l'.started ≡ last_started n l.started) → TellsStarted l' k'
started_turn l l' k k' s o t turn own others = record { last = λ n x op at under. go n x op at under (nat_eq n s) refl }
  where
    go : (n : ℕ) (x : Session) (op : Op) → IsAt k' n x → operation_of x.stage ≡ Some op → (b : Bool) → nat_eq n s ≡ b → last_started n l'.started ≡ Some op
    go n x op at under true e =
        let same = number-same n s e in
        subst (λ m. last_started m l'.started ≡ Some op) (sym same) (own x op (sym turn.own ∙ subst (λ m. session_at m k'.sessions ≡ Some x) same at) under)
    go n x op at under false e = others n e ∙ t.last n x op (sym (turn.others n e) ∙ at) under

-- to a stage with no operation, or to none
pub started_idle : (l l' : Ledger) (k k' : Kernel) (s : ℕ) (y : Session) → TellsStarted l k → SessionsAnew s k.sessions k'.sessions (Some y) → operation_of y.stage ≡ None → l'.started ≡ l.started → TellsStarted l' k'
started_idle l l' k k' s y t turn idle started =
    started_turn l l' k k' s (Some y) t turn (λ z op is under. absurd (no-operation op (sym idle ∙ ap (λ (w : Session). operation_of w.stage) (one-session y z is) ∙ under))) (λ n e. ap (last_started n) started)

pub started_gone : (l l' : Ledger) (k k' : Kernel) (s : ℕ) → TellsStarted l k → SessionsAnew s k.sessions k'.sessions None → l'.started ≡ l.started → TellsStarted l' k'
started_gone l l' k k' s t turn started = started_turn l l' k k' s None t turn (λ z op is under. absurd (none z is)) (λ n e. ap (last_started n) started)
  where
    none : (z : Session) → None ≡ Some z → ⊥
    none z is = cc

-- to a stage of the same operation
pub started_goes_on : (l l' : Ledger) (k k' : Kernel) (s : ℕ) (x y : Session) → TellsStarted l k → IsAt k s x → SessionsAnew s k.sessions k'.sessions (Some y) → operation_of y.stage ≡ operation_of x.stage → l'.started ≡ l.started → TellsStarted l' k'
started_goes_on l l' k k' s x y t at turn same started =
    started_turn l l' k k' s (Some y) t turn
    (λ z op is under. ap (last_started s) started ∙ t.last s x op at (sym same ∙ ap (λ (w : Session). operation_of w.stage) (one-session y z is) ∙ under)) (λ n e. ap (last_started n) started)

-- an operation is started
pub started_anew : (l l' : Ledger) (k k' : Kernel) (s : ℕ) (y : Session) (op : Op) → TellsStarted l k → SessionsAnew s k.sessions k'.sessions (Some y) → operation_of y.stage ≡ Some op → l'.started ≡ record { session = s; op = op } ∷ l.started → TellsStarted l' k'
started_anew l l' k k' s y op t turn is started =
    started_turn l l' k k' s (Some y) t turn
    (λ z other same under. ap (last_started s) started ∙ own ∙ sym is ∙ ap (λ (w : Session). operation_of w.stage) (one-session y z same) ∙ under)
    (λ n e. ap (last_started n) started ∙ rest n e)
  where
    self : (n : ℕ) → nat_eq n n ≡ true
    self n = grind (arith, nat_tests)

    swap : (n m : ℕ) → nat_eq n m ≡ false → nat_eq m n ≡ false
    swap n m e = grind (arith, nat_tests)

    own : last_started s (record { session = s; op = op } ∷ l.started) ≡ Some op
    own = rw (self s) refl

    rest : (n : ℕ) → nat_eq n s ≡ false → last_started n (record { session = s; op = op } ∷ l.started) ≡ last_started n l.started
    rest n e = rw (swap n s e) refl
