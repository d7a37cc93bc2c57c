-- What one change of a session, with what is told of it, leaves of the agreement on commits.
use Rattle.std.proofs.Common.{◌≡◌, ℕ, ◌+◌, Bool, true, false, not, cond, ◌||◌, List, [], ◌∷◌, ◌++◌, map, length, nat_eq, Option, None, Some, refl, sym, ap, ap₂, ◌∙◌, subst, append-nil, append_assoc, arith}
use Rattle.std.specs.List.{IsDistinct, list_any, AllByRecursion}
use Rattle.std.proofs.lemmas.Bool.Decides.{nat_tests}
use Rattle.std.proofs.lemmas.Map.Keys.{IsDistinct-head, IsDistinct-tail, IsDistinct-cons}
use Rattle.sp_rect.specs.declared.commit.Commit.{Commit}
use Rattle.sp_text.specs.Transcripts.{Ledger, of_session, with_place}
use Rattle.sp_model.specs.declared.session.Session.{Session}
use Rattle.sp_model.specs.State.{Kernel, is_active, session_at}
use Rattle.sp_model.specs.Refusals.{is_placed}
use Rattle.sp_model.specs.Moves.{placed_commit, at_place}
use Rattle.sp_model.specs.Stepped.{IsAt}
use Rattle.sp_model.proofs.Sessions.{number-same}
use Rattle.sp_told.specs.Telling.{without_place, open_of, TellsCommits}
use Rattle.sp_told.proofs.Pending.{number-swap, own_one, other_one, session-append, none_late, PendsAnew}
use Rattle.sp_told.proofs.Changes.{SessionsAnew}

number-self : (a : ℕ) → nat_eq a a ≡ true
number-self a = grind (arith, nat_tests)

-- the same sessions and commits
pub as_before : (before : List Commit) (l : Ledger) (k k' : Kernel) (owed : List ℕ) → k'.sessions ≡ k.sessions → k'.commits ≡ k.commits → TellsCommits before l k owed → TellsCommits before l k' owed
as_before before l k k' owed sessions commits t = record {
  late = t.late;
  sessions = t.sessions;
  once = t.once;
  placed = λ s. ap (λ (xs : List Session). is_placed (session_at s xs)) sessions ∙ t.placed s;
  commits = commits ∙ t.commits;
  pending = λ s. t.pending s ∙ ap (λ (xs : List Session). open_of (session_at s xs) ++ map (with_place 0) (of_session s t.late)) (sym sessions);
}

-- a session that is not placed has no late commit, so what it has pending is its open transaction
pub none_of : (before : List Commit) (l : Ledger) (k : Kernel) (owed : List ℕ) (s : ℕ) (t : TellsCommits before l k owed) → is_placed (session_at s k.sessions) ≡ false → of_session s t.late ≡ []
none_of before l k owed s t free = none_late s t.late owed t.sessions (sym (t.placed s) ∙ free)

pub pends_open : (before : List Commit) (l : Ledger) (k : Kernel) (owed : List ℕ) (s : ℕ) → TellsCommits before l k owed → is_placed (session_at s k.sessions) ≡ false → of_session s l.pending ≡ open_of (session_at s k.sessions)
pends_open before l k owed s t free =
    t.pending s
    ∙ ap (λ (cs : List Commit). open_of (session_at s k.sessions) ++ map (with_place 0) cs) (none_of before l k owed s t free)
    ∙ append-nil (open_of (session_at s k.sessions))

open-active : (x : Session) → is_active x ≡ true → open_of (Some x) ≡ without_place x ∷ []
open-active x a = ap (λ b. cond b (without_place x ∷ []) []) a

active-placed : (x : Session) → is_active x ≡ true → is_placed (Some x) ≡ false
active-placed x a = ap not a

-- the session's transaction is open
pub free_at : (k : Kernel) (s : ℕ) (x : Session) → IsAt k s x → is_active x ≡ true → is_placed (session_at s k.sessions) ≡ false
free_at k s x at a = ap is_placed at ∙ active-placed x a

pub pends_one : (before : List Commit) (l : Ledger) (k : Kernel) (owed : List ℕ) (s : ℕ) (x : Session) → TellsCommits before l k owed → IsAt k s x → is_active x ≡ true → of_session s l.pending ≡ without_place x ∷ []
pends_one before l k owed s x t at a = pends_open before l k owed s t (free_at k s x at a) ∙ ap open_of at ∙ open-active x a

-- one session that is not placed changes, or comes or goes, as it was told
pub step_tells : (before : List Commit) (l l' : Ledger) (k k' : Kernel) (owed : List ℕ) (s : ℕ) (o : Option Session) (mine : List Commit) → TellsCommits before l k owed → is_placed (session_at s k.sessions) ≡ false → is_placed o ≡ false
    → SessionsAnew s k.sessions k'.sessions o → PendsAnew s l.pending l'.pending mine → mine ≡ open_of o → k'.commits ≡ k.commits → l'.done ≡ l.done → TellsCommits before l' k' owed
step_tells before l l' k k' owed s o mine t free stays turn told same commits done = record {
  late = t.late;
  sessions = t.sessions;
  once = t.once;
  placed = λ n. placed n (nat_eq n s) refl;
  commits = commits ∙ t.commits ∙ ap (λ (cs : List Commit). before ++ (cs ++ t.late)) (sym done);
  pending = λ n. pending n (nat_eq n s) refl;
}
  where
    placed : (n : ℕ) (b : Bool) → nat_eq n s ≡ b → is_placed (session_at n k'.sessions) ≡ list_any (nat_eq n) owed
    placed n true e =
        subst (λ m. is_placed (session_at m k'.sessions) ≡ list_any (nat_eq m) owed) (sym (number-same n s e)) (ap is_placed turn.own ∙ stays ∙ sym free ∙ t.placed s)
    placed n false e = ap is_placed (turn.others n e) ∙ t.placed n

    own : of_session s l'.pending ≡ open_of (session_at s k'.sessions) ++ map (with_place 0) (of_session s t.late)
    own =
        told.own ∙ same ∙ sym (append-nil (open_of o))
        ∙ ap₂ (λ (cs ds : List Commit). cs ++ map (with_place 0) ds) (ap open_of (sym turn.own)) (sym (none_of before l k owed s t free))

    pending : (n : ℕ) (b : Bool) → nat_eq n s ≡ b → of_session n l'.pending ≡ open_of (session_at n k'.sessions) ++ map (with_place 0) (of_session n t.late)
    pending n true e = subst (λ m. of_session m l'.pending ≡ open_of (session_at m k'.sessions) ++ map (with_place 0) (of_session m t.late)) (sym (number-same n s e)) own
    pending n false e = told.others n e ∙ t.pending n ∙ ap (λ (p : Option Session). open_of p ++ map (with_place 0) (of_session n t.late)) (sym (turn.others n e))

-- a session's open transaction takes its place at once, and was told so
pub commit_tells : (before : List Commit) (l l' : Ledger) (k k' : Kernel) (s : ℕ) (x : Session) → TellsCommits before l k [] → IsAt k s x → is_active x ≡ true → SessionsAnew s k.sessions k'.sessions None
    → PendsAnew s l.pending l'.pending [] → k'.commits ≡ k.commits ++ placed_commit x k ∷ [] → l'.done ≡ l.done ++ map (with_place (length k.commits + 1)) (of_session s l.pending) → TellsCommits before l' k' []
commit_tells before l l' k k' s x t at a turn told commits done = record {
  late = [];
  sessions = refl;
  once = t.once;
  placed = λ n. placed n (nat_eq n s) refl;
  commits = commits ∙ ap (λ (cs : List Commit). cs ++ placed_commit x k ∷ []) all ∙ append_assoc before l.done (placed_commit x k ∷ []) ∙ ap (λ (cs : List Commit). before ++ cs) (sym kept ∙ sym (append-nil l'.done));
  pending = λ n. pending n (nat_eq n s) refl;
}
  where
    empty : (cs : List Commit) → map (λ (c : Commit). c.session) cs ≡ [] → cs ≡ []
    empty [] e = refl
    empty (c ∷ cs) e = absurd (some e)
      where
        some : c.session ∷ map (λ (c : Commit). c.session) cs ≡ [] → ⊥
        some e = cc

    none : t.late ≡ []
    none = empty t.late t.sessions

    all : k.commits ≡ before ++ l.done
    all = t.commits ∙ ap (λ (cs : List Commit). before ++ (l.done ++ cs)) none ∙ ap (λ (cs : List Commit). before ++ cs) (append-nil l.done)

    kept : l'.done ≡ l.done ++ placed_commit x k ∷ []
    kept = done ∙ ap (λ (cs : List Commit). l.done ++ map (with_place (length k.commits + 1)) cs) (pends_one before l k [] s x t at a)

    placed : (n : ℕ) (b : Bool) → nat_eq n s ≡ b → is_placed (session_at n k'.sessions) ≡ false
    placed n true e = subst (λ m. is_placed (session_at m k'.sessions) ≡ false) (sym (number-same n s e)) (ap is_placed turn.own)
    placed n false e = ap is_placed (turn.others n e) ∙ t.placed n

    pending : (n : ℕ) (b : Bool) → nat_eq n s ≡ b → of_session n l'.pending ≡ open_of (session_at n k'.sessions) ++ map (with_place 0) (of_session n [])
    pending n true e =
        subst (λ m. of_session m l'.pending ≡ open_of (session_at m k'.sessions) ++ map (with_place 0) (of_session m [])) (sym (number-same n s e))
        (told.own ∙ ap₂ (λ (cs ds : List Commit). cs ++ map (with_place 0) ds) (ap open_of (sym turn.own)) (sym (none_late s [] [] refl refl)))
    pending n false e =
        told.others n e ∙ t.pending n
        ∙ ap₂ (λ (p : Option Session) (ds : List Commit). open_of p ++ map (with_place 0) (of_session n ds)) (sym (turn.others n e)) none

-- the number is behind those that it is not one of
none-among : (s : ℕ) (ns : List ℕ) → list_any (nat_eq s) ns ≡ false → (n : ℕ) → list_any (nat_eq n) (ns ++ s ∷ []) ≡ (list_any (nat_eq n) ns || nat_eq n s)
none-among s [] h n = last (nat_eq n s)
  where
    last : (b : Bool) → (b || false) ≡ b
    last b = grind arith
none-among s (m ∷ ns) h n = ap (λ b. nat_eq n m || b) (none-among s ns (rest (nat_eq s m) (list_any (nat_eq s) ns) h) n) ∙ regroup (nat_eq n m) (list_any (nat_eq n) ns) (nat_eq n s)
  where
    rest : (a b : Bool) → (a || b) ≡ false → b ≡ false
    rest a b h = grind arith

    regroup : (a b c : Bool) → (a || (b || c)) ≡ ((a || b) || c)
    regroup a b c = grind arith

distinct-last : (s : ℕ) (ns : List ℕ) → list_any (nat_eq s) ns ≡ false → IsDistinct nat_eq ns → IsDistinct nat_eq (ns ++ s ∷ [])
distinct-last s [] h d = IsDistinct-cons nat_eq s [] tt d
distinct-last s (m ∷ ns) h d = IsDistinct-cons nat_eq m (ns ++ s ∷ []) (behind ns (IsDistinct-head nat_eq m ns d)) (distinct-last s ns (rest (nat_eq s m) (list_any (nat_eq s) ns) h) (IsDistinct-tail nat_eq m ns d))
  where
    rest : (a b : Bool) → (a || b) ≡ false → b ≡ false
    rest a b h = grind arith

    first : (a b : Bool) → (a || b) ≡ false → a ≡ false
    first a b h = grind arith

    behind : (ns : List ℕ) → AllByRecursion (λ n. nat_eq m n ≡ false) ns → AllByRecursion (λ n. nat_eq m n ≡ false) (ns ++ s ∷ [])
    behind [] a = (number-swap m s ∙ first (nat_eq s m) (list_any (nat_eq s) ns) h, tt)
    behind (n ∷ ns) a = (a.0, behind ns a.1)

-- a session's open transaction takes the next place, and is still to be told so
pub place_tells : (before : List Commit) (l : Ledger) (k k' : Kernel) (owed : List ℕ) (s : ℕ) (x : Session) → TellsCommits before l k owed → IsAt k s x → is_active x ≡ true → x.txn.session ≡ s
    → SessionsAnew s k.sessions k'.sessions (Some (at_place x)) → k'.commits ≡ k.commits ++ placed_commit x k ∷ [] → TellsCommits before l k' (owed ++ s ∷ [])
place_tells before l k k' owed s x t at a is turn commits = record {
  late = t.late ++ placed_commit x k ∷ [];
  sessions = named t.late ∙ ap₂ (λ (ns ms : List ℕ). ns ++ ms) t.sessions (ap (λ n. n ∷ []) is);
  once = distinct-last s owed out t.once;
  placed = λ n. placed n (nat_eq n s) refl ∙ sym (none-among s owed out n);
  commits = commits ∙ ap (λ (cs : List Commit). cs ++ placed_commit x k ∷ []) t.commits ∙ append_assoc before (l.done ++ t.late) (placed_commit x k ∷ []) ∙ ap (λ (cs : List Commit). before ++ cs) (append_assoc l.done t.late (placed_commit x k ∷ []));
  pending = λ n. pending n (nat_eq n s) refl;
}
  where
    out : list_any (nat_eq s) owed ≡ false
    out = sym (t.placed s) ∙ free_at k s x at a

    named : (cs : List Commit) → map (λ (c : Commit). c.session) (cs ++ placed_commit x k ∷ []) ≡ map (λ (c : Commit). c.session) cs ++ x.txn.session ∷ []
    named [] = refl
    named (c ∷ cs) = ap (λ (ns : List ℕ). c.session ∷ ns) (named cs)

    or-true : (b : Bool) → (b || true) ≡ true
    or-true b = grind arith

    or-false : (b : Bool) → (b || false) ≡ b
    or-false b = grind arith

    placed : (n : ℕ) (b : Bool) → nat_eq n s ≡ b → is_placed (session_at n k'.sessions) ≡ (list_any (nat_eq n) owed || nat_eq n s)
    placed n true e = subst (λ m. is_placed (session_at m k'.sessions) ≡ true) (sym (number-same n s e)) (ap is_placed turn.own) ∙ sym (or-true (list_any (nat_eq n) owed)) ∙ ap (λ b. list_any (nat_eq n) owed || b) (sym e)
    placed n false e = ap is_placed (turn.others n e) ∙ t.placed n ∙ sym (or-false (list_any (nat_eq n) owed)) ∙ ap (λ b. list_any (nat_eq n) owed || b) (sym e)

    own : of_session s l.pending ≡ open_of (session_at s k'.sessions) ++ map (with_place 0) (of_session s (t.late ++ placed_commit x k ∷ []))
    own =
        pends_one before l k owed s x t at a
        ∙ ap (λ (ds : List Commit). map (with_place 0) ds) (sym (session-append s t.late (placed_commit x k ∷ []) ∙ ap₂ (λ (cs ds : List Commit). cs ++ ds) (none_of before l k owed s t (free_at k s x at a)) (own_one s (placed_commit x k) is)))
        ∙ ap (λ (p : Option Session). open_of p ++ map (with_place 0) (of_session s (t.late ++ placed_commit x k ∷ []))) (sym turn.own)

    pending : (n : ℕ) (b : Bool) → nat_eq n s ≡ b → of_session n l.pending ≡ open_of (session_at n k'.sessions) ++ map (with_place 0) (of_session n (t.late ++ placed_commit x k ∷ []))
    pending n true e = subst (λ m. of_session m l.pending ≡ open_of (session_at m k'.sessions) ++ map (with_place 0) (of_session m (t.late ++ placed_commit x k ∷ []))) (sym (number-same n s e)) own
    pending n false e =
        t.pending n
        ∙ ap₂ (λ (p : Option Session) (ds : List Commit). open_of p ++ map (with_place 0) ds) (sym (turn.others n e))
        (sym (session-append n t.late (placed_commit x k ∷ []) ∙ ap (λ (ds : List Commit). of_session n t.late ++ ds) (other_one n s (placed_commit x k) e is) ∙ append-nil (of_session n t.late)))
