-- What the news of a place leaves of the agreement on commits.
use Rattle.std.proofs.Common.{◌≡◌, ℕ, Bool, true, false, cond, ◌||◌, List, [], ◌∷◌, ◌++◌, map, nat_eq, Option, None, refl, sym, ap, ap₂, ◌∙◌, subst, append_assoc, arith}
use Rattle.std.specs.List.{list_any, AllByRecursion}
use Rattle.std.proofs.lemmas.Bool.Decides.{nat_tests}
use Rattle.std.proofs.lemmas.Map.Keys.{IsDistinct-head, IsDistinct-tail}
use Rattle.sp_rect.specs.declared.commit.Commit.{Commit}
use Rattle.sp_text.specs.Transcripts.{Ledger, of_session, with_place}
use Rattle.sp_model.specs.declared.session.Session.{Session}
use Rattle.sp_model.specs.State.{Kernel, is_active, session_at}
use Rattle.sp_model.specs.Refusals.{is_placed}
use Rattle.sp_model.specs.Stepped.{IsAt, last_place}
use Rattle.sp_model.proofs.Sessions.{number-same}
use Rattle.sp_told.specs.Telling.{without_place, open_of, TellsCommits}
use Rattle.sp_told.proofs.Pending.{own_one, other_one, session-append, none_late, PendsAnew}
use Rattle.sp_told.proofs.Changes.{SessionsAnew}

-- the last commit of a session is the one behind which it has none
last-none : (s : ℕ) (cs : List Commit) (found : ℕ) → list_any (nat_eq s) (map (λ (c : Commit). c.session) cs) ≡ false → last_place s cs found ≡ found
last-none s [] found h = refl
last-none s (c ∷ cs) found h = ap (λ b. last_place s cs (cond b c.place found)) (first c.session (list_any (nat_eq s) (map (λ (c : Commit). c.session) cs)) h) ∙ last-none s cs found (rest (nat_eq s c.session) (list_any (nat_eq s) (map (λ (c : Commit). c.session) cs)) h)
  where
    first : (m : ℕ) (b : Bool) → (nat_eq s m || b) ≡ false → nat_eq m s ≡ false
    first m b h = grind (arith, nat_tests)

    rest : (a b : Bool) → (a || b) ≡ false → b ≡ false
    rest a b h = grind arith

last-own : (s : ℕ) (xs : List Commit) (c : Commit) (cs : List Commit) (found : ℕ) → c.session ≡ s → list_any (nat_eq s) (map (λ (c : Commit). c.session) cs) ≡ false → last_place s (xs ++ c ∷ cs) found ≡ c.place
last-own s [] c cs found is out = ap (λ b. last_place s cs (cond b c.place found)) (same c.session is) ∙ last-none s cs c.place out
  where
    same : (m : ℕ) → m ≡ s → nat_eq m s ≡ true
    same m e = grind (arith, nat_tests)
last-own s (x ∷ xs) c cs found is out = last-own s xs c cs (cond (nat_eq x.session s) x.place found) is out

none-of-distinct : (s : ℕ) (ns : List ℕ) → AllByRecursion (λ n. nat_eq s n ≡ false) ns → list_any (nat_eq s) ns ≡ false
none-of-distinct s [] a = refl
none-of-distinct s (n ∷ ns) a = rw a.0 (none-of-distinct s ns a.1)

-- the first of the sessions owed is told its place
pub late_tells : (before : List Commit) (l l' : Ledger) (k k' : Kernel) (s : ℕ) (rest : List ℕ) (x : Session) → TellsCommits before l k (s ∷ rest) → IsAt k s x → is_active x ≡ false → SessionsAnew s k.sessions k'.sessions None
    → PendsAnew s l.pending l'.pending [] → k'.commits ≡ k.commits → l'.done ≡ l.done ++ map (with_place (last_place s k.commits 0)) (of_session s l.pending) → TellsCommits before l' k' rest
late_tells before l l' k k' s rest x t at gone turn told commits done = go t.late t.sessions t.commits t.pending
  where
    out : list_any (nat_eq s) rest ≡ false
    out = none-of-distinct s rest (IsDistinct-head nat_eq s rest t.once)

    drops : (n : ℕ) (b : Bool) → nat_eq n s ≡ false → (nat_eq n s || b) ≡ b
    drops n b e = grind arith

    placed : (n : ℕ) (b : Bool) → nat_eq n s ≡ b → is_placed (session_at n k'.sessions) ≡ list_any (nat_eq n) rest
    placed n true e = subst (λ m. is_placed (session_at m k'.sessions) ≡ list_any (nat_eq m) rest) (sym (number-same n s e)) (ap is_placed turn.own ∙ sym out)
    placed n false e = ap is_placed (turn.others n e) ∙ t.placed n ∙ drops n (list_any (nat_eq n) rest) e

    go : (late : List Commit) → map (λ (c : Commit). c.session) late ≡ s ∷ rest → k.commits ≡ before ++ (l.done ++ late)
        → ((n : ℕ) → of_session n l.pending ≡ open_of (session_at n k.sessions) ++ map (with_place 0) (of_session n late)) → TellsCommits before l' k' rest
    go [] named all pending = absurd (some named)
      where
        some : [] ≡ s ∷ rest → ⊥
        some e = cc
    go (c ∷ cs) named all pending = record {
      late = cs;
      sessions = others;
      once = IsDistinct-tail nat_eq s rest t.once;
      placed = λ n. placed n (nat_eq n s) refl;
      commits = commits ∙ all ∙ ap (λ (ds : List Commit). before ++ ds) (sym (append_assoc l.done (c ∷ []) cs) ∙ ap (λ (ds : List Commit). ds ++ cs) (sym kept));
      pending = λ n. after n (nat_eq n s) refl;
    }
      where
        is : c.session ≡ s
        is = cc

        others : map (λ (c : Commit). c.session) cs ≡ rest
        others = cc

        none : of_session s cs ≡ []
        none = none_late s cs rest others out

        place : last_place s k.commits 0 ≡ c.place
        place = ap (λ (ds : List Commit). last_place s ds 0) (all ∙ sym (append_assoc before l.done (c ∷ cs))) ∙ last-own s (before ++ l.done) c cs 0 is (ap (λ (ns : List ℕ). list_any (nat_eq s) ns) others ∙ out)

        one : of_session s l.pending ≡ with_place 0 c ∷ []
        one =
            pending s
            ∙ ap₂ (λ (ds es : List Commit). ds ++ map (with_place 0) es) (ap open_of at ∙ ap (λ b. cond b (without_place x ∷ []) []) gone)
            (session-append s (c ∷ []) cs ∙ ap₂ (λ (ds es : List Commit). ds ++ es) (own_one s c is) none)

        kept : l'.done ≡ l.done ++ c ∷ []
        kept = done ∙ ap₂ (λ (p : ℕ) (ds : List Commit). l.done ++ map (with_place p) ds) place one

        after : (n : ℕ) (b : Bool) → nat_eq n s ≡ b → of_session n l'.pending ≡ open_of (session_at n k'.sessions) ++ map (with_place 0) (of_session n cs)
        after n true e =
            subst (λ m. of_session m l'.pending ≡ open_of (session_at m k'.sessions) ++ map (with_place 0) (of_session m cs)) (sym (number-same n s e))
            (told.own ∙ ap₂ (λ (ds es : List Commit). ds ++ map (with_place 0) es) (ap open_of (sym turn.own)) (sym none))
        after n false e =
            told.others n e ∙ pending n
            ∙ ap₂ (λ (p : Option Session) (ds : List Commit). open_of p ++ map (with_place 0) ds) (sym (turn.others n e))
            (session-append n (c ∷ []) cs ∙ ap (λ (ds : List Commit). ds ++ of_session n cs) (other_one n s c e is))
