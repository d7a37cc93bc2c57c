-- Marks and commits that stand somewhere in their list.
use Rattle.std.proofs.Common.{◌≡◌, ℕ, ◌+◌, ◌-◌, ◌<◌, ◌≤◌, Bool, true, false, not, ◌&&◌, ◌||◌, cond, List, [], ◌∷◌, ◌++◌, take, length, get_or, nat_eq, refl, sym, ap, ◌∙◌, inl, inr, arith}
use Rattle.std.specs.List.{list_any}
use Rattle.std.proofs.lemmas.List.{take_more}
use Rattle.std.proofs.lemmas.Bool.{cases_lt}
use Rattle.sp_rect.specs.declared.commit.Commit.{Commit}
use Rattle.sp_node.specs.declared.node.Entry.{Entry}
use Rattle.sp_node.specs.Among.{Among}
use Rattle.sp_node.specs.Marked.{IsNextMarked, HasNoMarkFrom}
use Rattle.sp_node.specs.Marks.{is_marked, is_made_by, is_ended_by}
use Rattle.sp_node.specs.Table.{Table, entries_of}
use Rattle.sp_model.specs.Stepped.{is_change, last_place}

-- no entry passes
none-passes : {A : Type 0} (test : A → Bool) (xs : List A) → ((x : A) → Among x xs → test x ≡ false) → list_any test xs ≡ false
none-passes test [] none = refl
none-passes test (x ∷ xs) none = go (test x) (none x (inl refl)) (none-passes test xs (λ y i. none y (inr i)))
  where
    go : (b : Bool) → b ≡ false → list_any test xs ≡ false → (b || list_any test xs) ≡ false
    go true e r = cc
    go false e r = r

unmarked-unchanged : (t : ℕ) (e : Entry) → is_marked t e ≡ false → is_change t e ≡ false
unmarked-unchanged t e m = ap (λ (b : Bool). b && not (is_made_by t e.marks.made && is_ended_by t e.marks.ended)) m

-- without a change up to the next mark, and there
pub next-unchanged : (t : Table) (txn start number : ℕ) → IsNextMarked t txn start number → ((e : Entry) → Among e (entries_of t) → e.number < start → is_change txn e ≡ false)
    → ((e : Entry) → Among e (entries_of t) → e.number ≡ number → is_change txn e ≡ false) → (e : Entry) → Among e (entries_of t) → e.number < number + 1 → is_change txn e ≡ false
next-unchanged t txn start number next before here e i l = elim (cases_lt e.number start) [
  | inl low ↦ before e i low
  | inr high ↦ elim (cases_lt e.number number) [
    | inl less ↦ unmarked-unchanged txn e (next.least e i high less)
    | inr more ↦ here e i (omega (arith, l, more))
  ]
]

pub all-unchanged : (t : Table) (txn start : ℕ) → HasNoMarkFrom t txn start → ((e : Entry) → Among e (entries_of t) → e.number < start → is_change txn e ≡ false) → list_any (is_change txn) (entries_of t) ≡ false
all-unchanged t txn start none before = none-passes (is_change txn) (entries_of t) each
  where
    each : (e : Entry) → Among e (entries_of t) → is_change txn e ≡ false
    each e i = elim (cases_lt e.number start) [
      | inl low ↦ before e i low
      | inr high ↦ unmarked-unchanged txn e (none e i high)
    ]

-- the place of the last commit, by what the last one of all is
pub last_place-push : (s : ℕ) (cs : List Commit) (c : Commit) (found : ℕ) → last_place s (cs ++ c ∷ []) found ≡ cond (nat_eq c.session s) c.place (last_place s cs found)
last_place-push s [] c found = refl
last_place-push s (d ∷ cs) c found = last_place-push s cs c (cond (nat_eq d.session s) d.place found)

pub last_place-back : (s : ℕ) (cs : List Commit) (i : ℕ) (c : Commit) → 0 < i → i ≤ length cs → c ≡ get_or cs (i - 1) c → last_place s (take i cs) 0 ≡ cond (nat_eq c.session s) c.place (last_place s (take (i - 1) cs) 0)
last_place-back s cs i c some l is =
    let e : i ≡ (i - 1) + 1 = omega (arith, some) in
    ap (λ (n : ℕ). last_place s (take n cs) 0) e ∙ ap (λ (ds : List Commit). last_place s ds 0) (take_more cs (i - 1) c (omega (arith, some, l)) ∙ ap (λ (d : Commit). take (i - 1) cs ++ d ∷ []) (sym is))
    ∙ last_place-push s (take (i - 1) cs) c 0
