-- The changes of a transaction, where entries change that bear no mark of it.
use Rattle.std.proofs.Common.{◌≡◌, ℕ, Bool, true, false, not, ◌&&◌, ◌||◌, List, [], ◌∷◌, ◌++◌, map, None, refl, sym, ap, ◌∙◌, inl, inr, true≢false, arith}
use Rattle.std.specs.Option.{option_to_list}
use Rattle.sp_node.specs.declared.node.Entry.{Entry}
use Rattle.sp_node.specs.Among.{Among}
use Rattle.sp_node.specs.Marks.{is_made_by, is_ended_by, is_draft_of, is_done, is_marked, settled, undone}
use Rattle.sp_txn.specs.Changes.{change_by, change_of, changes_of}
use Rattle.sp_model.proofs.Settling.{settled-others, undone-others}
use Rattle.sp_model.proofs.Untouched.{settled-same, undone-same, unmarked-untouched}

-- an entry without a mark gives no change
pub unmarked_none : (t : ℕ) (e : Entry) → is_marked t e ≡ false → change_of t e ≡ None
unmarked_none t e h = by (is_done e.marks.ended) (is_made_by t e.marks.made) (is_ended_by t e.marks.ended) (is_draft_of t e.marks.draft) h
  where
    by : (d m x f : Bool) → ((m || x || f) && not d) ≡ false → change_by t e d m x f ≡ None
    by true m x f h = refl
    by false true x f h = absurd (true≢false h)
    by false false true f h = absurd (true≢false h)
    by false false false true h = absurd (true≢false h)
    by false false false false h = refl

not_true : (b : Bool) → (b ≡ true → ⊥) → b ≡ false
not_true true h = absurd (h refl)
not_true false h = refl

-- what has a mark stays, and nothing else gets one
pub change_alike : (t : ℕ) (e e' : Entry) → (is_marked t e ≡ true → e' ≡ e) → (is_marked t e' ≡ true → is_marked t e ≡ true) → change_of t e' ≡ change_of t e
change_alike t e e' same marked = go (is_marked t e) refl
  where
    go : (b : Bool) → is_marked t e ≡ b → change_of t e' ≡ change_of t e
    go true m = ap (change_of t) (same m)
    go false m = unmarked_none t e' (not_true (is_marked t e') (λ n. true≢false (sym (marked n) ∙ m))) ∙ sym (unmarked_none t e m)

pub changes_alike : (t : ℕ) (change : Entry → Entry) (es : List Entry) → ((e : Entry) → Among e es → change_of t (change e) ≡ change_of t e) → changes_of t (map change es) ≡ changes_of t es
changes_alike t change [] same = refl
changes_alike t change (e ∷ es) same = λ i. option_to_list (same e (inl refl) i) ++ changes_alike t change es (λ x j. same x (inr j)) i

alive : (t : ℕ) (e : Entry) → is_marked t e ≡ true → is_done e.marks.ended ≡ false
alive t e m = go (is_made_by t e.marks.made || is_ended_by t e.marks.ended || is_draft_of t e.marks.draft) (is_done e.marks.ended) m
  where
    go : (a b : Bool) → (a && not b) ≡ true → b ≡ false
    go a b h = grind arith

-- the end of another transaction leaves the changes, where no entry has marks of both
module _ (t u : ℕ) (es : List Entry) (apart : (e : Entry) → Among e es → is_marked t e ≡ true → is_marked u e ≡ false) where
  pub changes_settled : changes_of t (map (settled u) es) ≡ changes_of t es
  changes_settled =
      changes_alike t (settled u) es
      (λ e i. change_alike t e (settled u e) (λ m. settled-same u e (unmarked-untouched u e (alive t e m) (apart e i m))) (λ n. (settled-others u t e n).0))

  pub changes_undone : changes_of t (map (undone u) es) ≡ changes_of t es
  changes_undone =
      changes_alike t (undone u) es
      (λ e i. change_alike t e (undone u e) (λ m. undone-same u e (unmarked-untouched u e (alive t e m) (apart e i m))) (λ n. (undone-others u t e n).0))
