-- A transcript with one item more.
use Rattle.std.proofs.Common.{◌≡◌, ◌⊎◌, ℕ, ◌+◌, Bool, List, [], ◌∷◌, ◌++◌, filter, length, refl, sym, ap, ◌∙◌, subst, inl, inr, arith}
use Rattle.std.proofs.lemmas.List.{length-append}
use Rattle.std.proofs.lemmas.List.Elements.{filter-append}
use Rattle.std.proofs.lemmas.List.Sums.{fold-append}
use Rattle.sp_rect.specs.declared.record.Record.{Record}
use Rattle.sp_event.specs.declared.answer.Answer.{Answer}
use Rattle.sp_event.specs.declared.answer.Answer.TheVariants.{Began}
use Rattle.sp_text.specs.Transcripts.{Ledger, ledger, note, committed}
use Rattle.sp_text.specs.declared.types.Command.{Command}
use Rattle.sp_text.specs.declared.types.Item.{Item}
use Rattle.sp_text.specs.declared.types.Item.TheVariants.{Told}
use Rattle.sp_desk.proofs.Accounting.{one_more}
use Rattle.sp_conduct.specs.Standing.{Standing, standing, stands_noted}
use Rattle.sp_conduct.specs.Transcript.{is_begun, begun, Fits, IsConducted}
use Rattle.sp_conduct.proofs.Resting.{next_begun}

pub standing_more : (items : List Item) (item : Item) → standing (items ++ item ∷ []) ≡ stands_noted (standing items) item
standing_more items item = fold-append stands_noted (λ s. Standing.Out) items (item ∷ [])

pub begun_more : (items : List Item) (item : Item) → begun (items ++ item ∷ []) ≡ begun items + begun (item ∷ [])
begun_more items item = ap (λ (xs : List Item). length xs) (filter-append is_begun items (item ∷ [])) ∙ length-append (filter is_begun items) (filter is_begun (item ∷ []))

pub committed_more : (items : List Item) (item : Item) → committed (items ++ item ∷ []) ≡ (note (ledger items) item).done
committed_more items item = ap (λ (l : Ledger). l.done) (one_more items item)

-- the number of the next transaction
one_begun : (n m c : ℕ) → n ≡ c + 1 → m ≡ c + 1 → n + 1 ≡ m + 1
one_begun n m c e h = omega arith

none_begun : (n m c : ℕ) → n ≡ c + 1 → m ≡ c + 0 → n ≡ m + 1
none_begun n m c e h = omega arith

pub next_told : (items : List Item) (s : ℕ) (command : Command) (answer : Answer) (late : Bool) (next : ℕ) → next ≡ begun items + 1 → next_begun answer next ≡ begun (items ++ Told s command answer late ∷ []) + 1
next_told items s command (Began txn seen) late next e = one_begun next (begun (items ++ Told s command (Began txn seen) late ∷ [])) (begun items) e (begun_more items (Told s command (Began txn seen) late))
next_told items s command answer late next e = none_begun next (begun (items ++ Told s command answer late ∷ [])) (begun items) e (begun_more items (Told s command answer late))

pub next_bad : (items : List Item) (item : Item) (next : ℕ) → begun (item ∷ []) ≡ 0 → next ≡ begun items + 1 → next ≡ begun (items ++ item ∷ []) + 1
next_bad items item next none e = none_begun next (begun (items ++ item ∷ [])) (begun items) e (begun_more items item ∙ ap (λ (n : ℕ). begun items + n) none)

module _ {A : Type 0} where
  heads : (x y : A) (xs ys : List A) → x ∷ xs ≡ y ∷ ys → x ≡ y
  heads x y xs ys e = cc

  tails : (x y : A) (xs ys : List A) → x ∷ xs ≡ y ∷ ys → xs ≡ ys
  tails x y xs ys e = cc

  some : (x : A) (xs : List A) → [] ≡ x ∷ xs → ⊥
  some x xs e = cc

  joined : (x y : A) (xs ys : List A) → x ≡ y → xs ≡ ys → x ∷ xs ≡ y ∷ ys
  joined x y xs ys e h = cc

  pub some_before : (before : List A) (x : A) (behind : List A) → [] ≡ before ++ x ∷ behind → ⊥
  some_before [] x behind e = some x behind e
  some_before (y ∷ before) x behind e = some y (before ++ x ∷ behind) e

  -- whatever stands in a list with one more at its end is that one, or stands in the list
  pub last_or_before : (xs : List A) (x : A) (before : List A) (y : A) (behind : List A) → xs ++ x ∷ [] ≡ before ++ y ∷ behind
      → ((before ≡ xs) × (y ≡ x)) ⊎ ((rest : List A) × (xs ≡ before ++ y ∷ rest))
  last_or_before [] x [] y behind e = inl (refl, sym (heads x y [] behind e))
  last_or_before [] x (z ∷ before) y behind e = absurd (some_before before y behind (tails x z [] (before ++ y ∷ behind) e))
  last_or_before (z ∷ xs) x [] y behind e = inr (xs, joined z y xs xs (heads z y (xs ++ x ∷ []) behind e) refl)
  last_or_before (z ∷ xs) x (b ∷ before) y behind e =
      let same = heads z b (xs ++ x ∷ []) (before ++ y ∷ behind) e in
      elim (last_or_before xs x before y behind (tails z b (xs ++ x ∷ []) (before ++ y ∷ behind) e)) [
        | inl p ↦ inl (joined b z before xs (sym same) p.0, p.1)
        | inr p ↦ inr (p.0, joined z b xs (before ++ y ∷ p.0) same p.1)
      ]

module _ (base : List Record) where
  pub conducted_none : IsConducted base []
  conducted_none before item behind e = absurd (some_before before item behind e)

  pub conducted_more : (items : List Item) (item : Item) → IsConducted base items → Fits base items item → IsConducted base (items ++ item ∷ [])
  conducted_more items item all fits before other behind e = go (last_or_before items item before other behind e)
    where
      go : ((before ≡ items) × (other ≡ item)) ⊎ ((rest : List Item) × (items ≡ before ++ other ∷ rest)) → Fits base before other
      go (inl p) = subst (λ (i : Item). Fits base before i) (sym p.1) (subst (λ (front : List Item). Fits base front item) (sym p.0) fits)
      go (inr p) = all before other p.0 p.1
