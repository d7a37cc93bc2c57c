-- What holds of a tree that is rebuilt from the first of the records.
use Rattle.std.proofs.Common.{◌≡◌, ◌≢◌, ℕ, zero, suc, ◌+◌, ◌<◌, ◌≤◌, ◌^◌, List, [], ◌∷◌, ◌++◌, length, take, get_or, Option, Some, None, refl, sym, ap, ◌∙◌, subst, arith}
use Rattle.std.specs.Option.{MatchOption}
use Rattle.std.proofs.lemmas.List.{take_more, length-append}
use Rattle.sp_rect.specs.declared.record.Record.{Record}
use Rattle.sp_rect.specs.Store.{IsOrderedFrom, IsOrdered}
use Rattle.sp_node.specs.declared.node.Entry.{Entry}
use Rattle.sp_node.specs.declared.node.Shape.{Shape}
use Rattle.sp_node.specs.Among.{Among}
use Rattle.sp_node.specs.Index.{leaf_with}
use Rattle.sp_node.specs.Standing.{HasNoEntry, IsLeafOf}
use Rattle.sp_node.specs.Table.{Table, IsShape, IsValid, places_of, entries_of, level_of, empty_tree}
use Rattle.sp_node.proofs.Among.{among_flat_map}
use Rattle.sp_node.proofs.Single.{own}
use Rattle.sp_node.proofs.Standing.{own_all, leaf_stands}
use Rattle.sp_model.specs.State.{Kernel}
use Rattle.sp_model.specs.Stepped.{most_entries}
use Rattle.sp_model.specs.Opening.{committed_entry, IsRebuilt}
use Rattle.sp_model.specs.Plans.{IsInserted}
use Rattle.sp_model.specs.Soundness.{Sound}
use Rattle.sp_model.proofs.Growing.{entered_length}
use Rattle.sp_model.proofs.Stepping.{opened_whole}

-- the first of ordered records are ordered
ordered_take : (low n : ℕ) (rs : List Record) → IsOrderedFrom low rs → IsOrderedFrom low (take n rs)
ordered_take low zero rs h = tt
ordered_take low (suc n) [] h = tt
ordered_take low (suc n) (r ∷ rs) h = (h.0, ordered_take (r.id + 1) n rs h.1)

length_take : {A : Type 0} (n : ℕ) (xs : List A) → n ≤ length xs → length (take n xs) ≡ n
length_take zero xs h = refl
length_take (suc n) [] h = absurd (omega arith)
length_take (suc n) (x ∷ xs) h = ap suc (length_take n xs (omega arith))

-- a number that no entry has is in no leaf
unheld : (t : Table) (q : ℕ) → IsValid t → ((e : Entry) → Among e (entries_of t) → e.number ≢ q) → leaf_with t.nodes q ≡ None
unheld t q valid none = go (leaf_with t.nodes q) (leaf_stands t valid q)
  where
    go : (o : Option ℕ) → MatchOption o (HasNoEntry t q) (IsLeafOf t q) → o ≡ None
    go None h = refl
    go (Some leaf) h = absurd (none h.entry (subst (Among h.entry) (own_all t valid) (among_flat_map own h.entry h.place (places_of t) h.among h.has)) h.is)

abbrev at_first : Table → List Record → Kernel
at_first t records = record { tree = t; next_entry = length records + 1; next_txn = 1; locks = []; sessions = []; dead = []; queue = []; flight = []; calls = 0; base = records; commits = []; ended = []; stopped = None }

sound_at : (shape : Shape) (records : List Record) (t : Table) → IsShape shape → IsOrdered records → length records ≤ most_entries → IsRebuilt shape records t → Sound (at_first t records)
sound_at shape records t v ordered few built = opened_whole shape records (at_first t records) v ordered few (record {
  tree = built;
  next_entry = refl;
  next_txn = refl;
  locks = refl;
  sessions = refl;
  dead = refl;
  queue = refl;
  flight = refl;
  calls = refl;
  base = refl;
  commits = refl;
  ended = refl;
  stopped = refl;
})

apart : (m n : ℕ) → m < n → m ≡ n → ⊥
apart m n l e = omega arith

-- the next entry number is free, and node numbers are left
pub record IsReady (t : Table) (number : ℕ) : Type 0 where
  pub fresh : leaf_with t.nodes number ≡ None
  pub numbers : t.next < 2 ^ 63 + 2 ^ 32

ready_all : (shape : Shape) (records : List Record) (t : Table) → IsShape shape → IsOrdered records → length records ≤ most_entries → IsRebuilt shape records t → IsReady t (length records + 1)
ready_all shape records t v ordered few built =
    let sound = sound_at shape records t v ordered few built in
    record { fresh = unheld t (length records + 1) sound.valid (λ e i. apart e.number (length records + 1) (sound.entry_numbers e i)); numbers = sound.counts.node_numbers }

pub ready : (shape : Shape) (records : List Record) (i : ℕ) (t : Table) → IsShape shape → IsOrdered records → length records ≤ most_entries → i ≤ length records → IsRebuilt shape (take i records) t → IsReady t (i + 1)
ready shape records i t v ordered few within built =
    let l = length_take i records within in
    subst (λ (n : ℕ). IsReady t (n + 1)) l (ready_all shape (take i records) t v (ordered_take 0 i records ordered) (omega (arith, l, within, few)) built)

-- one record more
pub one_more : (shape : Shape) (records : List Record) (i : ℕ) (r : Record) (t t' : Table) → i < length records → r ≡ get_or records i r → IsRebuilt shape (take i records) t → IsInserted t (committed_entry (i + 1) r) t' → IsRebuilt shape (take (i + 1) records) t'
one_more shape records i r t t' within is built inserted =
    subst (λ (rs : List Record). IsRebuilt shape rs t') (ap (λ (x : Record). take i records ++ x ∷ []) is ∙ sym (take_more records i r within))
    (IsRebuilt.More (take i records) r t t' built (subst (λ (n : ℕ). IsInserted t (committed_entry (n + 1) r) t') (sym (length_take i records (omega arith))) inserted))

none_in : (shape : Shape) → length (entries_of (empty_tree shape)) ≡ 0
unfolding level_of
none_in shape = refl

-- the tree has an entry for each record
pub as_many : (shape : Shape) (records : List Record) (t : Table) → IsShape shape → IsOrdered records → length records ≤ most_entries → IsRebuilt shape records t → length (entries_of t) ≡ length records
as_many shape _ _ v ordered few IsRebuilt.Empty = none_in shape
as_many shape _ _ v ordered few (IsRebuilt.More records r t t' before inserted) =
    let longer = length-append records (r ∷ []) in
    let l : length records ≤ most_entries = omega (arith, longer, few) in
    let sound = sound_at shape records t v (front 0 records r ordered) l before in
    entered_length t (committed_entry (length records + 1) r) t' sound.valid inserted (λ f i. apart f.number (length records + 1) (sound.entry_numbers f i))
    ∙ ap (λ (n : ℕ). n + 1) (as_many shape records t v (front 0 records r ordered) l before) ∙ sym longer
  where
    front : (low : ℕ) (rs : List Record) (r : Record) → IsOrderedFrom low (rs ++ r ∷ []) → IsOrderedFrom low rs
    front low [] r h = tt
    front low (x ∷ rs) r h = (h.0, front (x.id + 1) rs r h.1)
