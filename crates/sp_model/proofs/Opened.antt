-- The kernel that opening gives is sound.
use Rattle.std.proofs.Common.{◌≡◌, ◌≢◌, ◌⊎◌, ℕ, ◌+◌, ◌*◌, ◌<◌, ◌≤◌, Bool, true, false, not, ◌&&◌, ◌||◌, if◌then◌else◌, List, [], ◌∷◌, ◌++◌, length, None, refl, sym, ap, ◌∙◌, subst, inl, inr, true≢false, arith}
use Rattle.std.specs.Prelude.{nat_le}
use Rattle.std.proofs.lemmas.Bool.Decides.{nat_tests}
use Rattle.std.proofs.lemmas.List.{length-append}
use Rattle.sp_rect.specs.declared.record.Record.{Record}
use Rattle.sp_rect.specs.Store.{with_record, IsOrderedFrom, IsOrdered}
use Rattle.sp_locks.proofs.Keeping.{empty-sound}
use Rattle.sp_waits.specs.Edges.{Chain, waits_of}
use Rattle.sp_node.specs.declared.marks.Made.TheVariants.{Committed}
use Rattle.sp_node.specs.declared.marks.Ended.TheVariants.{Nobody}
use Rattle.sp_node.specs.declared.marks.Draft.TheVariants.{None as NoDraft}
use Rattle.sp_node.specs.declared.node.Entry.{Entry}
use Rattle.sp_node.specs.declared.node.Shape.{Shape}
use Rattle.sp_node.specs.Among.{Among}
use Rattle.sp_node.specs.Look.{IsAscending}
use Rattle.sp_node.specs.Marks.{is_marked, is_made_by, is_ended_by, is_draft_of, is_done}
use Rattle.sp_node.specs.Table.{Table, IsShape, IsValid, level_of, entries_of, empty_tree}
use Rattle.sp_node.proofs.Empty.{empty_valid}
use Rattle.sp_txn.specs.Visible.{is_live, record_of, live}
use Rattle.sp_protection.proofs.Rearranging.{rearranged, ordered_parts, one_each}
use Rattle.sp_model.specs.State.{Kernel}
use Rattle.sp_model.specs.Plans.{IsInserted}
use Rattle.sp_model.specs.Stepped.{most_entries}
use Rattle.sp_model.specs.Opening.{committed_entry, IsRebuilt, IsOpened}
use Rattle.sp_model.proofs.Bare.{Bare}
use Rattle.sp_model.proofs.Dead.{distinct-empty}
use Rattle.sp_model.proofs.Growing.{grown_next, few_levels, entered_only, entered_members, entered_length}

-- ordered records with one more behind are ordered without it, and it comes behind them
ordered_front : (low : ℕ) (rs : List Record) (r : Record) → IsOrderedFrom low (rs ++ r ∷ []) → IsOrderedFrom low rs
ordered_front low [] r h = tt
ordered_front low (x ∷ rs) r h = (h.0, ordered_front (x.id + 1) rs r h.1)

last_high : (low : ℕ) (rs : List Record) (r : Record) → IsOrderedFrom low (rs ++ r ∷ []) → low ≤ r.id
last_high low [] r h = h.0
last_high low (x ∷ rs) r h = let a = h.0 in let b = last_high (x.id + 1) rs r h.1 in omega (arith, a, b)

with_last : (low : ℕ) (rs : List Record) (r : Record) → IsOrderedFrom low (rs ++ r ∷ []) → with_record r rs ≡ rs ++ r ∷ []
with_last low [] r h = refl
with_last low (x ∷ rs) r h = go (nat_le r.id x.id) refl (with_last (x.id + 1) rs r h.1)
  where
    go : (b : Bool) → nat_le r.id x.id ≡ b → with_record r rs ≡ rs ++ r ∷ [] → (if b then r ∷ x ∷ rs else x ∷ with_record r rs) ≡ x ∷ (rs ++ r ∷ [])
    go true e rest = absurd (apart r.id x.id e (last_high (x.id + 1) rs r h.1))
      where
        apart : (a b : ℕ) → nat_le a b ≡ true → b + 1 ≤ a → ⊥
        apart a b e l = let k : a ≤ b = grind (arith, nat_tests) in omega (arith, k, l)
    go false e rest = ap (λ (zs : List Record). x ∷ zs) rest

-- what holds of a tree that was rebuilt from records
record Rebuilt (records : List Record) (t : Table) : Type 0 where
  valid : IsValid t
  ascending : IsAscending t.nodes
  numbers : (e : Entry) → Among e (entries_of t) → e.number < length records + 1
  committed : (e : Entry) → Among e (entries_of t) → (e.marks.made ≡ Committed) × (e.marks.ended ≡ Nobody) × (e.marks.draft ≡ NoDraft)
  current : live (entries_of t) ≡ records
  size : length (entries_of t) ≡ length records
  few : t.next ≤ 2 + 1048578 * length records

empty_rebuilt : (shape : Shape) → IsShape shape → Rebuilt [] (empty_tree shape)
unfolding level_of
empty_rebuilt shape v = record {
  valid = empty_valid shape v;
  ascending = (tt, tt);
  numbers = λ e i. absurd i;
  committed = λ e i. absurd i;
  current = refl;
  size = refl;
  few = omega arith;
}

module _ (records : List Record) (r : Record) (t t' : Table) (before : Rebuilt records t) (inserted : IsInserted t (committed_entry (length records + 1) r) t') (ordered : IsOrdered (records ++ r ∷ [])) (few : length records ≤ most_entries) where
  abbrev e : Entry
  e = committed_entry (length records + 1) r

  unused : (f : Entry) → Among f (entries_of t) → f.number ≢ e.number
  unused f i same = low f.number (length records + 1) (before.numbers f i) same
    where
      low : (m n : ℕ) → m < n → m ≡ n → ⊥
      low m n a b = omega arith

  longer : length (records ++ r ∷ []) ≡ length records + 1
  longer = length-append records (r ∷ [])

  joined : live (e ∷ entries_of t) ≡ records ++ r ∷ []
  joined = ap (with_record r) before.current ∙ with_last 0 records r ordered

  current : live (entries_of t') ≡ records ++ r ∷ []
  current =
      sym (rearranged is_live record_of (e ∷ entries_of t) (entries_of t') (λ z. refl) (entered_members t e t' before.valid inserted unused is_live)
      (one_each is_live record_of (e ∷ entries_of t) (λ z. refl) (ordered_parts (live (e ∷ entries_of t)) (subst IsOrdered (sym joined) ordered)).1))
      ∙ joined

  more_rebuilt : Rebuilt (records ++ r ∷ []) t'
  more_rebuilt = record {
    valid = inserted.valid;
    ascending = inserted.ascending;
    numbers = λ f i. number f (entered_only t e t' before.valid inserted unused f i);
    committed = λ f i. marks f (entered_only t e t' before.valid inserted unused f i);
    current = current;
    size = let a = entered_length t e t' before.valid inserted unused in let b = before.size in let c = longer in omega (arith, a, b, c);
    few = let a = before.few in let b = (grown_next t e t' inserted.grown).1 in let c = few_levels t before.valid in let d = before.size in let l = longer in let f = few in omega (arith, a, b, c, d, l, f);
  }
    where
      number : (f : Entry) → (f ≡ e) ⊎ Among f (entries_of t) → f.number < length (records ++ r ∷ []) + 1
      number f (inl same) = let n = ap (λ (z : Entry). z.number) same in let l = longer in omega (arith, n, l)
      number f (inr i) = let n = before.numbers f i in let l = longer in omega (arith, n, l)

      marks : (f : Entry) → (f ≡ e) ⊎ Among f (entries_of t) → (f.marks.made ≡ Committed) × (f.marks.ended ≡ Nobody) × (f.marks.draft ≡ NoDraft)
      marks f (inl same) = (ap (λ (z : Entry). z.marks.made) same, ap (λ (z : Entry). z.marks.ended) same, ap (λ (z : Entry). z.marks.draft) same)
      marks f (inr i) = before.committed f i

rebuilt : (shape : Shape) → IsShape shape → (records : List Record) (t : Table) → IsRebuilt shape records t → IsOrdered records → length records ≤ most_entries → Rebuilt records t
rebuilt shape v _ _ IsRebuilt.Empty ordered few = empty_rebuilt shape v
rebuilt shape v _ _ (IsRebuilt.More records r t t' before inserted) ordered few =
    let l : length records ≤ most_entries = let e = length-append records (r ∷ []) in omega (arith, e, few) in
    more_rebuilt records r t t' (rebuilt shape v records t before (ordered_front 0 records r ordered) l) inserted ordered l

-- a kernel over this tree, in which nothing has happened
abbrev at_first : Table → List Record → Kernel
at_first t records = record { tree = t; next_entry = length records + 1; next_txn = 1; locks = []; sessions = []; dead = []; queue = []; flight = []; calls = 0; base = records; commits = []; ended = []; stopped = None }

alone : (u w : ℕ) → Chain (waits_of []) u w → ⊥
alone u w (Chain.Link h) = true≢false (sym h)
alone u w (Chain.Then v h rest) = true≢false (sym h)

at_first-sound : (t : Table) (records : List Record) → Rebuilt records t → IsOrdered records → length records ≤ most_entries → Bare (at_first t records)
at_first-sound t records tree ordered few = record {
  valid = tree.valid;
  ascending = tree.ascending;
  entry_numbers = tree.numbers;
  base = ordered;
  serial = tt;
  current = tree.current;
  locks = empty-sound;
  acyclic = λ u. alone u u;
  rows = λ row i. absurd i;
  names = λ row number i. absurd i;
  sessions = record { ascending = tt; numbers = distinct-empty; used = λ x i. absurd i; seen = λ x i. absurd i; searches = λ x i. absurd i };
  latch = λ x y i. absurd i;
  stages = λ x i. absurd i;
  in_space = λ x i. absurd i;
  rectangles = λ x i. absurd i;
  parts = λ x i. absurd i;
  objects = λ x pair i. absurd i;
  owned = λ txn e i m. absurd (true≢false (sym m ∙ unmarked txn e (free txn e i)));
  replays = λ x i. absurd i;
  active = λ txn e i m. absurd (true≢false (sym m ∙ unmarked txn e (free txn e i)));
  numbers = λ txn e later i. free txn e i;
  dead = record { once = distinct-empty; there = λ e i d. absurd (true≢false (sym d ∙ ap is_done (tree.committed e i).1)); back = λ n i. absurd i };
  queued = record { once = distinct-empty; there = λ x i. absurd i; back = λ n i. absurd i; calls_few = omega arith; begun = λ h. absurd (h refl); none = λ h. refl };
  counts = record {
    transactions = omega arith;
    endings = omega arith;
    operations = λ x i. absurd i;
    history = omega arith;
    replies = omega arith;
    entries = let s = tree.size in omega (arith, s, few);
    node_numbers = let n = tree.few in omega (arith, n, few);
    entry_numbers = omega (arith, few);
    txn_numbers = omega arith;
  };
}
  where
    free : (txn : ℕ) (e : Entry) → Among e (entries_of t) → (is_made_by txn e.marks.made ≡ false) × (is_ended_by txn e.marks.ended ≡ false) × (is_draft_of txn e.marks.draft ≡ false)
    free txn e i = let c = tree.committed e i in (ap (is_made_by txn) c.0, ap (is_ended_by txn) c.1, ap (is_draft_of txn) c.2)

    unmarked : (txn : ℕ) (e : Entry) → (is_made_by txn e.marks.made ≡ false) × (is_ended_by txn e.marks.ended ≡ false) × (is_draft_of txn e.marks.draft ≡ false) → is_marked txn e ≡ false
    unmarked txn e h = none (is_made_by txn e.marks.made) (is_ended_by txn e.marks.ended) (is_draft_of txn e.marks.draft) (is_done e.marks.ended) h.0 h.1 h.2
      where
        none : (m x f d : Bool) → m ≡ false → x ≡ false → f ≡ false → ((m || x || f) && not d) ≡ false
        none m x f d a b c = grind arith

pub opened-sound : (shape : Shape) (records : List Record) (k : Kernel) → IsShape shape → IsOrdered records → length records ≤ most_entries → IsOpened shape records k → Bare k
opened-sound shape records k v ordered few o = subst Bare (sym same) (at_first-sound k.tree records (rebuilt shape v records k.tree o.tree ordered few) ordered few)
  where
    same : k ≡ at_first k.tree records
    same = λ i. record {
      tree = k.tree;
      next_entry = o.next_entry i;
      next_txn = o.next_txn i;
      locks = o.locks i;
      sessions = o.sessions i;
      dead = o.dead i;
      queue = o.queue i;
      flight = o.flight i;
      calls = o.calls i;
      base = o.base i;
      commits = o.commits i;
      ended = o.ended i;
      stopped = o.stopped i;
    }
