-- Whose marks the entries of a sound kernel bear, and what a commit changes.
use Rattle.std.proofs.Common.{◌≡◌, ℕ, suc, ◌+◌, ◌≤◌, Bool, true, false, not, ◌&&◌, ◌||◌, cond, nat_eq, List, [], ◌∷◌, map, filter, length, Some, refl, sym, ap, ◌∙◌, subst, true≢false, arith}
use Rattle.std.specs.List.{sum_by}
use Rattle.std.specs.List.Sorted.{IsPermutation}
use Rattle.std.proofs.lemmas.Bool.Decides.{nat_tests}
use Rattle.std.proofs.lemmas.List.{length-map}
use Rattle.std.proofs.lemmas.List.Sorted.{sum_by-IsPermutation, Contains-permutation, IsPermutation-sym}
use Rattle.sp_rect.specs.declared.record.Record.{Record}
use Rattle.sp_rect.specs.Store.{Id, within, IsOrdered}
use Rattle.sp_plain.specs.declared.change.Change.{Change}
use Rattle.sp_plain.specs.Taking.{most_records, taken}
use Rattle.sp_locks.specs.declared.mode.Mode.TheVariants.{X}
use Rattle.sp_locks.specs.declared.row.Name.TheVariants.{Object}
use Rattle.sp_node.specs.declared.node.Entry.{Entry}
use Rattle.sp_node.specs.declared.marks.Made.{Made}
use Rattle.sp_node.specs.declared.marks.Made.TheVariants.{Committed, By as MadeBy}
use Rattle.sp_node.specs.Among.{Among}
use Rattle.sp_node.specs.Marks.{is_made_by, is_ended_by, is_draft_of, is_committed, is_done, is_marked, settled}
use Rattle.sp_txn.specs.Changes.{changes_of, is_drop}
use Rattle.sp_txn.specs.Visible.{is_live, is_visible, record_of, record_for, sorted, live, view}
use Rattle.sp_protection.specs.Apart.{HasOneEach}
use Rattle.sp_protection.proofs.Clashes.{clash, exclusive-against_exclusive}
use Rattle.sp_protection.proofs.Commits.{commit_shows_view}
use Rattle.sp_protection.proofs.Rearranging.{ordered_parts, run_ordered}
use Rattle.sp_protection.proofs.Runs.{sorted-ascends, within-sorted}
use Rattle.sp_model.specs.declared.session.Session.{Session}
use Rattle.sp_model.specs.State.{Kernel, entries_in, is_active, locks_of}
use Rattle.sp_model.proofs.Bare.{Bare}
use Rattle.sp_model.proofs.Counting.{length-sum}
use Rattle.sp_model.proofs.Endings.{run_all}
use Rattle.sp_model.proofs.Holding.{locks-compatible}
use Rattle.sp_durable.specs.Held.{AreChanges}
use Rattle.sp_durable.proofs.InOrder.{place_of, among_place, in_order, filtered_in_order, filtered_sum, among-filtered, filtered-among, is_of, of_id}
use Rattle.sp_durable.proofs.Merging.{LeadsTo, added, puts, by_ids, self_equal, equal_from, length-with_record}
use Rattle.sp_durable.proofs.Fates.{IsOwn, IsShuffled, fates, fates_lead, room_for}

-- the same changes in another order, and so those of one id
among-all : (d : Change) (cs ds : List Change) → IsPermutation cs ds → Among d ds → Among d cs
among-all d cs ds p i = let h = place_of d ds i in let c = Contains-permutation ds cs d (IsPermutation-sym cs ds p) (h.0, h.1, h.2) in among_place cs d c.0 c.1 c.2

pub shuffled : (id : ℕ) (cs ds : List Change) → IsPermutation cs ds → IsShuffled (of_id id cs) (of_id id ds)
shuffled id cs ds p = record {
  long = length-sum (of_id id ds) ∙ same (λ c. 1) ∙ sym (length-sum (of_id id cs));
  drops = same (λ c. cond (is_drop c) 1 0);
  from = λ d i. let a = among-filtered (is_of id) d ds i in filtered-among (is_of id) d cs (among-all d cs ds p a.0) a.1;
}
  where
    same : (f : Change → ℕ) → sum_by f (of_id id ds) ≡ sum_by f (of_id id cs)
    same f = filtered_sum f (is_of id) ds ∙ sum_by-IsPermutation (λ c. cond (is_of id c) (f c) 0) cs ds p ∙ sym (filtered_sum f (is_of id) cs)

length-sorted : (rs : List Record) → length (sorted rs) ≡ length rs
length-sorted [] = refl
length-sorted (r ∷ rs) = length-with_record r (sorted rs) ∙ ap suc (length-sorted rs)

-- the changes of a transaction lead from what is live to what it sees
pub changes_lead : (t : ℕ) (es : List Entry) (cs : List Change) → ((e : Entry) → Among e es → IsOwn t e) → HasOneEach (live es) → HasOneEach (view es t) → length es ≤ most_records → AreChanges es t cs
    → taken cs (live es) ≡ Some (view es t)
changes_lead t es cs own one_live one_seen few are =
    by_ids (view es t) (sorted-ascends (map (record_for t) (filter (is_visible t) es))) cs (live es) (sorted-ascends (map record_of (filter is_live es))) room leads
  where
    room : length (live es) + puts cs ≤ most_records
    room =
        let h = room_for t es own in
        let a = length-sorted (map record_of (filter is_live es)) in
        let b = length-map (filter is_live es) record_of in
        let c = sum_by-IsPermutation added (changes_of t es) cs are.exact in
        omega (arith, h, a, b, c, few)

    leads : (id : ℕ) → LeadsTo (of_id id cs) (within (Id id) (live es)) (within (Id id) (view es t))
    leads id =
        let a = within-sorted id (map record_of (filter is_live es)) in
        let b = within-sorted id (map (record_for t) (filter (is_visible t) es)) in
        rw (a, b)
        (fates_lead id (within (Id id) (map record_of (filter is_live es))) (within (Id id) (map (record_for t) (filter (is_visible t) es))) (of_id id (changes_of t es)) (of_id id cs) (fates t id es own)
        (subst (λ (xs : List Record). length xs ≤ 1) a (one_live id)) (subst (λ (xs : List Record). length xs ≤ 1) b (one_seen id))
        (shuffled id (changes_of t es) cs are.exact) (filtered_in_order (is_of id) cs (in_order cs are.ordered)))

module _ (k : Kernel) (sound : Bare k) where
  -- an entry bears the marks of one transaction alone
  pub one_marker : (t u : ℕ) (e : Entry) → Among e (entries_in k) → is_marked t e ≡ true → is_marked u e ≡ true → t ≡ u
  one_marker t u e i m n = go (nat_eq t u) refl
    where
      go : (b : Bool) → nat_eq t u ≡ b → t ≡ u
      go true h = equal_from t u h
      go false h =
          absurd
          (clash (locks_of k.sessions k.locks) t u (Object e.id) X X (locks-compatible k.next_txn (length k.commits) k.sessions k.locks sound.sessions sound.locks) (λ same. apart same h)
          exclusive-against_exclusive (sound.owned t e i m).object (sound.owned u e i n).object)
        where
          apart : u ≡ t → nat_eq t u ≡ false → ⊥
          apart same f = grind (arith, nat_tests)

  pub own_marks : (t : ℕ) (e : Entry) → Among e (entries_in k) → IsOwn t e
  own_marks t e i m c = go e.marks.made refl c
    where
      alive : (a b : Bool) → (a && not b) ≡ true → b ≡ false
      alive a b h = grind arith

      marks : (u : ℕ) (x f d : Bool) → d ≡ false → ((nat_eq u u || x || f) && not d) ≡ true
      marks u x f d h = grind (arith, nat_tests)

      dead : is_done e.marks.ended ≡ false
      dead = alive (is_made_by t e.marks.made || is_ended_by t e.marks.ended || is_draft_of t e.marks.draft) (is_done e.marks.ended) m

      go : (made : Made) → e.marks.made ≡ made → is_committed made ≡ false → is_made_by t made ≡ true
      go Committed h f = absurd (true≢false f)
      go (MadeBy u) h f =
          let other : is_marked u e ≡ true = subst (λ (z : Made). ((is_made_by u z || is_ended_by u e.marks.ended || is_draft_of u e.marks.draft) && not (is_done e.marks.ended)) ≡ true) (sym h) (marks u (is_ended_by u e.marks.ended) (is_draft_of u e.marks.draft) (is_done e.marks.ended) dead) in
          let same : t ≡ u = one_marker t u e i m other in
          subst (λ (n : ℕ). nat_eq u n ≡ true) (sym same) (self_equal u)

  pub live-ordered : IsOrdered (live (entries_in k))
  live-ordered = subst IsOrdered (sym sound.current) (run_all k.base k.commits sound.base)

  pub view-ordered : (x : Session) → Among x k.sessions → is_active x ≡ true → IsOrdered (view (entries_in k) x.txn.number)
  view-ordered x here active = subst IsOrdered (sound.replays x here active).same_view (run_ordered x.txn.ops (live (entries_in k)) live-ordered)

  -- what a transaction changes leaves what its commit does
  pub changes_settle : (x : Session) (cs : List Change) → Among x k.sessions → is_active x ≡ true → AreChanges (entries_in k) x.txn.number cs → taken cs (live (entries_in k)) ≡ Some (live (map (settled x.txn.number) (entries_in k)))
  changes_settle x cs here active are =
      changes_lead x.txn.number (entries_in k) cs (λ e i. own_marks x.txn.number e i) (ordered_parts (live (entries_in k)) live-ordered).1 (ordered_parts (view (entries_in k) x.txn.number) (view-ordered x here active)).1 sound.counts.entries are
      ∙ ap Some (sym (commit_shows_view x.txn.number (entries_in k)))
