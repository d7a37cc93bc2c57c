-- Marks that are noted, through changes of an entry's marks.
use Rattle.std.proofs.Common.{◌≡◌, ℕ, Bool, true, false, not, ◌&&◌, ◌||◌, cond, List, [], ◌∷◌, refl, sym, ap, ◌∙◌, arith, inl, inr, ◌⊎◌}
use Rattle.std.specs.Prelude.{nat_eq}
use Rattle.std.specs.List.{AllByRecursion}
use Rattle.std.proofs.lemmas.Bool.Decides.{nat_tests}
use Rattle.sp_node.specs.declared.marks.Made.{Made}
use Rattle.sp_node.specs.declared.marks.Made.TheVariants.{Committed, By as MadeBy}
use Rattle.sp_node.specs.declared.marks.Ended.{Ended}
use Rattle.sp_node.specs.declared.marks.Ended.TheVariants.{Nobody, By as EndedBy, Done}
use Rattle.sp_node.specs.declared.marks.Draft.{Draft}
use Rattle.sp_node.specs.declared.marks.Draft.TheVariants.{None as NoDraft, Of}
use Rattle.sp_node.specs.declared.node.Entry.{Entry}
use Rattle.sp_node.specs.declared.node.Node.{Node}
use Rattle.sp_node.specs.declared.node.Change.{Change}
use Rattle.sp_node.specs.declared.node.Change.TheVariants.{Mark, Settle, Undo}
use Rattle.sp_node.specs.Change.{at_number, nodes_with}
use Rattle.sp_node.specs.First.{changed, IsChangeNoted}
use Rattle.sp_node.specs.Index.{AreAllNoted, IsClear}
use Rattle.sp_node.specs.Known.{is_known, IsNoted}
use Rattle.sp_node.specs.Look.{look, entries_in}
use Rattle.sp_node.specs.Marks.{is_made_by, is_ended_by, is_draft_of, is_done, is_marked, bears, made_settled, ended_settled, ended_undone, draft_left, settled, undone}
use Rattle.sp_node.proofs.Lists.{all_imply, all_both}
use Rattle.sp_node.proofs.Changed.{all_with}

equal_from : (j k : ℕ) → nat_eq j k ≡ true → j ≡ k
equal_from j k e = grind (arith, nat_tests)

either : (a b c : Bool) → (a || b || c) ≡ true → (a ≡ true) ⊎ ((b ≡ true) ⊎ (c ≡ true))
either true b c h = inl refl
either false true c h = inr (inl refl)
either false false c h = inr (inr h)

one_of : (a b c : Bool) → (a ≡ true) ⊎ ((b ≡ true) ⊎ (c ≡ true)) → (a || b || c) ≡ true
one_of true b c h = refl
one_of false true c h = refl
one_of false false c (inl e) = cc
one_of false false c (inr (inl e)) = cc
one_of false false c (inr (inr e)) = e

both_of : (a b : Bool) → (a && b) ≡ true → (a ≡ true) × (b ≡ true)
both_of true true h = (refl, refl)
both_of true false h = cc
both_of false b h = cc

not_dead : (d d' : Bool) → (d ≡ true → d' ≡ true) → not d' ≡ true → not d ≡ true
not_dead true d' f h = let e : d' ≡ true = f refl in let c : not true ≡ true = ap not (sym e) ∙ h in c
not_dead false d' f h = refl

-- marks that name fewer, on what is dead where it was
fewer : (a b c d a' b' c' d' : Bool) → (a' ≡ true → a ≡ true) → (b' ≡ true → b ≡ true) → (c' ≡ true → c ≡ true) → (d ≡ true → d' ≡ true) → ((a' || b' || c') && not d') ≡ true → ((a || b || c) && not d) ≡ true
fewer a b c d a' b' c' d' f g h dead is =
    let parts = both_of (a' || b' || c') (not d') is in
    let some = one_of a b c (elim (either a' b' c' parts.0) [ inl e ↦ inl (f e) | inr (inl e) ↦ inr (inl (g e)) | inr (inr e) ↦ inr (inr (h e)) ]) in
    ap (λ (x : Bool). x && not d) some ∙ not_dead d d' dead parts.1

module _ (s t : ℕ) where
  made_before : (m : Made) → is_made_by t (made_settled s m) ≡ true → is_made_by t m ≡ true
  made_before Committed h = h
  made_before (MadeBy a) h = by_test (nat_eq a s) h
    where
      by_test : (b : Bool) → is_made_by t (cond b Committed (MadeBy a)) ≡ true → nat_eq a t ≡ true
      by_test true h = cc
      by_test false h = h

  ended_before : (e : Ended) → is_ended_by t (ended_settled s e) ≡ true → is_ended_by t e ≡ true
  ended_before Nobody h = h
  ended_before (EndedBy a) h = by_test (nat_eq a s) h
    where
      by_test : (b : Bool) → is_ended_by t (cond b Done (EndedBy a)) ≡ true → nat_eq a t ≡ true
      by_test true h = cc
      by_test false h = h
  ended_before Done h = h

  draft_before : (d : Draft) → is_draft_of t (draft_left s d) ≡ true → is_draft_of t d ≡ true
  draft_before NoDraft h = h
  draft_before (Of a v) h = by_test (nat_eq a s) h
    where
      by_test : (b : Bool) → is_draft_of t (cond b NoDraft (Of a v)) ≡ true → nat_eq a t ≡ true
      by_test true h = cc
      by_test false h = h

  ended_open : (m : Made) (e : Ended) → is_ended_by t (ended_undone s m e) ≡ true → is_ended_by t e ≡ true
  ended_open m e h = by_test (is_made_by s m) (is_ended_by s e) h
    where
      by_test : (a b : Bool) → is_ended_by t (cond a Done (cond b Nobody e)) ≡ true → is_ended_by t e ≡ true
      by_test true b h = cc
      by_test false true h = cc
      by_test false false h = h

done_settled : (s : ℕ) (e : Ended) → is_done e ≡ true → is_done (ended_settled s e) ≡ true
done_settled s Nobody h = cc
done_settled s (EndedBy a) h = cc
done_settled s Done h = refl

done_undone : (s : ℕ) (m : Made) (e : Ended) → is_done e ≡ true → is_done (ended_undone s m e) ≡ true
done_undone s m Nobody h = cc
done_undone s m (EndedBy a) h = cc
done_undone s m Done h = by_test (is_made_by s m)
  where
    by_test : (b : Bool) → is_done (cond b Done Done) ≡ true
    by_test true = refl
    by_test false = refl

-- what a commit and a rollback leave names no new transaction
settled_bears : (s t : ℕ) (e : Entry) → is_marked t (settled s e) ≡ true → is_marked t e ≡ true
settled_bears s t e h = fewer (is_made_by t e.marks.made) (is_ended_by t e.marks.ended) (is_draft_of t e.marks.draft) (is_done e.marks.ended) _ _ _ _ (made_before s t e.marks.made) (ended_before s t e.marks.ended) (draft_before s t e.marks.draft) (done_settled s e.marks.ended) h

undone_bears : (s t : ℕ) (e : Entry) → is_marked t (undone s e) ≡ true → is_marked t e ≡ true
undone_bears s t e h = fewer (is_made_by t e.marks.made) (is_ended_by t e.marks.ended) (is_draft_of t e.marks.draft) (is_done e.marks.ended) _ _ _ _ (λ x. x) (ended_open s t e.marks.made e.marks.ended) (draft_before s t e.marks.draft) (done_undone s e.marks.made e.marks.ended) h

module _ (s : ℕ) where
  made_gone : (m : Made) → is_made_by s (made_settled s m) ≡ false
  made_gone Committed = refl
  made_gone (MadeBy a) = by_test (nat_eq a s) refl
    where
      by_test : (b : Bool) → nat_eq a s ≡ b → is_made_by s (cond b Committed (MadeBy a)) ≡ false
      by_test true e = refl
      by_test false e = e

  ended_gone : (e : Ended) → is_ended_by s (ended_settled s e) ≡ false
  ended_gone Nobody = refl
  ended_gone (EndedBy a) = by_test (nat_eq a s) refl
    where
      by_test : (b : Bool) → nat_eq a s ≡ b → is_ended_by s (cond b Done (EndedBy a)) ≡ false
      by_test true e = refl
      by_test false e = e
  ended_gone Done = refl

  opened_gone : (e : Ended) → is_ended_by s (cond (is_ended_by s e) Nobody e) ≡ false
  opened_gone Nobody = refl
  opened_gone (EndedBy a) = by_test (nat_eq a s) refl
    where
      by_test : (b : Bool) → nat_eq a s ≡ b → is_ended_by s (cond b Nobody (EndedBy a)) ≡ false
      by_test true e = refl
      by_test false e = e
  opened_gone Done = refl

  draft_gone : (d : Draft) → is_draft_of s (draft_left s d) ≡ false
  draft_gone NoDraft = refl
  draft_gone (Of a v) = by_test (nat_eq a s) refl
    where
      by_test : (b : Bool) → nat_eq a s ≡ b → is_draft_of s (cond b NoDraft (Of a v)) ≡ false
      by_test true e = refl
      by_test false e = e

  -- neither leaves a mark of the transaction itself
  pub settled_clear : (e : Entry) → is_marked s (settled s e) ≡ false
  settled_clear e = λ i. (made_gone e.marks.made i || ended_gone e.marks.ended i || draft_gone e.marks.draft i) && not (is_done (ended_settled s e.marks.ended))

  pub undone_clear : (e : Entry) → is_marked s (undone s e) ≡ false
  undone_clear e = by_test (is_made_by s e.marks.made)
    where
      after : Bool → Ended
      after b = cond b Done (cond (is_ended_by s e.marks.ended) Nobody e.marks.ended)

      by_test : (b : Bool) → ((b || is_ended_by s (cond b Done (cond (is_ended_by s e.marks.ended) Nobody e.marks.ended)) || is_draft_of s (draft_left s e.marks.draft)) && not (is_done (cond b Done (cond (is_ended_by s e.marks.ended) Nobody e.marks.ended)))) ≡ false
      by_test true = refl
      by_test false = λ i. (opened_gone e.marks.ended i || draft_gone e.marks.draft i) && not (is_done (cond (is_ended_by s e.marks.ended) Nobody e.marks.ended))

module _ (noted : List (ℕ × ℕ)) (q : ℕ) where
  change_noted : (c : Change) (e : Entry) → IsChangeNoted noted q c → IsNoted noted e.number e.marks → nat_eq q e.number ≡ true → IsNoted noted e.number (changed c e).marks
  change_noted (Mark marks) e new h k = λ t b. ap (is_known noted t) (sym (equal_from q e.number k)) ∙ new t b
  change_noted (Settle s) e new h k = λ t b. h t (settled_bears s t e b)
  change_noted (Undo s) e new h k = λ t b. h t (undone_bears s t e b)

  -- marks stay noted as an entry is changed
  pub noted_with : (c : Change) (nodes : List (ℕ × Node)) → IsChangeNoted noted q c → AreAllNoted noted nodes → AreAllNoted noted (nodes_with (at_number q (changed c)) nodes)
  noted_with c nodes new all = all_with (at_number q (changed c)) (λ e. IsNoted noted e.number e.marks) (λ e. IsNoted noted e.number e.marks) (λ e h. by_test c e h (nat_eq q e.number) refl new) nodes all
    where
      by_test : (c : Change) (e : Entry) → IsNoted noted e.number e.marks → (b : Bool) → nat_eq q e.number ≡ b → IsChangeNoted noted q c → IsNoted noted (cond b (changed c e) e).number (cond b (changed c e) e).marks
      by_test (Mark marks) e h true k new = change_noted (Mark marks) e new h k
      by_test (Settle s) e h true k new = change_noted (Settle s) e new h k
      by_test (Undo s) e h true k new = change_noted (Undo s) e new h k
      by_test c e h false k new = h

every : (es : List Entry) → AllByRecursion (λ (e : Entry). Unit {0}) es
every [] = tt
every (e ∷ es) = (tt, every es)

-- an entry whose change leaves no mark of the transaction is clear
module _ (s q : ℕ) (change : Entry → Entry) (keeps : (e : Entry) → (change e).number ≡ e.number) (clear : (e : Entry) → is_marked s (change e) ≡ false) where
  pub clear_with : (nodes : List (ℕ × Node)) → IsClear (nodes_with (at_number q change) nodes) s q
  clear_with nodes = all_with (at_number q change) (λ e. Unit {0}) (λ e. nat_eq q e.number ≡ true → is_marked s e ≡ false) (λ e u. by_test e (nat_eq q e.number) refl) nodes (λ k. every (entries_in (look nodes k)))
    where
      by_test : (e : Entry) (b : Bool) → nat_eq q e.number ≡ b → nat_eq q (cond b (change e) e).number ≡ true → is_marked s (cond b (change e) e) ≡ false
      by_test e true k h = clear e
      by_test e false k h = cc

-- a pair of a transaction and an entry that is clear goes out of the index
pub noted_without : (noted noted' : List (ℕ × ℕ)) (nodes : List (ℕ × Node)) (txn q : ℕ) → ((t n : ℕ) → is_known noted' t n ≡ cond (nat_eq t txn && nat_eq n q) false (is_known noted t n)) → IsClear nodes txn q → AreAllNoted noted nodes → AreAllNoted noted' nodes
noted_without noted noted' nodes txn q gone clear all k = all_imply (λ e h. still e h.0 h.1) (entries_in (look nodes k)) (all_both (λ e. IsNoted noted e.number e.marks) (λ e. nat_eq q e.number ≡ true → is_marked txn e ≡ false) (entries_in (look nodes k)) (all k) (clear k))
  where
    turned : (n m : ℕ) → nat_eq n m ≡ true → nat_eq m n ≡ true
    turned n m e = grind (arith, nat_tests)

    still : (e : Entry) → IsNoted noted e.number e.marks → (nat_eq q e.number ≡ true → is_marked txn e ≡ false) → IsNoted noted' e.number e.marks
    still e h none t b = gone t e.number ∙ by_test (nat_eq t txn && nat_eq e.number q) refl
      where
        by_test : (x : Bool) → (nat_eq t txn && nat_eq e.number q) ≡ x → cond x false (is_known noted t e.number) ≡ true
        by_test true is =
            let parts = both_of (nat_eq t txn) (nat_eq e.number q) is in
            let no : is_marked txn e ≡ false = none (turned e.number q parts.1) in
            let yes : is_marked txn e ≡ true = ap (λ (n : ℕ). bears n e.marks) (sym (equal_from t txn parts.0)) ∙ b in
            cc
        by_test false is = h t b
