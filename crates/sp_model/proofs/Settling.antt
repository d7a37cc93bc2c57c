-- What the end of a transaction leaves of marks.
use Rattle.std.proofs.Common.{◌≡◌, ◌≢◌, ℕ, Bool, true, false, not, ◌&&◌, ◌||◌, nat_eq, refl, sym, ap, ◌∙◌, true≢false, arith}
use Rattle.std.proofs.lemmas.Bool.Decides.{nat_tests}
use Rattle.sp_rect.specs.declared.record.Record.{Record}
use Rattle.sp_node.specs.declared.marks.Made.{Made}
use Rattle.sp_node.specs.declared.marks.Ended.{Ended}
use Rattle.sp_node.specs.declared.marks.Draft.{Draft}
use Rattle.sp_node.specs.declared.node.Entry.{Entry}
use Rattle.sp_node.specs.Change.{Keeps}
use Rattle.sp_node.specs.Marks.{is_committed, is_made_by, is_done, is_ended_by, is_draft_of, is_marked, made_settled, ended_settled, ended_undone, draft_left, settled, undone}
use Rattle.sp_txn.specs.Visible.{is_visible}
use Rattle.sp_protection.specs.Effects.{fresh}
use Rattle.sp_protection.proofs.Commits.{marks_parts, settled-marked}
use Rattle.sp_model.proofs.Leaving.{IsFree}

pub undone-keeps : (t : ℕ) → Keeps (undone t)
undone-keeps t = record { number = λ e. refl; id = λ e. refl; rect = λ e. refl }

pub settled-keeps : (t : ℕ) → Keeps (settled t)
settled-keeps t = record { number = λ e. refl; id = λ e. refl; rect = λ e. refl }

-- who is dead stays dead
pub undone-done : (t : ℕ) (e : Entry) → is_done e.marks.ended ≡ true → is_done (undone t e).marks.ended ≡ true
undone-done t e h = go e.marks.made e.marks.ended h
  where
    go : (m : Made) (n : Ended) → is_done n ≡ true → is_done (ended_undone t m n) ≡ true
    go m n k = grind (arith, nat_tests)

pub settled-done : (t : ℕ) (e : Entry) → is_done e.marks.ended ≡ true → is_done (settled t e).marks.ended ≡ true
settled-done t e h = go e.marks.ended h
  where
    go : (n : Ended) → is_done n ≡ true → is_done (ended_settled t n) ≡ true
    go n k = grind (arith, nat_tests)

left-free : (n t : ℕ) (d : Draft) → is_draft_of t d ≡ false → is_draft_of t (draft_left n d) ≡ false
left-free n t d k = grind (arith, nat_tests)

-- no transaction gets a mark
pub undone-free : (n t : ℕ) (e : Entry) → IsFree t e → IsFree t (undone n e)
undone-free n t e h = (h.0, ended e.marks.made e.marks.ended h.1, left-free n t e.marks.draft h.2)
  where
    ended : (m : Made) (d : Ended) → is_ended_by t d ≡ false → is_ended_by t (ended_undone n m d) ≡ false
    ended m d k = grind (arith, nat_tests)

pub settled-free : (n t : ℕ) (e : Entry) → IsFree t e → IsFree t (settled n e)
settled-free n t e h = (made e.marks.made h.0, ended e.marks.ended h.1, left-free n t e.marks.draft h.2)
  where
    made : (m : Made) → is_made_by t m ≡ false → is_made_by t (made_settled n m) ≡ false
    made m k = grind (arith, nat_tests)

    ended : (d : Ended) → is_ended_by t d ≡ false → is_ended_by t (ended_settled n d) ≡ false
    ended d k = grind (arith, nat_tests)

undone-marked : (t n : ℕ) (e : Entry) → is_marked t (undone n e) ≡ true → is_marked t e ≡ true
undone-marked t n e h =
    marks_parts (is_made_by t e.marks.made) (is_ended_by t e.marks.ended) (is_draft_of t e.marks.draft) (is_done e.marks.ended)
    (is_made_by t (undone n e).marks.made) (is_ended_by t (undone n e).marks.ended) (is_draft_of t (undone n e).marks.draft) (is_done (undone n e).marks.ended) h
    (λ k. k) (ended e.marks.made e.marks.ended) (draft e.marks.draft) (done e.marks.made e.marks.ended)
  where
    ended : (m : Made) (d : Ended) → is_ended_by t (ended_undone n m d) ≡ true → is_ended_by t d ≡ true
    ended m d k = grind (arith, nat_tests)

    draft : (d : Draft) → is_draft_of t (draft_left n d) ≡ true → is_draft_of t d ≡ true
    draft d k = grind (arith, nat_tests)

    done : (m : Made) (d : Ended) → is_done (ended_undone n m d) ≡ false → is_done d ≡ false
    done m d k = grind (arith, nat_tests)

left-none : (n : ℕ) (d : Draft) → is_draft_of n (draft_left n d) ≡ false
left-none n d = grind (arith, nat_tests)

-- none is left of the transaction that ends
pub undone-unmarked : (n : ℕ) (e : Entry) → is_marked n (undone n e) ≡ false
undone-unmarked n e = go (is_draft_of n (draft_left n e.marks.draft)) (left-none n e.marks.draft) e.marks.made e.marks.ended
  where
    go : (f : Bool) → f ≡ false → (m : Made) (d : Ended) → ((is_made_by n m || is_ended_by n (ended_undone n m d) || f) && not (is_done (ended_undone n m d))) ≡ false
    go f h m d = grind (arith, nat_tests)

pub settled-unmarked : (n : ℕ) (e : Entry) → is_marked n (settled n e) ≡ false
settled-unmarked n e = go (is_draft_of n (draft_left n e.marks.draft)) (left-none n e.marks.draft) (is_made_by n (made_settled n e.marks.made)) (made e.marks.made) (is_ended_by n (ended_settled n e.marks.ended)) (ended e.marks.ended) (is_done (ended_settled n e.marks.ended))
  where
    made : (m : Made) → is_made_by n (made_settled n m) ≡ false
    made m = grind (arith, nat_tests)

    ended : (d : Ended) → is_ended_by n (ended_settled n d) ≡ false
    ended d = grind (arith, nat_tests)

    go : (f : Bool) → f ≡ false → (m : Bool) → m ≡ false → (x : Bool) → x ≡ false → (d : Bool) → ((m || x || f) && not d) ≡ false
    go f h m k x l d = grind arith

other_than : (n t : ℕ) (e : Entry) → is_marked n e ≡ false → is_marked t e ≡ true → t ≢ n
other_than n t e none some same = true≢false (sym some ∙ ap (λ u. is_marked u e) same ∙ none)

pub undone-others : (n t : ℕ) (e : Entry) → is_marked t (undone n e) ≡ true → (is_marked t e ≡ true) × (t ≢ n)
undone-others n t e h = (undone-marked t n e h, other_than n t (undone n e) (undone-unmarked n e) h)

pub settled-others : (n t : ℕ) (e : Entry) → is_marked t (settled n e) ≡ true → (is_marked t e ≡ true) × (t ≢ n)
settled-others n t e h = (settled-marked t n e h, other_than n t (settled n e) (settled-unmarked n e) h)

-- a rollback changes nothing for the eyes of another transaction
pub undone-seen : (n t : ℕ) (e : Entry) → t ≢ n → is_visible t (undone n e) ≡ is_visible t e
undone-seen n t e other = go e.marks.made e.marks.ended
  where
    go : (m : Made) (d : Ended) → ((is_committed m || is_made_by t m) && not (is_ended_by t (ended_undone n m d) || is_done (ended_undone n m d))) ≡ ((is_committed m || is_made_by t m) && not (is_ended_by t d || is_done d))
    go m d = grind (arith, nat_tests)

-- and so does a commit, where it has no mark
pub settled-seen : (n t : ℕ) (e : Entry) → is_marked n e ≡ false → is_visible t (settled n e) ≡ is_visible t e
settled-seen n t e none = go e.marks.made e.marks.ended (is_draft_of n e.marks.draft) none
  where
    go : (m : Made) (d : Ended) (f : Bool) → ((is_made_by n m || is_ended_by n d || f) && not (is_done d)) ≡ false
        → ((is_committed (made_settled n m) || is_made_by t (made_settled n m)) && not (is_ended_by t (ended_settled n d) || is_done (ended_settled n d))) ≡ ((is_committed m || is_made_by t m) && not (is_ended_by t d || is_done d))
    go m d f h = grind (arith, nat_tests)

-- the new entry of another transaction stays as it is
pub undone-new : (n t : ℕ) (r : Record) (number : ℕ) → t ≢ n → undone n (fresh t number r) ≡ fresh t number r
undone-new n t r number other = let k : nat_eq t n ≡ false = grind (arith, nat_tests) in rw k refl

pub settled-new : (n t : ℕ) (r : Record) (number : ℕ) → t ≢ n → settled n (fresh t number r) ≡ fresh t number r
settled-new n t r number other = let k : nat_eq t n ≡ false = grind (arith, nat_tests) in rw k refl
