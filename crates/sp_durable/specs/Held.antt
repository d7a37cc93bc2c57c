-- The changes that transactions have made and that the disk is to keep.
use Rattle.std.specs.Prelude.{◌≡◌, ℕ, List, [], ◌∷◌, Some}
use Rattle.std.specs.List.Sorted.{IsPermutation, IsSortedBy}
use Rattle.sp_plain.specs.declared.change.Change.{Change}
use Rattle.sp_node.specs.declared.node.Entry.{Entry}
use Rattle.sp_txn.specs.Changes.{changes_of, precedes}
use Rattle.sp_model.specs.declared.session.Session.{Session}
use Rattle.sp_model.specs.State.{Kernel, entries_in, session_at}

-- these are the changes that the commit of the transaction makes, in their order
pub record AreChanges (es : List Entry) (txn : ℕ) (changes : List Change) : Type 0 where
  pub exact : IsPermutation (changes_of txn es) changes
  pub ordered : IsSortedBy precedes changes

-- the session of that number has a transaction with these changes
pub record HasChanges (sessions : List Session) (es : List Entry) (s : ℕ) (changes : List Change) : Type 0 where
  pub session : Session
  pub at : session_at s sessions ≡ Some session
  pub are : AreChanges es session.txn.number changes

-- the sessions, in order, have transactions with these changes
abbrev pub AreHeld : Kernel → List ℕ → List (List Change) → Type 0
AreHeld k [] [] = Unit {0}
AreHeld k [] (changes ∷ commits) = ⊥
AreHeld k (s ∷ numbers) [] = ⊥
AreHeld k (s ∷ numbers) (changes ∷ commits) = HasChanges k.sessions (entries_in k) s changes × AreHeld k numbers commits
