-- Which sessions wait for nothing, and what they may have.
use Rattle.std.proofs.Common.{◌≡◌, ℕ, Bool, true, false, ◌&&◌, List, Option, None, Some, nat_eq, refl, sym, ap, ◌∙◌, subst, true≢false, arith}
use Rattle.sp_locks.specs.declared.row.Row.{Row}
use Rattle.sp_locks.specs.declared.row.Scope.TheVariants.{ShortLocks}
use Rattle.sp_locks.specs.declared.row.Duration.{Duration}
use Rattle.sp_locks.specs.declared.row.Duration.TheVariants.{Short}
use Rattle.sp_locks.specs.Rows.{is_short, is_held_by, same_duration, waiting_in}
use Rattle.sp_locks.specs.Table.{released}
use Rattle.sp_locks.proofs.Keeping.{found-waits, none-waits, released-waits}
use Rattle.sp_node.specs.Among.{Among}
use Rattle.sp_model.specs.declared.session.Session.{Session}
use Rattle.sp_model.specs.declared.session.Stage.{Stage}
use Rattle.sp_model.specs.State.{at_stage, staged}
use Rattle.sp_model.specs.Soundness.{AreAscending, MayHave, HasOwner, RowsOwned}
use Rattle.sp_model.proofs.Sessions.{number-tell, number-same, number-differ, changed-among, others-among, one-session}
use Rattle.sp_model.proofs.Holding.{in-among, among-in, to_held_by}
use Rattle.sp_model.proofs.Released.{of_released}

-- the rows of a session fit its stage
pub may-have : (xs : List Session) (rows : List Row) → AreAscending xs → RowsOwned xs rows → (x : Session) → Among x xs → (row : Row) → Among row rows → row.session ≡ x.txn.session → MayHave x.stage row
may-have xs rows ascending owned x here row i e =
    let o = owned row i in
    subst (λ (z : Session). MayHave z.stage row) (one-session xs ascending o.owner x o.among here (o.is_owner ∙ e)) o.may

-- none of its rows waits
pub awake : (s : ℕ) (rows : List Row) → ((row : Row) → Among row rows → row.session ≡ s → row.waiting ≡ false) → waiting_in s rows ≡ None
awake s rows none = go (waiting_in s rows) refl
  where
    go : (o : Option Row) → waiting_in s rows ≡ o → o ≡ None
    go None k = refl
    go (Some row) k =
        let f = found-waits s rows row k in
        absurd (true≢false (sym (first row.waiting (nat_eq row.session s) f.1) ∙ none row (in-among row rows f.0) (number-same row.session s (second row.waiting (nat_eq row.session s) f.1))))
      where
        first : (a b : Bool) → (a && b) ≡ true → a ≡ true
        first a b h = grind arith

        second : (a b : Bool) → (a && b) ≡ true → b ≡ true
        second a b h = grind arith

pub of_awake : (s : ℕ) (rows : List Row) → waiting_in s rows ≡ None → (row : Row) → Among row rows → row.session ≡ s → row.waiting ≡ false
of_awake s rows none row i e = go row.waiting refl
  where
    go : (b : Bool) → row.waiting ≡ b → b ≡ false
    go false k = refl
    go true k = absurd (true≢false (sym (both row.waiting (nat_eq row.session s) k (number-tell row.session s e)) ∙ none-waits s rows row none (among-in row rows i)))
      where
        both : (a b : Bool) → a ≡ true → b ≡ true → (a && b) ≡ true
        both a b h k = grind arith

-- a release of short locks wakes nobody's wait anew, and leaves the session locks to the end alone
pub released-awake : (s : ℕ) (rows : List Row) → waiting_in s rows ≡ None → waiting_in s (released ShortLocks s rows) ≡ None
released-awake s rows none = awake s (released ShortLocks s rows) held
  where
    held : (row : Row) → Among row (released ShortLocks s rows) → row.session ≡ s → row.waiting ≡ false
    held row i e = go row.waiting refl
      where
        go : (b : Bool) → row.waiting ≡ b → b ≡ false
        go false k = refl
        go true k = absurd (true≢false (sym k ∙ of_awake s rows none row (in-among row rows (released-waits ShortLocks s rows row (among-in row (released ShortLocks s rows) i) k)) e))

pub released-long : (s : ℕ) (rows : List Row) → waiting_in s rows ≡ None → (row : Row) → Among row (released ShortLocks s rows) → row.session ≡ s → (row.waiting ≡ false) × (is_short row ≡ false)
released-long s rows none row i e =
    let c = of_released ShortLocks s rows row (among-in row (released ShortLocks s rows) i) in
    let w = of_awake s rows none c.0.row (in-among c.0.row rows c.0.stands) (c.0.session ∙ e) in
    (of_awake s (released ShortLocks s rows) (released-awake s rows none) row i e, ap (λ (d : Duration). same_duration d Short) (sym c.0.duration) ∙ second (is_held_by s c.0.row) (is_short c.0.row) (to_held_by s c.0.row w (c.0.session ∙ e)) c.1)
  where
    second : (a b : Bool) → a ≡ true → (a && b) ≡ false → b ≡ false
    second a b h k = grind arith

-- the owners of the rows, where one session is at another stage that may have its rows
pub owned-staged : (x : Session) (stage : Stage) (xs : List Session) (rows : List Row) → RowsOwned xs rows → ((row : Row) → Among row rows → row.session ≡ x.txn.session → MayHave stage row) → RowsOwned (staged x.txn.session stage xs) rows
owned-staged x stage xs rows owned may row i = go (nat_eq o.owner.txn.session x.txn.session) refl
  where
    o : HasOwner xs row
    o = owned row i

    go : (b : Bool) → nat_eq o.owner.txn.session x.txn.session ≡ b → HasOwner (staged x.txn.session stage xs) row
    go true k =
        let e = number-same o.owner.txn.session x.txn.session k in
        record { owner = at_stage stage o.owner; among = changed-among x.txn.session (at_stage stage) xs o.owner o.among e; is_owner = o.is_owner; may = may row i (sym o.is_owner ∙ e) }
    go false k = record { owner = o.owner; among = others-among x.txn.session (at_stage stage) xs o.owner o.among (number-differ o.owner.txn.session x.txn.session k); is_owner = o.is_owner; may = o.may }
