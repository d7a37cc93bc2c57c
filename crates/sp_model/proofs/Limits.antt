-- Counts stay within their limits, as a session changes its stage.
use Rattle.std.proofs.Common.{◌≡◌, ℕ, ◌+◌, ◌≤◌, Bool, true, cond, List, filter, length, sym, ap, ◌∙◌, subst, arith}
use Rattle.std.specs.List.{sum_by}
use Rattle.sp_locks.specs.declared.row.Row.{Row}
use Rattle.sp_node.specs.Among.{Among}
use Rattle.sp_model.specs.declared.session.Session.{Session}
use Rattle.sp_model.specs.declared.session.Stage.{Stage}
use Rattle.sp_model.specs.State.{Kernel, is_active, is_active_stage, at_stage, staged}
use Rattle.sp_model.specs.Refusals.{under_way, open_transactions, open_operations, kept_operations, most_transactions, most_endings, most_operations, most_history}
use Rattle.sp_model.specs.Stepped.{records_told, most_records_told}
use Rattle.sp_model.specs.Soundness.{AreAscending, WithinCounts}
use Rattle.sp_model.proofs.Sessions.{Fate, Changes, Stays, of_change, one-session}
use Rattle.sp_model.proofs.Counting.{share, length-sum, change-sum}
use Rattle.sp_model.proofs.Restaging.{with_both}

-- the share of an active session
pub share-active : (f : Session → ℕ) (x : Session) → is_active x ≡ true → share f x ≡ f x
share-active f x a = ap (λ (b : Bool). cond b (f x) 0) a

pub staged-sum : (f : Session → ℕ) (x : Session) (stage : Stage) (xs : List Session) → AreAscending xs → Among x xs → is_active x ≡ true → is_active_stage stage ≡ true
    → sum_by f (filter is_active (staged x.txn.session stage xs)) + f x ≡ sum_by f (filter is_active xs) + f (at_stage stage x)
staged-sum f x stage xs ascending here a b =
    ap (λ n. sum_by f (filter is_active (staged x.txn.session stage xs)) + n) (sym (share-active f x a))
    ∙ change-sum f (at_stage stage) xs ascending x here
    ∙ ap (λ n. sum_by f (filter is_active xs) + n) (share-active f (at_stage stage x) b)

open-sum : (xs : List Session) → open_transactions xs ≡ sum_by (λ x. 1) (filter is_active xs)
open-sum xs = length-sum (filter is_active xs)

pub staged-open : (x : Session) (stage : Stage) (xs : List Session) → AreAscending xs → Among x xs → is_active x ≡ true → is_active_stage stage ≡ true → open_transactions (staged x.txn.session stage xs) ≡ open_transactions xs
staged-open x stage xs ascending here a b =
    let p = open-sum (staged x.txn.session stage xs) in
    let q = open-sum xs in
    let r = staged-sum (λ (y : Session). 1) x stage xs ascending here a b in
    omega (arith, p, q, r)

-- where there is room for what the stage has under way
pub counts-staged : (k : Kernel) (x : Session) (stage : Stage) (rows : List Row) → AreAscending k.sessions → WithinCounts k → Among x k.sessions → is_active x ≡ true → is_active_stage stage ≡ true
    → length x.txn.ops + under_way stage ≤ most_operations
    → kept_operations k.commits + open_operations k.sessions + under_way stage ≤ most_history + under_way x.stage
    → WithinCounts (with_both (staged x.txn.session stage k.sessions) rows k)
counts-staged k x stage rows ascending counts here a b room history = record {
  transactions = subst (λ n. n ≤ most_transactions) (sym same) counts.transactions;
  endings = subst (λ n. length k.commits + length k.ended + n ≤ most_endings) (sym same) counts.endings;
  operations = λ y i c. let o = of_change x.txn.session (at_stage stage) k.sessions y i in operations o.old y o.stood o.how c;
  history = less (open_operations (staged x.txn.session stage k.sessions)) (open_operations k.sessions) (length x.txn.ops) (under_way x.stage) (under_way stage) (kept_operations k.commits) most_history
      (staged-sum (λ (y : Session). length y.txn.ops + under_way y.stage) x stage k.sessions ascending here a b) history;
  replies = subst (λ n. sum_by (λ c. records_told c.ops) k.commits + n ≤ most_records_told) (sym told) counts.replies;
  entries = counts.entries;
  node_numbers = counts.node_numbers;
  entry_numbers = counts.entry_numbers;
  txn_numbers = counts.txn_numbers;
}
  where
    same : open_transactions (staged x.txn.session stage k.sessions) ≡ open_transactions k.sessions
    same = staged-open x stage k.sessions ascending here a b

    told : sum_by (λ (y : Session). records_told y.txn.ops) (filter is_active (staged x.txn.session stage k.sessions)) ≡ sum_by (λ (y : Session). records_told y.txn.ops) (filter is_active k.sessions)
    told = equal _ _ (records_told x.txn.ops) (staged-sum (λ (y : Session). records_told y.txn.ops) x stage k.sessions ascending here a b)
      where
        equal : (m n c : ℕ) → m + c ≡ n + c → m ≡ n
        equal m n c e = omega arith

    less : (new old ops was is kept most : ℕ) → new + (ops + was) ≡ old + (ops + is) → kept + old + is ≤ most + was → kept + new ≤ most
    less new old ops was is kept most e l = omega arith

    operations : (z y : Session) → Among z k.sessions → Fate x.txn.session (at_stage stage) z y → is_active y ≡ true → length y.txn.ops + under_way y.stage ≤ most_operations
    operations z _ j (Changes e) c = subst (λ (w : Session). length w.txn.ops + under_way stage ≤ most_operations) (sym (one-session k.sessions ascending z x j here e)) room
    operations z _ j (Stays e) c = counts.operations z j c

-- a stage that has no more under way than the one before
pub counts-no_more : (k : Kernel) (x : Session) (stage : Stage) (rows : List Row) → AreAscending k.sessions → WithinCounts k → Among x k.sessions → is_active x ≡ true → is_active_stage stage ≡ true
    → under_way stage ≤ under_way x.stage → WithinCounts (with_both (staged x.txn.session stage k.sessions) rows k)
counts-no_more k x stage rows ascending counts here a b less =
    counts-staged k x stage rows ascending counts here a b
    (room (length x.txn.ops) (under_way stage) (under_way x.stage) most_operations less (counts.operations x here a))
    (history (kept_operations k.commits + open_operations k.sessions) (under_way stage) (under_way x.stage) most_history less counts.history)
  where
    room : (n u v most : ℕ) → u ≤ v → n + v ≤ most → n + u ≤ most
    room n u v most l h = omega arith

    history : (n u v most : ℕ) → u ≤ v → n ≤ most → n + u ≤ most + v
    history n u v most l h = omega arith
