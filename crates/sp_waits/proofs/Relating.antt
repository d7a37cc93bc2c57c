-- Who waits for whom, as a list and as a relation.
use Rattle.std.proofs.Common.{◌≡◌, ◌≢◌, ◌⊎◌, ℕ, Bool, true, false, List, Option, None, Some, refl, sym, ◌∙◌, subst, inl, inr, true≢false}
use Rattle.sp_locks.specs.declared.row.Row.{Row}
use Rattle.sp_locks.specs.Rows.{is_waiter, holds_in, waiting_in}
use Rattle.sp_locks.specs.Table.{rows_on, held}
use Rattle.sp_locks.specs.Modes.{compatible}
use Rattle.sp_locks.specs.Soundness.{In, IsSound}
use Rattle.sp_locks.specs.Blocking.{is_compatible_with}
use Rattle.sp_locks.proofs.Members.{before-in, numbers-tell, numbers-apart}
use Rattle.sp_locks.proofs.Blocking.{held-against, against-held, holds-nothing, held-nothing}
use Rattle.sp_locks.proofs.Keeping.{found-waits, in-name, once-on}
use Rattle.sp_waits.specs.Edges.{member, stopped_by, of_row, waits_of}
use Rattle.sp_waits.specs.Waiting.{WaitsBefore, WaitsFor}
use Rattle.sp_waits.proofs.Acyclic.{starts-waiting, IsStopping, of_stopping, to_stopping, ahead-before, before-ahead}

pub edge-waits : (rows : List Row) (u v : ℕ) → IsSound rows → member v (waits_of rows u) ≡ true → WaitsFor rows u v
edge-waits rows u v sound h = record { row = r; waits = start.1; apart = apart; how = go k.row.waiting refl k.how }
  where
    start : (r : Row) × (waiting_in u rows ≡ Some r) × (member v (stopped_by u r.name r.mode rows) ≡ true)
    start = starts-waiting rows u v h

    r : Row
    r = start.0

    f : In r rows × (is_waiter u r ≡ true)
    f = found-waits u rows r start.1

    k : IsStopping (holds_in u (rows_on r.name rows)) u r.mode (rows_on r.name rows) v
    k = of_stopping (holds_in u (rows_on r.name rows)) u r.mode (rows_on r.name rows) v start.2

    apart : v ≢ u
    apart e = true≢false (sym (numbers-tell k.row.session u (k.by ∙ e)) ∙ k.other)

    go : (b : Bool) → k.row.waiting ≡ b → (k.row.waiting ≡ false) ⊎ ((holds_in u (rows_on r.name rows) ≡ false) × Rattle.sp_waits.proofs.Acyclic.Ahead u k.row (rows_on r.name rows))
        → (is_compatible_with r.mode (held v r.name rows) ≡ false) ⊎ ((held u r.name rows ≡ None) × WaitsBefore rows v r)
    go false w how = inl (held-against v r.mode k.row (rows_on r.name rows) k.stands w k.by k.against)
    go true w (inl e) = absurd (true≢false (sym w ∙ e))
    go true w (inr (none, a)) =
        inr (holds-nothing u (rows_on r.name rows) none, record { earlier = k.row; by = k.by; waits = w; against = k.against; before = ahead-before u k.row r (rows_on r.name rows) k.other f.1 (in-name r rows f.0) a })

pub waits-edge : (rows : List Row) (u v : ℕ) → IsSound rows → WaitsFor rows u v → member v (waits_of rows u) ≡ true
waits-edge rows u v sound w = subst (λ (o : Option Row). member v (of_row u rows o) ≡ true) (sym w.waits) (go w.how)
  where
    r : Row
    r = w.row

    f : In r rows × (is_waiter u r ≡ true)
    f = found-waits u rows r w.waits

    on : (x : Row) → In x (rows_on r.name rows) → x.session ≡ v → compatible r.mode x.mode ≡ false → (x.waiting ≡ false) ⊎ ((holds_in u (rows_on r.name rows) ≡ false) × Rattle.sp_waits.proofs.Acyclic.Ahead u x (rows_on r.name rows)) → member v (stopped_by u r.name r.mode rows) ≡ true
    on x i e c how =
        subst (λ (n : ℕ). member n (stopped_by u r.name r.mode rows) ≡ true) e
        (to_stopping (holds_in u (rows_on r.name rows)) u r.mode (rows_on r.name rows) x i (numbers-apart x.session u (λ g. w.apart (sym e ∙ g))) c how)

    go : (is_compatible_with r.mode (held v r.name rows) ≡ false) ⊎ ((held u r.name rows ≡ None) × WaitsBefore rows v r) → member v (stopped_by u r.name r.mode rows) ≡ true
    go (inl h) = let a = against-held v r.mode (rows_on r.name rows) h in on a.0 a.1 a.3 a.4 (inl a.2)
    go (inr (none, b)) =
        on b.earlier (before-in b.earlier r (rows_on r.name rows) b.before).0 b.by b.against
        (inr (held-nothing u (rows_on r.name rows) none, before-ahead u b.earlier r (rows_on r.name rows) (once-on r.name rows sound.once) f.1 b.before))
