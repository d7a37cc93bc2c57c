-- The other file, as it is written anew, beside the current one.
use Rattle.std.proofs.Common.{◌≡◌, ◌≢◌, inl, inr, ◌+◌, ◌<◌, ◌≤◌, ◌^◌, ℕ, add-one, zero, suc, Bool, List, [], ◌∷◌, ◌++◌, length, get_or, refl, sym, ◌∙◌, ap, arith, append_assoc, length-append}
use Rattle.sp_disk.specs.Moments.{LeavesOnly}
use Rattle.sp_rect.specs.Store.{IsOrderedFrom, IsOrdered}
use Rattle.sp_rect.specs.declared.record.Record.{Record}
use Rattle.sp_plain.proofs.Order.{at_least}
use Rattle.sp_plain.specs.Taking.{most_records}
use Rattle.sp_journal.specs.declared.kind.Kind.{Kind}
use Rattle.sp_journal.specs.declared.kind.Kind.TheVariants.{Foreign as IsForeign, Settled}
use Rattle.sp_journal.specs.declared.types.Recovered.{Recovered}
use Rattle.sp_journal.specs.Format.{header_bytes, body_bytes, entry_bytes, checkpoint_bytes, IsPut, IsCheckpoint}
use Rattle.sp_journal.specs.Kinds.{IsKind, settled}
use Rattle.sp_journal.specs.Recovery.{Base, IsHeader, nothing, start, more, checkpoint, Holds, Recovers}
use Rattle.sp_journal.proofs.Crashes.{closed_gate, length-header}
use Rattle.sp_journal.proofs.Making.{chained}
use Rattle.sp_journal.proofs.Opened.{leaves_weaker}
use Rattle.sp_pair.specs.Compacting.{compacted, IsCleared, IsFilled, MayLeave, cleared, unfilled, whole, first_of, second_of, HoldAsBefore}
use Rattle.sp_pair.specs.Pairs.{IsChosen}
use Rattle.sp_pair.proofs.Kinding.{IsQuiet, short_quiet, cut_quiet, unmade_quiet}
use Rattle.sp_pair.proofs.Roles.{still, renewed, stays, turns}

-- ordered records ascend
ascends_from : (low : ℕ) (rs : List Record) → IsOrderedFrom low rs → (k : ℕ) (d : Record) → k + 1 < length rs → (get_or rs k d).id < (get_or rs (k + 1) d).id
ascends_from low [] o k d lt = absurd (omega arith)
ascends_from low (r ∷ rs) o zero d lt =
    let next : get_or (r ∷ rs) (0 + 1) d ≡ get_or rs 0 d = ap (λ (n : ℕ). get_or (r ∷ rs) n d) (add-one 0) in
    let up : r.id + 1 ≤ (get_or rs 0 d).id = at_least (r.id + 1) rs o.1 0 d (omega arith) in
    rw next (omega arith)
ascends_from low (r ∷ rs) o (suc k) d lt =
    let next : get_or (r ∷ rs) (suc k + 1) d ≡ get_or rs (k + 1) d = ap (λ (n : ℕ). get_or (r ∷ rs) n d) (add-one (suc k)) ∙ ap (λ (n : ℕ). get_or rs n d) (sym (add-one k)) in
    let up : (get_or rs k d).id < (get_or rs (k + 1) d).id = ascends_from (r.id + 1) rs o.1 k d (omega arith) in
    rw next up

pub valid_checkpoint : (rs : List Record) → length rs ≤ most_records → ((k : ℕ) (d : Record) → k < length rs → IsPut (get_or rs k d)) → IsOrdered rs → IsCheckpoint rs
valid_checkpoint rs few each ordered = record { count = few; each = each; ascending = ascends_from 0 rs ordered }

zero≢1 : let zero_gate : ℕ = 0 in zero_gate ≢ 1
zero≢1 e = omega arith

module _ (generation : ℕ) (records : List Record) (file : List ℕ) (low : 2 ≤ generation) (high : generation < 2 ^ 63) (is : file ≡ compacted generation records) where
  header : IsHeader 2 generation
  header = inr (refl, omega (arith, low), high)

  -- the file is settled
  pub compacted_kind : IsKind file (Settled 2 generation)
  compacted_kind =
      let front : List ℕ = header_bytes 2 generation in
      let body : List ℕ = body_bytes (checkpoint_bytes records) ++ 0 ∷ [] in
      settled 2 generation 1 body (omega (arith, ap length is, length-append front (1 ∷ body), length-append (body_bytes (checkpoint_bytes records)) (0 ∷ []), length-header 2 generation)) header (λ _. refl) is

  -- and holds the records
  pub compacted_holds : IsCheckpoint records → Recovers file (Holds (record { records = records; batches = 0; commits = 0 }))
  compacted_holds valid =
      let entry : List ℕ = entry_bytes (checkpoint_bytes records) in
      let found : Recovered = record { records = records; batches = 0; commits = 0 } in
      let base : Base = record { version = 2; generation = generation; front = entry; found = found } in
      closed_gate base 0 [] file (record { header = header; leads = more [] (checkpoint_bytes records) nothing found start (checkpoint records low refl valid) }) zero≢1 (is ∙ sym (append_assoc (header_bytes 2 generation) entry (0 ∷ [])))

-- whatever a stop leaves of the other file, the two hold the same
pub may_leave : (b : Bool) (v own next : ℕ) (c o file : List ℕ) (found : Recovered) → IsChosen (first_of b c o) (second_of b c o) b v own → own < next → 2 ≤ next → next < 2 ^ 63 → Recovers c (Holds found)
    → MayLeave o next found.records file → HoldAsBefore b c o c file
may_leave b v own next c o file found chosen less low high held (cleared is) = still b v own c o file chosen (stays b v own c o file chosen (λ kind k home. quiet kind k home))
  where
    quiet : (kind : Kind) → IsKind o kind → (kind ≡ IsForeign → ⊥) → IsQuiet kind file
    quiet kind k home = elim is [
      | inl cut ↦ cut_quiet o file kind k home cut
      | inr few ↦ short_quiet kind file few
    ]
may_leave b v own next c o file found chosen less low high held (unfilled is) = still b v own c o file chosen (stays b v own c o file chosen (λ kind k home. unmade_quiet kind file is))
may_leave b v own next c o file found chosen less low high held (whole is valid) =
    renewed b v own 2 next c o file found (record { records = found.records; batches = 0; commits = 0 }) chosen (turns b v own next c o file chosen less (compacted_kind next found.records file low high is)) held
    (compacted_holds next found.records file low high is valid) refl

-- the two halves, one after the other
pub cleared_only : (before now : ℕ) (old new : ℕ → List ℕ → Type 0) (was : List ℕ) (generation : ℕ) (records : List Record) → LeavesOnly before now old new (IsCleared was) → LeavesOnly before now old new (MayLeave was generation records)
cleared_only before now old new was generation records only = leaves_weaker before now old new (IsCleared was) (MayLeave was generation records) (λ file is. cleared is) only

pub halves_only : (before mid now : ℕ) (old between new : ℕ → List ℕ → Type 0) (was body : List ℕ) (generation : ℕ) (records : List Record) → body ≡ body_bytes (checkpoint_bytes records) ++ 0 ∷ [] → IsCheckpoint records
    → LeavesOnly before mid old between (IsCleared was) → LeavesOnly mid now between new (IsFilled (header_bytes 2 generation ++ 1 ∷ body)) → LeavesOnly before now old new (MayLeave was generation records)
halves_only before mid now old between new was body generation records is valid one two =
    chained before mid now old between new (MayLeave was generation records) (cleared_only before mid old between was generation records one)
    (leaves_weaker mid now between new (IsFilled (header_bytes 2 generation ++ 1 ∷ body)) (MayLeave was generation records) (λ file filled. filled_may file filled) two)
  where
    filled_may : (file : List ℕ) → IsFilled (header_bytes 2 generation ++ 1 ∷ body) file → MayLeave was generation records file
    filled_may file filled = elim filled [
      | inl needs ↦ unfilled needs
      | inr all ↦ whole (all ∙ ap (λ (l : List ℕ). header_bytes 2 generation ++ 1 ∷ l) is) valid
    ]
