-- A file that was read and prepared.
use Rattle.std.proofs.Common.{◌≡◌, ◌⊎◌, inl, inr, ℕ, Result, Ok, Err, OnOk, List, [], ◌∷◌, ◌++◌, length, refl, sym, ◌∙◌, ap, subst, arith}
use Rattle.std.proofs.lemmas.List.{append-nil}
use Rattle.sp_disk.specs.Moments.{Passes, LeavesOnly}
use Rattle.sp_journal.specs.declared.kind.Kind.{Kind}
use Rattle.sp_journal.specs.declared.kind.Kind.TheVariants.{Empty, Foreign as IsForeign, Unfinished, Settled}
use Rattle.sp_journal.specs.declared.types.Recovered.{Recovered}
use Rattle.sp_journal.specs.declared.work.Phase.TheVariants.{Ready}
use Rattle.sp_journal.specs.declared.work.Work.{Work}
use Rattle.sp_journal.specs.Format.{header_bytes, framed}
use Rattle.sp_journal.specs.Kinds.{IsKind, empty, unfinished as kind_unfinished, settled, KeepsKind, HasHeader}
use Rattle.sp_journal.specs.Looking.{OnlyReads}
use Rattle.sp_journal.specs.Opening.{RecoversAs, Opens, synced, KeptOrMade, BeginsAs, as_settled, as_new, IsReady, IsAttached}
use Rattle.sp_journal.specs.Recovery.{Base, start, nothing, Recovers, Holds, NeedsMaking, short, unfinished, HoldsNothing, new_file}
use Rattle.sp_journal.specs.Scanning.{Held, Rests}
use Rattle.sp_journal.specs.Standing.{Ledger, Stands, IsNext, IsInFlight, Lies}
use Rattle.sp_journal.proofs.Crashes.{closed_gate, length-head}
use Rattle.sp_journal.proofs.Kinding.{keeps_same, keeps_made}
use Rattle.sp_journal.proofs.Making.{file_holds, chained}
use Rattle.sp_journal.proofs.Outcomes.{one_outcome}

-- the file is to be made anew
abbrev pub IsUnmade : Kind → Type 0
IsUnmade kind = (kind ≡ Empty) ⊎ (kind ≡ Unfinished)

short_file : (file : List ℕ) → IsKind file Empty → NeedsMaking file
short_file file (empty few) = short few

unfinished_file : (file : List ℕ) → IsKind file Unfinished → NeedsMaking file
unfinished_file file (kind_unfinished generation gate tail long low high shut stands) = unfinished generation gate tail low high shut stands

pub needs_making : (file : List ℕ) (kind : Kind) → IsKind file kind → IsUnmade kind → NeedsMaking file
needs_making file kind is which = elim which [
  | inl so ↦ short_file file (subst (λ k. IsKind file k) so is)
  | inr so ↦ unfinished_file file (subst (λ k. IsKind file k) so is)
]

pub held_nothing : (file : List ℕ) (kind : Kind) (end : ℕ) (found : Recovered) → IsUnmade kind → Held kind file end found → (found ≡ nothing) × (end ≡ 16)
held_nothing file kind end found which held = elim which [
  | inl so ↦ let here : Held Empty file end found = subst (λ k. Held k file end found) so held in here
  | inr so ↦ let here : Held Unfinished file end found = subst (λ k. Held k file end found) so held in here
]

-- what a file holds is what it is recovered to
pub scan_recovers : (file : List ℕ) (kind : Kind) (end : ℕ) (found : Recovered) → IsKind file kind → Held kind file end found → Recovers file (Holds found)
scan_recovers file Empty end found is held = subst (λ f. Recovers file (Holds f)) (sym held.0) (file_holds file (short_file file is))
scan_recovers file IsForeign end found is held = absurd held
scan_recovers file Unfinished end found is held = subst (λ f. Recovers file (Holds f)) (sym held.0) (file_holds file (unfinished_file file is))
scan_recovers file (Settled version generation) end found is held =
    let rests = held.4 in
    subst (λ f. Recovers file (Holds f)) held.3 (closed_gate held.0 rests.gate rests.tail file rests.is rests.shut rests.stands)

-- a file that needs making is recovered to nothing, and so is what its making leaves
pub holds_as : (was file : List ℕ) → NeedsMaking was → HoldsNothing file → RecoversAs was file
holds_as was file needs holds outcome is = subst (λ o. Recovers file o) (one_outcome was (Holds nothing) outcome (file_holds was needs) is) holds

pub leaves_weaker : (before now : ℕ) (old new : ℕ → List ℕ → Type 0) (P Q : List ℕ → Type 0) → ((file : List ℕ) → P file → Q file) → LeavesOnly before now old new P → LeavesOnly before now old new Q
leaves_weaker before now old new P Q more only = record { later = only.later; each = λ k file low high left. more file (only.each k file low high left); past = only.past }

pub on_ok_more : {T E : Type 0} (P Q : Type 0) (r : Result T E) → (P → Q) → OnOk r P → OnOk r Q
on_ok_more P Q (Ok x) more is = more is
on_ok_more P Q (Err e) more is = tt

fresh_base : Base
fresh_base = record { version = 2; generation = 1; front = []; found = nothing }

new_rests : (reads : List ℕ) (end : ℕ) → reads ≡ new_file → end ≡ 16 → Rests reads end fresh_base
unfolding fresh_base
new_rests reads end is at = record {
  is = record { header = inr (refl, omega arith, omega arith); leads = start };
  begun = λ low. absurd (omega (arith, low));
  place = omega (arith, at, length-head fresh_base);
  gate = 0;
  tail = [];
  shut = λ e. omega arith;
  stands = is ∙ ap (λ (l : List ℕ). l ++ 0 ∷ []) (sym (append-nil (header_bytes 2 1)));
}

pub made_ready : (was reads : List ℕ) (leaves : List ℕ → Type 0) (end : ℕ) (found : Recovered) → NeedsMaking was → (found ≡ nothing) × (end ≡ 16) → (reads ≡ new_file) × ((file : List ℕ) → leaves file → file ≡ new_file)
    → IsReady was reads leaves end found
unfolding fresh_base
made_ready was reads leaves end found needs none made = record {
  base = fresh_base;
  found_is = sym none.0;
  rests = new_rests reads end made.0 none.1;
  only = λ file left. made.1 file left ∙ sym made.0;
  kept = inr (needs, made.0);
}

module _ (was reads : List ℕ) (leaves : List ℕ → Type 0) (end : ℕ) (found : Recovered) (ready : IsReady was reads leaves end found) (work : Work) where
  -- nothing is in flight or queued
  pub idle : Ledger
  idle = record { base = ready.base; flight = []; queued = [] }

  pub stands_idle : work.end ≡ end → work.phase ≡ Ready → (work.flight.items ≡ framed []) × (work.flying ≡ 0) → (work.queued.items ≡ framed []) × (work.commits ≡ 0) × (work.changes ≡ 0) → Stands reads leaves work idle
  unfolding idle
  stands_idle at phase flight queued =
      let rests = ready.rests in
      record {
        base = rests.is;
        settled = rests.begun;
        end = at ∙ rests.place;
        next = subst (λ p. IsNext p work.end work.next (length work.flight.items)) (sym phase) tt;
        flight_bytes = flight.0;
        flying = flight.1;
        in_flight = subst (λ p. IsInFlight p []) (sym phase) refl;
        queued_bytes = queued.0;
        commits = queued.1;
        each = tt;
        records = ready.base.found.records;
        apply = refl;
        file = subst (λ p. Lies p idle reads leaves) (sym phase) (rests.gate, rests.tail, rests.shut, rests.stands, ready.only);
      }

  pub attached_idle : Recovers was (Holds found) → work.end ≡ end → work.phase ≡ Ready → (work.flight.items ≡ framed []) × (work.flying ≡ 0) → (work.queued.items ≡ framed []) × (work.commits ≡ 0) × (work.changes ≡ 0) → IsAttached was reads leaves work found
  unfolding idle
  attached_idle recovers at phase flight queued = record {
    recovered = recovers;
    ledger = idle;
    no_flight = refl;
    no_queue = refl;
    found_is = ready.found_is;
    stands = stands_idle at phase flight queued;
    kept = ready.kept;
  }

-- the sync was made, and what came after it
pub opens_synced : (before first now : ℕ) (was reads : List ℕ) (old mid new : ℕ → List ℕ → Type 0) → reads ≡ was → Passes before first old mid → LeavesOnly first now mid new (RecoversAs reads) → Opens before now old new (RecoversAs was)
opens_synced before first now was reads old mid new same passes only =
    synced first passes.later passes.step (λ k file low high left. subst (λ w. RecoversAs w file) same (only.each k file low high left))
    (λ k file low. let one = passes.past k file low in let two = only.past k file (omega (arith, low, passes.later)) in (λ x. one.0 (two.0 x), λ x. two.1 (one.1 x)))

-- the same, of any property
pub opens_after : (before first now : ℕ) (old mid new : ℕ → List ℕ → Type 0) (P : List ℕ → Type 0) → Passes before first old mid → LeavesOnly first now mid new P → Opens before now old new P
opens_after before first now old mid new P passes only =
    synced first passes.later passes.step only.each
    (λ k file low. let one = passes.past k file low in let two = only.past k file (omega (arith, low, passes.later)) in (λ x. one.0 (two.0 x), λ x. two.1 (one.1 x)))

-- a file that is only read keeps its kind
pub looked_keeps : (before now : ℕ) (reads reads' : List ℕ) (old new : ℕ → List ℕ → Type 0) → OnlyReads before now reads reads' old new → ((file : List ℕ) → old before file → file ≡ reads) → LeavesOnly before now old new (KeepsKind reads)
looked_keeps before now reads reads' old new looks only = leaves_weaker before now old new (old before) (KeepsKind reads) (λ file left. keeps_same reads file (only file left)) looks.stop

-- and one that is read and then prepared
pub prepared_keeps : (before mid now : ℕ) (reads reads' : List ℕ) (old between new : ℕ → List ℕ → Type 0) → OnlyReads before mid reads reads' old between → ((file : List ℕ) → old before file → file ≡ reads)
    → LeavesOnly mid now between new (KeepsKind reads') → LeavesOnly before now old new (KeepsKind reads)
prepared_keeps before mid now reads reads' old between new looks only run =
    chained before mid now old between new (KeepsKind reads) (looked_keeps before mid reads reads' old between looks only) (subst (λ (w : List ℕ). LeavesOnly mid now between new (KeepsKind w)) looks.bytes run)

-- a settled file begins with its header
settled_begins : (file : List ℕ) (version generation : ℕ) → IsKind file (Settled version generation) → HasHeader version generation file
settled_begins file version generation (settled v g gate tail long is open_gate stands) = (gate ∷ tail, stands)

begins_as : (was reads : List ℕ) → KeptOrMade was reads → BeginsAs was reads
begins_as was reads which = elim which [
  | inl kept ↦ as_settled kept.0 kept.1 kept.2 (subst (λ (f : List ℕ). HasHeader kept.0 kept.1 f) (sym kept.3) (settled_begins was kept.0 kept.1 kept.2))
  | inr made ↦ as_new made.0 (0 ∷ [], made.1)
]

-- a journal over a file of which a stop leaves what a read gives
pub attached_keeps : (was reads : List ℕ) (leaves : List ℕ → Type 0) (work : Work) (found : Recovered) → IsAttached was reads leaves work found → work.phase ≡ Ready → (file : List ℕ) → leaves file → KeepsKind was file
attached_keeps was reads leaves work found is phase file left =
    let at : Lies Ready is.ledger reads leaves = subst (λ p. Lies p is.ledger reads leaves) phase is.stands.file in
    subst (λ (f : List ℕ). KeepsKind was f) (sym (at.4 file left)) (keeps_made was reads is.kept)

-- and it begins with the header of the settled file, or of a new one
pub attached_begins : (was reads : List ℕ) (leaves : List ℕ → Type 0) (work : Work) (found : Recovered) → IsAttached was reads leaves work found → work.phase ≡ Ready → (file : List ℕ) → leaves file → BeginsAs was file
attached_begins was reads leaves work found is phase file left =
    let at : Lies Ready is.ledger reads leaves = subst (λ p. Lies p is.ledger reads leaves) phase is.stands.file in
    subst (λ (f : List ℕ). BeginsAs was f) (sym (at.4 file left)) (begins_as was reads is.kept)
