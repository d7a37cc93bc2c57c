-- What one turn of reading leaves, by its answer.
use Rattle.std.proofs.Common.{◌≡◌, ◌≢◌, ◌+◌, ◌^◌, ◌<◌, ◌≤◌, ℕ, Result, Ok, Err, IfOk, List, ◌∷◌, ◌++◌, length, drop, refl, arith, length-drop}
use Rattle.sp_disk.specs.declared.disk.DiskError.{DiskError}
use Rattle.sp_journal.specs.declared.chain.Chain.{Chain}
use Rattle.sp_journal.specs.declared.turn.Turn.{Turn}
use Rattle.sp_journal.specs.declared.turn.Turn.TheVariants.{Closed, Damaged, Entered}
use Rattle.sp_journal.specs.declared.types.Recovered.{Recovered}
use Rattle.sp_journal.specs.Chaining.{Reached, Turned, found_in}
use Rattle.sp_journal.specs.Format.{u32_bytes}
use Rattle.sp_journal.specs.Recovery.{Base, Enters}
use Rattle.sp_journal.proofs.Walking.{no_entry, enters_here, with_payload}

pub turned_by : (file payload : List ℕ) (chain later : Chain) (base : Base) (size : ℕ) (result : Result Turn DiskError) → Reached file chain base → chain.at + 5 + size < length file → size < 2 ^ 32
    → drop chain.at file ≡ 1 ∷ drop (chain.at + 1) file → (4 ≤ length (drop (chain.at + 1) file) → drop (chain.at + 1) file ≡ u32_bytes size ++ drop 4 (drop (chain.at + 1) file))
    → length payload ≡ size → drop (chain.at + 5) file ≡ payload ++ drop (chain.at + 5 + size) file → later.generation ≡ chain.generation
    → IfOk result (λ turn. turn ≡ Entered → Enters chain.generation base.front (found_in chain) payload (found_in later))
    → ((after : Recovered) → IfOk result (λ turn. turn ≡ Damaged → Enters chain.generation base.front (found_in chain) payload after → ⊥))
    → IfOk result (λ turn. turn ≡ Entered → later.at ≡ chain.at + 5 + length payload) → IfOk result (λ turn. turn ≡ Damaged → later.at ≡ chain.at) → IfOk result (λ turn. turn ≢ Closed)
    → IfOk result (λ turn. Turned turn file later base)
turned_by file payload chain later base size (Err e) reached inside few here sized long behind generation entered refused place stays open_gate = tt
turned_by file payload chain later base size (Ok Closed) reached inside few here sized long behind generation entered refused place stays open_gate = absurd (open_gate refl)
turned_by file payload chain later base size (Ok Damaged) reached inside few here sized long behind generation entered refused place stays open_gate =
    no_entry file payload chain later base size reached inside few here (sized (omega (arith, length-drop (chain.at + 1) file))) long behind (λ after. refused after refl) (stays refl)
turned_by file payload chain later base size (Ok Entered) reached inside few here sized long behind generation entered refused place stays open_gate =
    (with_payload base payload (found_in later), refl, enters_here file payload chain later base size reached inside here (sized (omega (arith, length-drop (chain.at + 1) file))) long behind (entered refl) (place refl) generation)
