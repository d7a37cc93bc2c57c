-- An empty file holds no records.
use Rattle.std.proofs.Common.{◌≡◌, ℕ, List, [], subst, arith}
use Rattle.sp_node.specs.declared.node.Shape.{Shape}
use Rattle.sp_rect.specs.declared.record.Record.{Record}
use Rattle.sp_journal.specs.declared.types.Recovered.{Recovered}
use Rattle.sp_journal.specs.Recovery.{nothing, Holds, Recovers}
use Rattle.sp_journal.proofs.Outcomes.{one_outcome}
use Rattle.sp_model.specs.State.{Kernel}
use Rattle.sp_model.specs.Opening.{IsOpened}
use Rattle.sp_kernel.specs.Starting.{IsStartedOver}

no_records : (found : Recovered) → Holds found ≡ Holds nothing → found.records ≡ []
no_records found e = cc

pub started_empty : (file : List ℕ) (shape : Shape) (k : Kernel) → file ≡ [] → IsStartedOver file shape k → IsOpened shape [] k
started_empty file shape k is h =
    let held : Recovers [] (Holds h.found) = subst (λ (f : List ℕ). Recovers f (Holds h.found)) is h.recovered in
    subst (λ (records : List Record). IsOpened shape records k) (no_records h.found (one_outcome [] (Holds h.found) (Holds nothing) held (Recovers.empty (omega arith)))) h.opened
