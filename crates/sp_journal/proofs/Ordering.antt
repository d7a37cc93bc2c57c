-- What a file holds is by ascending id.
use Rattle.std.proofs.Common.{ℕ, List, [], map}
use Rattle.sp_rect.specs.Store.{IsOrdered}
use Rattle.sp_plain.specs.declared.change.Change.TheVariants.{Put}
use Rattle.sp_plain.proofs.Leading.{ordered_taken}
use Rattle.sp_journal.specs.declared.types.Recovered.{Recovered}
use Rattle.sp_journal.specs.Recovery.{all_changes, Enters, batch, checkpoint, Leads, start, more, Outcome, Foreign, Damaged, Holds, Recovers, empty, foreign, closed, damaged}
use Rattle.sp_journal.proofs.Payloads.{checkpoint_puts}

ordered_entry : (generation : ℕ) (front payload : List ℕ) (found after : Recovered) → IsOrdered found.records → Enters generation front found payload after → IsOrdered after.records
ordered_entry generation front payload found after ordered (batch commits records kind is made) = ordered_taken (all_changes commits) found.records records ordered made
ordered_entry generation front payload found after ordered (checkpoint records low first is) = ordered_taken (map Put records) [] records tt (checkpoint_puts records is)

ordered_leads : (generation : ℕ) (front : List ℕ) (found : Recovered) → Leads generation front found → IsOrdered found.records
ordered_leads generation front found start = tt
ordered_leads generation front found (more before payload was after leads enters) = ordered_entry generation before payload was found (ordered_leads generation before was leads) enters

abbrev Ordered : Outcome → Type 0
Ordered Foreign = Unit {0}
Ordered (Damaged at) = Unit {0}
Ordered (Holds found) = IsOrdered found.records

ordered_outcome : (file : List ℕ) (outcome : Outcome) → Recovers file outcome → Ordered outcome
ordered_outcome file outcome (empty short) = tt
ordered_outcome file outcome (foreign long none) = tt
ordered_outcome file outcome (closed base gate tail long is shut stands) = ordered_leads base.generation base.front base.found is.leads
ordered_outcome file outcome (damaged base rest long is none stands) = tt

pub held_ordered : (file : List ℕ) (found : Recovered) → Recovers file (Holds found) → IsOrdered found.records
held_ordered file found is = ordered_outcome file (Holds found) is
