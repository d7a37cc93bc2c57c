-- A file is recovered to one outcome.
use Rattle.std.proofs.Common.{◌≡◌, ◌≢◌, ◌+◌, ◌^◌, ◌<◌, ◌≤◌, ℕ, List, [], ◌∷◌, ◌++◌, length, Some, refl, sym, ◌∙◌, ap, subst, arith, append_assoc, length-append}
use Rattle.sp_rect.specs.declared.record.Record.{Record}
use Rattle.sp_plain.specs.Taking.{taken}
use Rattle.sp_journal.specs.declared.types.Recovered.{Recovered}
use Rattle.sp_journal.specs.Format.{header_bytes, body_bytes, entry_bytes}
use Rattle.sp_journal.specs.Recovery.{Base, IsBase, IsHeader, Leads, start, more, Enters, batch, checkpoint, HasEntry, all_changes, with_batch, nothing, head, Outcome, Damaged, Holds, Recovers, empty, foreign, closed, damaged}
use Rattle.sp_journal.proofs.Crashes.{length-header}
use Rattle.sp_journal.proofs.Prefixes.{u32_same, same_front, batch_same, checkpoint_same, header_same}
use Rattle.sp_journal.proofs.Walking.{short_payload, body_parts}

-- an entry leads to one thing
enters_once : (generation : ℕ) (front p q : List ℕ) (found a b : Recovered) → p ≡ q → Enters generation front found p a → Enters generation front found q b → a ≡ b
enters_once generation front p q found a b same (batch cs records kind is made) (batch ds others k also did) =
    let one : cs ≡ ds = batch_same cs ds is also same in
    let left : Some records ≡ Some others = sym made ∙ ap (λ l. taken (all_changes l) found.records) one ∙ did in
    let left_same : records ≡ others = cc in
    ap (λ l. with_batch records (length l) found) one ∙ ap (λ r. with_batch r (length ds) found) left_same
enters_once generation front p q found a b same (batch cs records kind is made) (checkpoint rs low first also) = let some = kind low in absurd (omega (arith, some, ap length first))
enters_once generation front p q found a b same (checkpoint rs low first is) (batch ds others kind also did) = let some = kind low in absurd (omega (arith, some, ap length first))
enters_once generation front p q found a b same (checkpoint rs low first is) (checkpoint os l f also) = ap (λ r. holding r) (checkpoint_same rs os is also same)
  where
    holding : List Record → Recovered
    holding r = record { records = r; batches = 0; commits = 0 }

-- The reading goes on from these entries, and comes to that outcome.
data Runs (generation : ℕ) : List ℕ → Recovered → List ℕ → Outcome → Type 0 where
  shut : (front : List ℕ) (found : Recovered) (gate : ℕ) (tail : List ℕ) → gate ≢ 1 → Runs generation front found (gate ∷ tail) (Holds found)
  broken : (front : List ℕ) (found : Recovered) (rest : List ℕ) → (HasEntry generation front found rest → ⊥) → Runs generation front found (1 ∷ rest) (Damaged (16 + length front))
  entry : (front payload next : List ℕ) (found after : Recovered) (outcome : Outcome) → Enters generation front found payload after → 1 ≤ length next → Runs generation (front ++ entry_bytes payload) after next outcome
      → Runs generation front found (entry_bytes payload ++ next) outcome

-- the bodies of two entries at one place
bodies : (p n q m : List ℕ) → length p < 2 ^ 32 → length q < 2 ^ 32 → body_bytes p ++ n ≡ body_bytes q ++ m → (p ≡ q) × (n ≡ m)
bodies p n q m few less same =
    let size = u32_same (length p) (length q) (p ++ n) (q ++ m) few less (sym (body_parts p n) ∙ same ∙ body_parts q m) in
    let all = same_front p q n m size.piece size.rest in
    (all.piece, all.rest)

runs_once : (generation : ℕ) (front tail other : List ℕ) (found : Recovered) (a b : Outcome) → tail ≡ other → Runs generation front found tail a → Runs generation front found other b → a ≡ b
runs_once generation front tail other found a b same (shut f r gate rest closed_gate) (shut g s gate' rest' closed') = refl
runs_once generation front tail other found a b same (shut f r gate rest closed_gate) (broken g s rest' none) = let one : gate ≡ 1 = cc in absurd (closed_gate one)
runs_once generation front tail other found a b same (shut f r gate rest closed_gate) (entry g payload next s after outcome enters some runs) = let one : gate ≡ 1 = cc in absurd (closed_gate one)
runs_once generation front tail other found a b same (broken f r rest none) (shut g s gate rest' closed_gate) = let one : gate ≡ 1 = cc in absurd (closed_gate one)
runs_once generation front tail other found a b same (broken f r rest none) (broken g s rest' none') = refl
runs_once generation front tail other found a b same (broken f r rest none) (entry g payload next s after outcome enters some runs) =
    let is : rest ≡ body_bytes payload ++ next = cc in absurd (none (record { payload = payload; next = next; after = after; enters = enters; gate = some; is = is }))
runs_once generation front tail other found a b same (entry f payload next r after outcome enters some runs) (shut g s gate rest' closed_gate) = let one : gate ≡ 1 = cc in absurd (closed_gate one)
runs_once generation front tail other found a b same (entry f payload next r after outcome enters some runs) (broken g s rest none) =
    let is : rest ≡ body_bytes payload ++ next = cc in absurd (none (record { payload = payload; next = next; after = after; enters = enters; gate = some; is = is }))
runs_once generation front tail other found a b same (entry f payload next r after outcome enters some runs) (entry g payload' next' s after' outcome' enters' some' runs') =
    let bytes : body_bytes payload ++ next ≡ body_bytes payload' ++ next' = cc in
    let parts = bodies payload next payload' next' (short_payload generation front payload found after enters) (short_payload generation front payload' found after' enters') bytes in
    let left : after ≡ after' = enters_once generation front payload payload' found after after' parts.0 enters enters' in
    runs_once generation (front ++ entry_bytes payload) next next' after a b parts.1 runs
    (subst (λ (p : List ℕ). Runs generation (front ++ entry_bytes p) after next' b) (sym parts.0) (subst (λ (x : Recovered). Runs generation (front ++ entry_bytes payload') x next' b) (sym left) runs'))

some_tail : (generation : ℕ) (front tail : List ℕ) (found : Recovered) (outcome : Outcome) → Runs generation front found tail outcome → 1 ≤ length tail
some_tail generation front tail found outcome (shut f r gate rest closed_gate) = omega arith
some_tail generation front tail found outcome (broken f r rest none) = omega arith
some_tail generation front tail found outcome (entry f payload next r after o enters some runs) = omega arith

-- from the first gate on
from_first : (generation : ℕ) (front tail : List ℕ) (found : Recovered) (outcome : Outcome) → Leads generation front found → Runs generation front found tail outcome → Runs generation [] nothing (front ++ tail) outcome
from_first generation front tail found outcome start runs = runs
from_first generation front tail found outcome (more before payload was after leads enters) runs =
    subst (λ (l : List ℕ). Runs generation [] nothing l outcome) (sym (append_assoc before (entry_bytes payload) tail))
    (from_first generation before (entry_bytes payload ++ tail) was outcome leads (entry before payload tail was found outcome enters (some_tail generation (before ++ entry_bytes payload) tail found outcome runs) runs))

-- a file with a header, and the outcome of its entries
record Read (file : List ℕ) (outcome : Outcome) : Type 0 where
  version : ℕ
  generation : ℕ
  rest : List ℕ
  header : IsHeader version generation
  is : file ≡ header_bytes version generation ++ rest
  runs : Runs generation [] nothing rest outcome

read_closed : (file : List ℕ) (base : Base) (gate : ℕ) (tail : List ℕ) → IsBase base → gate ≢ 1 → file ≡ head base ++ gate ∷ tail → Read file (Holds base.found)
read_closed file base gate tail is closed_gate stands = record {
  version = base.version;
  generation = base.generation;
  rest = base.front ++ gate ∷ tail;
  header = is.header;
  is = stands ∙ append_assoc (header_bytes base.version base.generation) base.front (gate ∷ tail);
  runs = from_first base.generation base.front (gate ∷ tail) base.found (Holds base.found) is.leads (shut base.front base.found gate tail closed_gate);
}

read_damaged : (file : List ℕ) (base : Base) (rest : List ℕ) → IsBase base → (HasEntry base.generation base.front base.found rest → ⊥) → file ≡ head base ++ 1 ∷ rest → Read file (Damaged (length (head base)))
read_damaged file base rest is none stands =
    let long : 16 + length base.front ≡ length (head base) = omega (arith, length-append (header_bytes base.version base.generation) base.front, length-header base.version base.generation) in
    subst (λ (n : ℕ). Read file (Damaged n)) long (record {
      version = base.version;
      generation = base.generation;
      rest = base.front ++ 1 ∷ rest;
      header = is.header;
      is = stands ∙ append_assoc (header_bytes base.version base.generation) base.front (1 ∷ rest);
      runs = from_first base.generation base.front (1 ∷ rest) base.found (Damaged (16 + length base.front)) is.leads (broken base.front base.found rest none);
    })

read_once : (file : List ℕ) (a b : Outcome) → Read file a → Read file b → a ≡ b
read_once file a b one two =
    let same = header_same one.version one.generation two.version two.generation one.rest two.rest one.header two.header (sym one.is ∙ two.is) in
    runs_once one.generation [] one.rest two.rest nothing a b same.rest one.runs (subst (λ (g : ℕ). Runs g [] nothing two.rest b) (sym same.generation) two.runs)

never_foreign : (file : List ℕ) (outcome : Outcome) (P : Type 0) → ((version generation : ℕ) (rest : List ℕ) → IsHeader version generation → file ≢ header_bytes version generation ++ rest) → Read file outcome → P
never_foreign file outcome P none read = absurd (none read.version read.generation read.rest read.header read.is)

-- the law
pub one_outcome : (file : List ℕ) (a b : Outcome) → Recovers file a → Recovers file b → a ≡ b
one_outcome file a b (empty short) (empty less) = refl
one_outcome file a b (empty short) (foreign long none) = absurd (omega arith)
one_outcome file a b (empty short) (closed base gate tail long is shut_gate stands) = absurd (omega arith)
one_outcome file a b (empty short) (damaged base rest long is none stands) = absurd (omega arith)
one_outcome file a b (foreign long none) (empty short) = absurd (omega arith)
one_outcome file a b (foreign long none) (foreign longer never) = refl
one_outcome file a b (foreign long none) (closed base gate tail longer is shut_gate stands) = never_foreign file (Holds base.found) (a ≡ b) none (read_closed file base gate tail is shut_gate stands)
one_outcome file a b (foreign long none) (damaged base rest longer is never stands) = never_foreign file (Damaged (length (head base))) (a ≡ b) none (read_damaged file base rest is never stands)
one_outcome file a b (closed base gate tail long is shut_gate stands) (empty short) = absurd (omega arith)
one_outcome file a b (closed base gate tail long is shut_gate stands) (foreign longer none) = never_foreign file (Holds base.found) (a ≡ b) none (read_closed file base gate tail is shut_gate stands)
one_outcome file a b (closed base gate tail long is shut_gate stands) (closed other gate' tail' longer also shut' stands') = read_once file a b (read_closed file base gate tail is shut_gate stands) (read_closed file other gate' tail' also shut' stands')
one_outcome file a b (closed base gate tail long is shut_gate stands) (damaged other rest longer also none stands') = read_once file a b (read_closed file base gate tail is shut_gate stands) (read_damaged file other rest also none stands')
one_outcome file a b (damaged base rest long is none stands) (empty short) = absurd (omega arith)
one_outcome file a b (damaged base rest long is none stands) (foreign longer never) = never_foreign file (Damaged (length (head base))) (a ≡ b) never (read_damaged file base rest is none stands)
one_outcome file a b (damaged base rest long is none stands) (closed other gate tail longer also shut_gate stands') = read_once file a b (read_damaged file base rest is none stands) (read_closed file other gate tail also shut_gate stands')
one_outcome file a b (damaged base rest long is none stands) (damaged other rest' longer also never stands') = read_once file a b (read_damaged file base rest is none stands) (read_damaged file other rest' also never stands')
