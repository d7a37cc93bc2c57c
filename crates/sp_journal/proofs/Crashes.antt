-- What a stop leaves while an entry is written.
use Rattle.std.proofs.Common.{◌≡◌, ◌≢◌, ◌⊎◌, inl, inr, ◌+◌, ◌<◌, ◌≤◌, min, ℕ, List, [], ◌∷◌, ◌++◌, length, take, drop, get_or, Some, refl, sym, ◌∙◌, ap, subst, arith, append_assoc, length-append, take-append-drop}
use Rattle.std.proofs.lemmas.List.{take_at, take-append-le, drop_at, drop_more}
use Rattle.std.proofs.Math.ListN.{replicate}
use Rattle.std.proofs.lemmas.Bool.{cases_eq}
use Rattle.sp_disk.specs.Files.{put, Torn}
use Rattle.sp_rect.specs.declared.record.Record.{Record}
use Rattle.sp_plain.specs.declared.change.Change.{Change}
use Rattle.sp_plain.specs.Taking.{taken}
use Rattle.sp_journal.specs.Format.{u32_bytes, u64_bytes, header_bytes, batch_bytes, entry_bytes, framed, IsBatch}
use Rattle.sp_journal.specs.Recovery.{Base, IsBase, head, nothing, all_changes, with_batch, Leads, start, more, batch, Recovers, empty, closed, Holds}
use Rattle.sp_journal.specs.Standing.{Ledger, applied, with_entry, IsBeforeOrAfter}
use Rattle.sp_journal.proofs.Chunks.{length-u32, length-u64}
use Rattle.sp_journal.specs.declared.types.Recovered.{Recovered}

pub length-header : (version generation : ℕ) → length (header_bytes version generation) ≡ 16
unfolding header_bytes
length-header version generation = omega (arith, length-append ((83 ∷ 80 ∷ 74 ∷ 76 ∷ []) ++ u32_bytes version) (u64_bytes generation), length-append (83 ∷ 80 ∷ 74 ∷ 76 ∷ []) (u32_bytes version), length-u32 version, length-u64 generation)

-- no entries lead to nothing
pub leads_none : (generation : ℕ) (front : List ℕ) (found : Recovered) → Leads generation front found → length front ≡ 0 → found ≡ nothing
leads_none generation front found start none = refl
leads_none generation front found (more before payload was after leads enters) none = absurd (omega (arith, length-append before (entry_bytes payload)))

pub length-head : (base : Base) → length (head base) ≡ 16 + length base.front
length-head base = omega (arith, length-append (header_bytes base.version base.generation) base.front, length-header base.version base.generation)

-- a closed gate ends the entries, whatever stands behind it
pub closed_gate : (base : Base) (gate : ℕ) (tail file : List ℕ) → IsBase base → gate ≢ 1 → file ≡ head base ++ gate ∷ tail → Recovers file (Holds base.found)
closed_gate base gate tail file is shut stands = elim (le_or_lt (length file) 17) [
  | inl short ↦ let none : base.found ≡ nothing = leads_none base.generation base.front base.found is.leads (omega (arith, ap length stands, length-append (head base) (gate ∷ tail), length-head base)) in subst (λ f. Recovers file (Holds f)) (sym none) (empty short)
  | inr long ↦ closed base gate tail long is shut stands
]
  where
    le_or_lt : (a b : ℕ) → (a ≤ b) ⊎ (b < a)
    le_or_lt a b = grind arith

-- the records after changes that can be made
pub applied_is : (changes : List Change) (before records : List Record) → taken changes before ≡ Some records → records ≡ applied changes before
applied_is changes before records is = rw is refl

-- one entry more
pub longer : (base : Base) (commits : List (List Change)) (records : List Record) → IsBase base → (2 ≤ base.generation → 1 ≤ length base.front) → IsBatch commits
    → taken (all_changes commits) base.found.records ≡ Some records → IsBase (with_entry base commits)
longer base commits records is kind whole applies =
    let same = applied_is (all_changes commits) base.found.records records applies in
    record {
      header = is.header;
      leads = subst (λ r. Leads base.generation (base.front ++ entry_bytes (batch_bytes commits)) (with_batch r (length commits) base.found)) same (more base.front (batch_bytes commits) base.found (with_batch records (length commits) base.found) is.leads (batch commits records kind whole applies));
    }

-- a whole entry behind a gate that is open
pub opened : (base : Base) (commits : List (List Change)) (gate : ℕ) (tail : List ℕ) → gate ≡ 1 → head base ++ gate ∷ (framed commits ++ tail) ≡ head (with_entry base commits) ++ 0 ∷ tail
opened base commits gate tail one = rw one (simp append_assoc)

-- a whole entry behind any gate counts or it doesn't
pub any_gate : (ledger : Ledger) (gate : ℕ) (tail file : List ℕ) (records : List Record) → IsBase ledger.base → (2 ≤ ledger.base.generation → 1 ≤ length ledger.base.front) → IsBatch ledger.flight
    → taken (all_changes ledger.flight) ledger.base.found.records ≡ Some records → file ≡ head ledger.base ++ gate ∷ (framed ledger.flight ++ tail) → IsBeforeOrAfter ledger file
any_gate ledger gate tail file records is kind whole applies stands = elim (is_one gate) [
  | inl one ↦ inr (closed_gate (with_entry ledger.base ledger.flight) 0 tail file (longer ledger.base ledger.flight records is kind whole applies) zero≢1 (stands ∙ opened ledger.base ledger.flight gate tail one))
  | inr shut ↦ inl (closed_gate ledger.base gate (framed ledger.flight ++ tail) file is shut stands)
]
  where
    is_one : (g : ℕ) → (g ≡ 1) ⊎ (g ≢ 1)
    is_one g = cases_eq g 1

    zero≢1 : let zero_gate : ℕ = 0 in zero_gate ≢ 1
    zero≢1 e = omega arith

-- what a stop leaves while something is written behind the gate
pub torn_behind : (before : List ℕ) (gate : ℕ) (tail : List ℕ) (n : ℕ) (was file : List ℕ) → was ≡ before ++ gate ∷ tail → Torn (length before + 1) n was file → (rest : List ℕ) × (file ≡ before ++ gate ∷ rest)
torn_behind before gate tail n was file is torn =
    let at : ℕ = length before + 1 in
    let split : was ≡ (before ++ gate ∷ []) ++ tail = is ∙ sym (append_assoc before (gate ∷ []) tail) in
    let long : at ≤ length was = omega (arith, ap length is, length-append before (gate ∷ tail)) in
    let same : min at (length was) ≡ at = omega (arith, long) in
    let whole_front : take at was ≡ before ++ gate ∷ [] = ap (λ (l : List ℕ). take at l) split ∙ take_at (before ++ gate ∷ []) tail at (omega (arith, length-append before (gate ∷ []))) in
    let front : take at file ≡ before ++ gate ∷ [] = ap (λ (k : ℕ). take k file) (sym same) ∙ torn.before ∙ whole_front in
    (drop at file, sym (take-append-drop at file) ∙ ap (λ (l : List ℕ). l ++ drop at file) front ∙ append_assoc before (gate ∷ []) (drop at file))

-- and while the gate is written
pub torn_gate : (before : List ℕ) (gate : ℕ) (tail was file : List ℕ) → was ≡ before ++ gate ∷ tail → Torn (length before) 1 was file → (g : ℕ) × (file ≡ before ++ g ∷ tail)
torn_gate before gate tail was file is torn =
    let at : ℕ = length before in
    let long : at + 1 ≤ length was = omega (arith, ap length is, length-append before (gate ∷ tail)) in
    let same : min at (length was) ≡ at = omega (arith, long) in
    let front : take at file ≡ before = ap (λ (k : ℕ). take k file) (sym same) ∙ torn.before ∙ ap (λ (l : List ℕ). take at l) is ∙ take_at before (gate ∷ tail) at refl in
    let split : was ≡ (before ++ gate ∷ []) ++ tail = is ∙ sym (append_assoc before (gate ∷ []) tail) in
    let behind : drop (at + 1) file ≡ tail = torn.behind ∙ ap (λ (l : List ℕ). drop (at + 1) l) split ∙ drop_at (before ++ gate ∷ []) tail (at + 1) (omega (arith, length-append before (gate ∷ []))) in
    let g : ℕ = get_or file at 0 in
    let rest : drop at file ≡ g ∷ tail = drop_more file at 0 (omega (arith, torn.no_shorter, long)) ∙ ap (λ (l : List ℕ). g ∷ l) behind in
    (g, sym (take-append-drop at file) ∙ ap (λ (l : List ℕ). l ++ drop at file) front ∙ ap (λ (l : List ℕ). before ++ l) rest)

-- a write behind the gate
pub put_behind : (before : List ℕ) (gate : ℕ) (tail bytes was : List ℕ) → was ≡ before ++ gate ∷ tail → (rest : List ℕ) × (put was (length before + 1) bytes ≡ before ++ gate ∷ (bytes ++ rest))
put_behind before gate tail bytes was is =
    let at : ℕ = length before + 1 in
    let long : at ≤ length was = omega (arith, ap length is, length-append before (gate ∷ tail)) in
    let split : was ≡ (before ++ gate ∷ []) ++ tail = is ∙ sym (append_assoc before (gate ∷ []) tail) in
    let front : take at (was ++ replicate at 0) ≡ before ++ gate ∷ [] =
    take-append-le at was (replicate at 0) long ∙ ap (λ (l : List ℕ). take at l) split ∙ take_at (before ++ gate ∷ []) tail at (omega (arith, length-append before (gate ∷ []))) in
    (drop (at + length bytes) was, ap (λ (l : List ℕ). l ++ bytes ++ drop (at + length bytes) was) front ∙ simp append_assoc)

-- a write of the gate
pub put_gate : (before : List ℕ) (gate g : ℕ) (tail was : List ℕ) → was ≡ before ++ gate ∷ tail → put was (length before) (g ∷ []) ≡ before ++ g ∷ tail
put_gate before gate g tail was is =
    let at : ℕ = length before in
    let long : at ≤ length was = omega (arith, ap length is, length-append before (gate ∷ tail)) in
    let split : was ≡ (before ++ gate ∷ []) ++ tail = is ∙ sym (append_assoc before (gate ∷ []) tail) in
    let front : take at (was ++ replicate at 0) ≡ before = take-append-le at was (replicate at 0) long ∙ ap (λ (l : List ℕ). take at l) is ∙ take_at before (gate ∷ tail) at refl in
    let behind : drop (at + 1) was ≡ tail = ap (λ (l : List ℕ). drop (at + 1) l) split ∙ drop_at (before ++ gate ∷ []) tail (at + 1) (omega (arith, length-append before (gate ∷ []))) in
    ap (λ (l : List ℕ). l ++ (g ∷ []) ++ drop (at + 1) was) front ∙ ap (λ (l : List ℕ). before ++ (g ∷ []) ++ l) behind ∙ append_assoc before (g ∷ []) tail
