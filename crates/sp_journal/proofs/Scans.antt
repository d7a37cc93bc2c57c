-- What the end of a file's entries says of the whole file.
use Rattle.std.proofs.Common.{◌≡◌, ◌≢◌, ◌<◌, ◌≤◌, ℕ, Result, Err, List, [], ◌∷◌, ◌++◌, length, drop, refl, sym, ◌∙◌, ap, subst, arith}
use Rattle.std.proofs.lemmas.List.{drop_at, append-nil}
use Rattle.sp_journal.specs.declared.chain.Chain.{Chain}
use Rattle.sp_journal.specs.declared.kind.Kind.TheVariants.{Foreign as IsForeign, Settled}
use Rattle.sp_journal.specs.declared.turn.Turn.{Turn}
use Rattle.sp_journal.specs.declared.turn.Turn.TheVariants.{Closed, Damaged as IsDamaged, Entered}
use Rattle.sp_journal.specs.Chaining.{Reached, Ended, Stopped, found_in}
use Rattle.sp_journal.specs.Format.{header_bytes}
use Rattle.sp_journal.specs.Kinds.{IsKind, foreign, settled}
use Rattle.sp_journal.specs.Recovery.{Base, IsHeader, start, head, nothing, Recovers, Foreign, Damaged}
use Rattle.sp_journal.specs.Recovery.{foreign as recovers_foreign, damaged as recovers_damaged}
use Rattle.sp_journal.specs.Scanning.{Rests}
use Rattle.sp_journal.proofs.Crashes.{length-header}

abbrev pub err_of : (U : Type 0) {E : Type 0} → E → Result U E
err_of U e = Err e

-- no entry was read
abbrev pub bare : ℕ → ℕ → Base
bare version generation = record { version = version; generation = generation; front = []; found = nothing }

pub reached_first : (version generation : ℕ) (file : List ℕ) (chain : Chain) → chain.at ≡ 16 → chain.generation ≡ generation → found_in chain ≡ nothing → IsHeader version generation → file ≡ header_bytes version generation ++ drop 16 file
    → Reached file chain (bare version generation)
reached_first version generation file chain at same none is stands =
    let plain : header_bytes version generation ++ [] ≡ header_bytes version generation = append-nil (header_bytes version generation) in
    record {
      is = record { header = is; leads = start };
      generation = sym same;
      at = omega (arith, at, ap length plain, length-header version generation);
      found = sym none;
      stands = stands ∙ ap (λ (l : List ℕ). l ++ drop 16 file) (sym plain) ∙ ap (λ (n : ℕ). head (bare version generation) ++ drop n file) (sym at);
    }

pub damaged_by : (turn : Turn) (file : List ℕ) (chain : Chain) (version : ℕ) → 17 < length file → turn ≢ Closed → Stopped turn file chain version → Recovers file (Damaged chain.at)
damaged_by Closed file chain version long other stopped = absurd (other refl)
damaged_by IsDamaged file chain version long other stopped =
    let base = stopped.0 in let broken = stopped.2 in
    subst (λ (n : ℕ). Recovers file (Damaged n)) (sym broken.at) (recovers_damaged base broken.rest long broken.is broken.none broken.stands)
damaged_by Entered file chain version long other stopped = absurd stopped

-- what a settled file is
pub record IsSettled (file : List ℕ) (version generation : ℕ) : Type 0 where
  pub header : IsHeader version generation
  pub gate : ℕ
  pub tail : List ℕ
  pub open_gate : 2 ≤ generation → gate ≡ 1
  pub stands : file ≡ header_bytes version generation ++ gate ∷ tail

pub settled_is : (file : List ℕ) (version generation : ℕ) → IsKind file (Settled version generation) → IsSettled file version generation
settled_is file version generation (settled v g gate tail long is open_gate stands) = record { header = is; gate = gate; tail = tail; open_gate = open_gate; stands = stands }

pub behind_header : (file : List ℕ) (version generation : ℕ) → IsSettled file version generation → file ≡ header_bytes version generation ++ drop 16 file
behind_header file version generation is =
    is.stands ∙ ap (λ (l : List ℕ). header_bytes version generation ++ l) (sym (ap (λ (l : List ℕ). drop 16 l) is.stands ∙ drop_at (header_bytes version generation) (is.gate ∷ is.tail) 16 (length-header version generation)))

same_gate : (file front : List ℕ) (a b : ℕ) (more others : List ℕ) → file ≡ front ++ a ∷ more → file ≡ front ++ b ∷ others → a ≡ b
same_gate file front a b more others one two = let tails : a ∷ more ≡ b ∷ others = sym (drop_at front (a ∷ more) (length front) refl) ∙ ap (λ (l : List ℕ). drop (length front) l) (sym one ∙ two) ∙ drop_at front (b ∷ others) (length front) refl in cc

some_front : (front : List ℕ) → (front ≡ [] → ⊥) → 1 ≤ length front
some_front [] none = absurd (none refl)
some_front (x ∷ front) none = omega arith

-- the entries of a settled file that were all read
pub rests_here : (file : List ℕ) (chain : Chain) (version generation : ℕ) (base : Base) → base.version ≡ version → base.generation ≡ generation → IsSettled file version generation → Ended file chain base → Rests file chain.at base
rests_here file chain version generation base sv sg is ended =
    record {
      is = ended.is;
      begun = λ low. some_front base.front (λ none. never low none);
      place = ended.at;
      gate = ended.gate;
      tail = ended.tail;
      shut = ended.shut;
      stands = ended.stands;
    }
  where
    never : 2 ≤ base.generation → base.front ≡ [] → ⊥
    never low none =
        let same : header_bytes version generation ++ [] ≡ header_bytes version generation = append-nil (header_bytes version generation) in
        let head_is : head base ≡ header_bytes version generation = ap (λ (l : List ℕ). header_bytes base.version base.generation ++ l) none ∙ ap (λ (v : ℕ). header_bytes v base.generation ++ []) sv ∙ ap (λ (g : ℕ). header_bytes version g ++ []) sg ∙ same in
        let first : ended.gate ≡ is.gate = same_gate file (header_bytes version generation) ended.gate is.gate ended.tail is.tail (ended.stands ∙ ap (λ (l : List ℕ). l ++ ended.gate ∷ ended.tail) head_is) is.stands in
        ended.shut (first ∙ is.open_gate (omega (arith, low, sg)))

pub foreign_is : (file : List ℕ) → IsKind file IsForeign → Recovers file Foreign
foreign_is file (foreign long none) = recovers_foreign long none

-- an error that is handed on
pub same_err : {T U E : Type 0} (was x wanted : E) → x ≡ was → (r : Result T E) → r ≡ Err x → r ≡ Err wanted → err_of U was ≡ Err wanted
same_err was x wanted same r is so = let e : was ≡ wanted = cc in ap Err e
