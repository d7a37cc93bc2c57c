-- Two files at rest, of which the other one is written anew.
use Rattle.std.proofs.Common.{◌≡◌, ◌+◌, ◌-◌, ◌<◌, ◌≤◌, ◌^◌, ℕ, Bool, true, false, not, if◌then◌else◌, Result, Ok, Err, IfErr, List, length, refl, sym, ◌∙◌, ap, subst, arith}
use Rattle.std.specs.Result.{IsErrAnd}
use Rattle.sp_disk.specs.Moments.{LeavesOnly}
use Rattle.sp_rect.specs.Store.{IsOrdered}
use Rattle.sp_rect.specs.declared.record.Record.{Record}
use Rattle.sp_journal.specs.declared.kind.Kind.TheVariants.{Foreign as IsForeign}
use Rattle.sp_journal.specs.declared.types.JournalError.{JournalError}
use Rattle.sp_journal.specs.declared.types.JournalError.TheVariants.{Foreign as SaysForeign, Damaged as SaysDamaged, Worn, Fault, Memory}
use Rattle.sp_journal.specs.declared.types.Recovered.{Recovered}
use Rattle.sp_journal.specs.Format.{IsCheckpoint}
use Rattle.sp_journal.specs.Kinds.{IsKind, foreign as kind_foreign}
use Rattle.sp_journal.specs.Looking.{OnlyReads}
use Rattle.sp_journal.specs.Recovery.{Outcome, Foreign, Damaged, Holds, Recovers, empty, foreign, closed, damaged}
use Rattle.sp_journal.proofs.Opened.{leaves_weaker}
use Rattle.sp_journal.proofs.Ordering.{held_ordered}
use Rattle.sp_pair.specs.Compacting.{next_generation, compacted, MayLeave, first_of, second_of, RecoversRoles, IsAtRest, HoldAsBefore, Keeps, IsCompacted, RefusedRoles}
use Rattle.sp_pair.specs.Pairs.{IsChosen}
use Rattle.sp_pair.specs.Settling.{IsSettled}
use Rattle.sp_pair.proofs.Renewing.{compacted_kind, may_leave}
use Rattle.sp_pair.proofs.Roles.{at_home, own_fits, to_roles, turned, turns}

foreign_kind : (file : List ℕ) (outcome : Outcome) → outcome ≡ Foreign → Recovers file outcome → IsKind file IsForeign
foreign_kind file outcome is (empty short) = cc
foreign_kind file outcome is (foreign long none) = kind_foreign long none
foreign_kind file outcome is (closed base gate tail long whole shut stands) = cc
foreign_kind file outcome is (damaged base rest long whole none stands) = cc

-- an error that is handed on
pub err_as : {T E : Type 0} (r : Result T E) (x : E) (P : E → Type 0) → IsErrAnd r (λ y. y ≡ x) → P x → IfErr r P
err_as (Ok t) x P is holds = tt
err_as (Err y) x P is holds = subst P (sym is) holds

said : (e : JournalError) (b : Bool) (generation : ℕ) (c o : List ℕ) → ((at : ℕ) → e ≡ SaysDamaged at → RecoversRoles b c o (Damaged at)) → (e ≡ SaysForeign → ⊥)
    → (e ≡ Worn → (generation ≡ 2 ^ 63 - 1) × ((found : Recovered) × RecoversRoles b c o (Holds found))) → RefusedRoles e b generation c o
said SaysForeign b generation c o hurt alien worn = alien refl
said (SaysDamaged at) b generation c o hurt alien worn = hurt at refl
said Worn b generation c o hurt alien worn = worn refl
said Fault b generation c o hurt alien worn = tt
said Memory b generation c o hurt alien worn = tt

module _ (b : Bool) (generation : ℕ) (c o : List ℕ) (leaves leaves' : List ℕ → Type 0) (rest : IsAtRest b generation c o leaves leaves') where
  home : Recovers c Foreign → ⊥
  home is = at_home b rest.version rest.own c o rest.chosen (foreign_kind c Foreign refl is)

  roles : (outcome : Outcome) → Recovers c outcome → RecoversRoles b c o outcome
  roles = to_roles b rest.version rest.own c o rest.chosen

  last : 2 ^ 63 ≤ generation + 1 → generation ≡ 2 ^ 63 - 1
  last late = let fits = own_fits (first_of b c o) (second_of b c o) b rest.version rest.own rest.chosen in omega (arith, fits, rest.same, late)

  -- what an error of the reading says
  pub refused_here : (e : JournalError) → ((at : ℕ) → (Recovers c Foreign → ⊥) → e ≡ SaysDamaged at → Recovers c (Damaged at)) → (e ≡ SaysForeign → ⊥) → (e ≡ Worn → 2 ^ 63 ≤ generation + 1)
      → (e ≡ Worn → (found : Recovered) × Recovers c (Holds found)) → RefusedRoles e b generation c o
  refused_here e hurt alien late held =
      said e b generation c o (λ at is. roles (Damaged at) (hurt at home is)) alien (λ is. let found = held is in (last (late is), (found.0, roles (Holds found.0) found.1)))

  later : rest.own < next_generation generation
  later = omega (arith, rest.same)

  -- the other file is written
  leaves_here : (before now : ℕ) (old new : ℕ → List ℕ → Type 0) (records : List Record) (found : Recovered) → generation + 1 < 2 ^ 63 → Recovers c (Holds found) → found.records ≡ records
      → LeavesOnly before now old new (MayLeave o (next_generation generation) records) → LeavesOnly before now old new (HoldAsBefore b c o c)
  leaves_here before now old new records found early is same only =
      leaves_weaker before now old new (MayLeave o (next_generation generation) records) (HoldAsBefore b c o c)
      (λ file left. may_leave b rest.version rest.own (next_generation generation) c o file found rest.chosen later (omega arith) (omega (arith, early)) is (subst (λ (rs : List Record). MayLeave o (next_generation generation) rs file) (sym same) left)) only

  pub compacted_here : (count : ℕ) (reads : List ℕ) (records : List Record) (found : Recovered) → Recovers c (Holds found) → found.records ≡ records → IsCheckpoint records → count ≡ length records → reads ≡ compacted (next_generation generation) records
      → IsCompacted b generation count c o reads
  compacted_here count reads records found is same valid counted stands = record {
    found = found;
    held = roles (Holds found) is;
    valid = subst IsCheckpoint (sym same) valid;
    count_is = counted ∙ ap (λ (rs : List Record). length rs) (sym same);
    file = stands ∙ ap (λ (rs : List Record). compacted (next_generation generation) rs) (sym same);
  }

  pub rests_here : (records : List Record) (reads reads' : List ℕ) (new new' : List ℕ → Type 0) → generation + 1 < 2 ^ 63 → reads ≡ compacted (next_generation generation) records → ((file : List ℕ) → new file → file ≡ reads)
      → reads' ≡ c → ((file : List ℕ) → new' file → leaves file) → IsAtRest (not b) (next_generation generation) reads reads' new new'
  rests_here records reads reads' new new' early stands only same left = record {
    version = 2;
    own = next_generation generation;
    chosen = subst (λ (f : List ℕ). IsChosen (first_of (not b) reads f) (second_of (not b) reads f) (not b) 2 (next_generation generation)) (sym same)
        (turned b (next_generation generation) c reads
        (turns b rest.version rest.own (next_generation generation) c o reads rest.chosen later (compacted_kind (next_generation generation) records reads (omega arith) (omega (arith, early)) stands)));
    same = omega arith;
    current_only = only;
    other_only = λ file is. rest.current_only file (left file is) ∙ sym same;
  }

-- the current file is only read meanwhile
keeps_here : (b : Bool) (c reads o : List ℕ) (before now before' now' : ℕ) (old new old' new' : ℕ → List ℕ → Type 0) → OnlyReads before now c reads old new → ((file : List ℕ) → old before file → file ≡ c)
    → LeavesOnly before' now' old' new' (HoldAsBefore b c o c) → Keeps b c o before now before' now' old new old' new'
keeps_here b c reads o before now before' now' old new old' new' looks only leaves = record {
  each = λ k j file file' low high low' high' left left'. subst (λ (f : List ℕ). HoldAsBefore b c o f file') (sym (only file (looks.stop.each k file low high left))) (leaves.each j file' low' high' left');
  later = looks.stop.later;
  other_later = leaves.later;
  past = looks.stop.past;
  other_past = leaves.past;
}

pub renew_keeps : (b : Bool) (generation next : ℕ) (c reads o : List ℕ) (before now before' now' : ℕ) (old new old' new' : ℕ → List ℕ → Type 0) (records : List Record) → IsAtRest b generation c o (old before) (old' before') → generation + 1 < 2 ^ 63
    → next ≡ next_generation generation → (found : Recovered) × Recovers c (Holds found) × (found.records ≡ records) → OnlyReads before now c reads old new
    → (2 ≤ next → next < 2 ^ 63 → IsOrdered records → LeavesOnly before' now' old' new' (MayLeave o next records)) → Keeps b c o before now before' now' old new old' new'
renew_keeps b generation next c reads o before now before' now' old new old' new' records rest early is held looks wrote =
    let only = wrote (omega (arith, is)) (omega (arith, is, early)) (subst IsOrdered held.2 (held_ordered c held.0 held.1)) in
    keeps_here b c reads o before now before' now' old new old' new' looks rest.current_only
    (leaves_here b generation c o (old before) (old' before') rest before' now' old' new' records held.0 early held.1 held.2 (subst (λ (n : ℕ). LeavesOnly before' now' old' new' (MayLeave o n records)) is only))

-- of a settled file a stop leaves what a read gives
pub only_reads : (before now : ℕ) (reads reads' : List ℕ) (old new : ℕ → List ℕ → Type 0) → IsSettled before now reads reads' old new → (file : List ℕ) → new now file → file ≡ reads'
only_reads before now reads reads' old new is file left = is.each now file is.now_low (omega arith) left ∙ sym is.bytes

-- two disks by their roles, of which a stop leaves what a read gives
module _ {D : Type 0} (reads : D → List ℕ) (moment : D → ℕ) (images : D → ℕ → List ℕ → Type 0) where
  abbrev Only : D → Type 0
  Only d = (file : List ℕ) → images d (moment d) file → file ≡ reads d

  by_roles : (b : Bool) (version generation : ℕ) (current other : D) → IsChosen (reads (if b then other else current)) (reads (if b then current else other)) b version generation → Only (if b then other else current) → Only (if b then current else other)
      → IsAtRest b generation (reads current) (reads other) (images current (moment current)) (images other (moment other))
  by_roles true version generation current other chosen main alt = record { version = version; own = generation; chosen = chosen; same = refl; current_only = alt; other_only = main }
  by_roles false version generation current other chosen main alt = record { version = version; own = generation; chosen = chosen; same = refl; current_only = main; other_only = alt }

  pub roles_rest : (b b' : Bool) (version generation generation' : ℕ) (main alt current other : D) (was was' : List ℕ) → (if b then other else current) ≡ main → (if b then current else other) ≡ alt → b ≡ b' → generation ≡ generation' → reads main ≡ was → reads alt ≡ was'
      → IsChosen was was' b' version generation' → Only main → Only alt → IsAtRest b generation (reads current) (reads other) (images current (moment current)) (images other (moment other))
  roles_rest b b' version generation generation' main alt current other was was' one two same_b same_g reads_is reads_is' chosen only only' =
      by_roles b version generation current other
      (rw (one, two, reads_is, reads_is', same_b, same_g) chosen)
      (subst Only (sym one) only) (subst Only (sym two) only')
