-- What each call of the disk makes of a journal that stands.
use Rattle.std.proofs.Common.{◌≡◌, ◌≢◌, ◌+◌, ◌^◌, ◌≤◌, ℕ, Bool, true, false, List, [], ◌∷◌, ◌++◌, length, Some, None, refl, sym, ◌∙◌, ap, subst, arith, append_assoc, length-append}
use Rattle.std.proofs.lemmas.List.{append-nil}
use Rattle.sp_disk.specs.Files.{put, Torn}
use Rattle.sp_rect.specs.declared.record.Record.{Record}
use Rattle.sp_plain.specs.declared.change.Change.{Change}
use Rattle.sp_plain.specs.Taking.{taken, can_change, left_by}
use Rattle.sp_journal.specs.declared.types.Call.TheVariants.{Wrote, Durable}
use Rattle.sp_journal.specs.declared.work.Phase.{Phase}
use Rattle.sp_journal.specs.declared.work.Phase.TheVariants.{Ready, Written, Settled, Opened, Broken}
use Rattle.sp_journal.specs.declared.work.Work.{Work}
use Rattle.sp_journal.specs.Format.{u32_bytes, header_bytes, body_bytes, batch_bytes, framed, AllChanges}
use Rattle.sp_journal.specs.Recovery.{Base, head, all_changes}
use Rattle.sp_journal.specs.Standing.{Ledger, applied, with_entry, IsBefore, IsBeforeOrAfter, Lies, IsInFlight, IsNext, Stands, Keeps, turned, queued_behind}
use Rattle.sp_journal.proofs.Bounds.{commits_push}
use Rattle.sp_journal.proofs.Chunks.{length-u32}
use Rattle.sp_journal.specs.Kinds.{KeepsOneOf}
use Rattle.sp_journal.proofs.Kinding.{keeps_behind, header_behind}
use Rattle.sp_journal.proofs.Crashes.{applied_is, closed_gate, any_gate, longer, opened, torn_behind, torn_gate, put_behind, put_gate}

pub all_append : (xs ys : List (List Change)) → all_changes (xs ++ ys) ≡ all_changes xs ++ all_changes ys
all_append [] ys = refl
all_append (x ∷ xs) ys = ap (λ (l : List Change). x ++ l) (all_append xs ys) ∙ sym (append_assoc x (all_changes xs) (all_changes ys))

-- the first of two lists of changes can be made, and then the second
both_apply : (xs ys : List Change) (before after : List Record) → taken (xs ++ ys) before ≡ Some after → (mid : List Record) × (taken xs before ≡ Some mid) × (taken ys mid ≡ Some after)
both_apply [] ys before after is = (before, refl, is)
both_apply (x ∷ xs) ys before after is = by_test (can_change x before) refl (both_apply xs ys (left_by x before) after)
  where
    by_test : (b : Bool) → can_change x before ≡ b → (taken (xs ++ ys) (left_by x before) ≡ Some after → (mid : List Record) × (taken xs (left_by x before) ≡ Some mid) × (taken ys mid ≡ Some after))
        → (mid : List Record) × (taken (x ∷ xs) before ≡ Some mid) × (taken ys mid ≡ Some after)
    by_test true can more = let rest = more (rw can at is) in (rest.0, rw can rest.1, rest.2)
    by_test false cannot more = let no_way : None ≡ Some after = rw cannot at is in cc

pub flight_applies : (ledger : Ledger) (after : List Record) → taken (all_changes (ledger.flight ++ ledger.queued)) ledger.base.found.records ≡ Some after
    → (mid : List Record) × (taken (all_changes ledger.flight) ledger.base.found.records ≡ Some mid) × (taken (all_changes ledger.queued) mid ≡ Some after)
flight_applies ledger after is =
    both_apply (all_changes ledger.flight) (all_changes ledger.queued) ledger.base.found.records after (ap (λ l. taken l ledger.base.found.records) (sym (all_append ledger.flight ledger.queued)) ∙ is)

length-framed : (commits : List (List Change)) → length (framed commits) ≡ length (batch_bytes commits) + 5
unfolding body_bytes
length-framed commits = omega (arith, length-append (u32_bytes (length (batch_bytes commits)) ++ batch_bytes commits) (0 ∷ []), length-append (u32_bytes (length (batch_bytes commits))) (batch_bytes commits), length-u32 (length (batch_bytes commits)))

length-entry : (base : Base) (commits : List (List Change)) → length (head (with_entry base commits)) ≡ length (head base) + length (framed commits)
length-entry base commits =
    let H : List ℕ = header_bytes base.version base.generation in let B : List ℕ = body_bytes (batch_bytes commits) in
    omega (arith, length-append H (base.front ++ 1 ∷ B), length-append base.front (1 ∷ B), length-append H base.front, length-append B (0 ∷ []))

zero≢1 : let zero_gate : ℕ = 0 in zero_gate ≢ 1
zero≢1 e = omega arith

-- what is queued says nothing of the file
same_file : (phase : Phase) (ledger : Ledger) (changes : List Change) (reads : List ℕ) (leaves : List ℕ → Type 0) → Lies phase ledger reads leaves → Lies phase (queued_behind ledger changes) reads leaves
same_file Ready ledger changes reads leaves lies = lies
same_file Written ledger changes reads leaves lies = lies
same_file Settled ledger changes reads leaves lies = lies
same_file Opened ledger changes reads leaves lies = lies
same_file Broken ledger changes reads leaves lies = lies

-- what a stop leaves in each phase
module _ (reads : List ℕ) (leaves : List ℕ → Type 0) (work : Work) (ledger : Ledger) (stands : Stands reads leaves work ledger) where
  lies : (phase : Phase) → work.phase ≡ phase → Lies phase ledger reads leaves
  lies phase is = subst (λ p. Lies p ledger reads leaves) is stands.file

  flies : (phase : Phase) → work.phase ≡ phase → IsInFlight phase ledger.flight
  flies phase is = subst (λ p. IsInFlight p ledger.flight) is stands.in_flight

  follows : (phase : Phase) → work.phase ≡ phase → IsNext phase work.end work.next (length work.flight.items)
  follows phase is = subst (λ p. IsNext p work.end work.next (length work.flight.items)) is stands.next

  pub ready_leaves : work.phase ≡ Ready → (file : List ℕ) → leaves file → IsBefore ledger file
  ready_leaves is file left = let at = lies Ready is in closed_gate ledger.base at.0 at.1 file stands.base at.2 (at.4 file left ∙ at.3)

  pub written_leaves : work.phase ≡ Written → (file : List ℕ) → leaves file → IsBefore ledger file
  written_leaves is file left = let at = lies Written is in let rest = at.4 file left in closed_gate ledger.base at.0 rest.0 file stands.base at.2 rest.1

  pub settled_leaves : work.phase ≡ Settled → (file : List ℕ) → leaves file → IsBefore ledger file
  settled_leaves is file left = let at = lies Settled is in closed_gate ledger.base at.0 (framed ledger.flight ++ at.1) file stands.base at.2 (at.4 file left ∙ at.3)

  pub opened_leaves : work.phase ≡ Opened → (file : List ℕ) → leaves file → IsBeforeOrAfter ledger file
  opened_leaves is file left =
      let at = lies Opened is in let gate = at.2 file left in let applies = flight_applies ledger stands.records stands.apply in
      any_gate ledger gate.0 at.0 file applies.0 stands.base stands.settled (flies Opened is) applies.1 gate.1

  -- the body is written: what a stop leaves then
  body_images : work.phase ≡ Ready → (n : ℕ) (later : List ℕ → Type 0) → ((file : List ℕ) → later file → (was : List ℕ) × leaves was × Torn (work.end + 1) n was file)
      → (at : (gate : ℕ) × (tail : List ℕ) × (gate ≢ 1) × (reads ≡ head ledger.base ++ gate ∷ tail) × ((file : List ℕ) → leaves file → file ≡ reads))
      → (file : List ℕ) → later file → (rest : List ℕ) × (file ≡ head ledger.base ++ at.0 ∷ rest)
  body_images is n later torn at file left =
      let from = torn file left in
      torn_behind (head ledger.base) at.0 at.1 n from.0 file (at.4 from.0 from.1 ∙ at.3) (subst (λ (e : ℕ). Torn (e + 1) n from.0 file) stands.end from.2)

  pub body_before : work.phase ≡ Ready → (n : ℕ) (later : List ℕ → Type 0) → ((file : List ℕ) → later file → (was : List ℕ) × leaves was × Torn (work.end + 1) n was file)
      → (file : List ℕ) → later file → IsBefore ledger file
  body_before is n later torn file left =
      let at = lies Ready is in let got = body_images is n later torn at file left in
      closed_gate ledger.base at.0 got.0 file stands.base at.2 got.1

  -- and it keeps the kind and the header of the file
  pub body_keeps : work.phase ≡ Ready → (n : ℕ) (was file : List ℕ) → leaves was → Torn (work.end + 1) n was file → KeepsOneOf leaves file
  body_keeps is n was file left torn =
      let at = lies Ready is in
      let was_stands = at.4 was left ∙ at.3 in
      let got = torn_behind (head ledger.base) at.0 at.1 n was file was_stands (subst (λ (e : ℕ). Torn (e + 1) n was file) stands.end torn) in
      record {
        was = was;
        left = left;
        keeps = keeps_behind ledger.base at.0 at.0 at.1 got.0 was file stands.base stands.settled was_stands got.1 torn.no_shorter;
        header = header_behind ledger.base at.0 at.0 at.1 got.0 was file was_stands got.1;
      }

  -- the work goes on in another phase
  pub moved : (new : Work) (reads' : List ℕ) (leaves' : List ℕ → Type 0) (phase : Phase) → Keeps work new → new.phase ≡ phase → IsNext phase work.end work.next (length work.flight.items)
      → IsInFlight phase ledger.flight → Lies phase ledger reads' leaves' → Stands reads' leaves' new ledger
  moved new reads' leaves' phase keeps is next flight file = record {
    base = stands.base;
    settled = stands.settled;
    end = keeps.end ∙ stands.end;
    next = subst (λ p. IsNext p new.end new.next (length new.flight.items)) (sym is) (rw (keeps.end, keeps.next, keeps.flight) next);
    flight_bytes = keeps.flight ∙ stands.flight_bytes;
    flying = keeps.flying ∙ stands.flying;
    in_flight = subst (λ p. IsInFlight p ledger.flight) (sym is) flight;
    queued_bytes = keeps.queued ∙ stands.queued_bytes;
    commits = keeps.commits ∙ stands.commits;
    each = stands.each;
    records = stands.records;
    apply = stands.apply;
    file = subst (λ p. Lies p ledger reads' leaves') (sym is) file;
  }

  -- the body is written
  pub body_written : (new : Work) (reads' : List ℕ) (leaves' : List ℕ → Type 0) → work.phase ≡ Ready → 1 ≤ work.commits → reads' ≡ put reads (work.end + 1) work.queued.items
      → ((file : List ℕ) → leaves' file → (was : List ℕ) × leaves was × Torn (work.end + 1) (length work.queued.items) was file)
      → new.flight.items ≡ work.queued.items → new.flying ≡ work.commits → new.queued.items ≡ framed [] → new.commits ≡ 0 → new.end ≡ work.end → new.next ≡ work.end + length work.queued.items → new.phase ≡ Written
      → Stands reads' leaves' new (turned Ready Wrote ledger)
  body_written new reads' leaves' is some written torn flight flying queued commits end next phase =
      let at = lies Ready is in
      let none : ledger.flight ≡ [] = flies Ready is in
      let only : ledger.flight ++ ledger.queued ≡ ledger.queued ++ [] = ap (λ l. l ++ ledger.queued) none ∙ sym (append-nil ledger.queued) in
      let behind = put_behind (head ledger.base) at.0 at.1 work.queued.items reads at.3 in
      let reads_is : reads' ≡ head ledger.base ++ at.0 ∷ (framed ledger.queued ++ behind.0) =
      written ∙ ap (λ (e : ℕ). put reads (e + 1) work.queued.items) stands.end ∙ behind.1 ∙ ap (λ (l : List ℕ). head ledger.base ++ at.0 ∷ (l ++ behind.0)) stands.queued_bytes in
      record {
        base = stands.base;
        settled = stands.settled;
        end = end ∙ stands.end;
        next = subst (λ p. IsNext p new.end new.next (length new.flight.items)) (sym phase) (rw (end, flight) next);
        flight_bytes = flight ∙ stands.queued_bytes;
        flying = flying ∙ stands.commits;
        in_flight = subst (λ p. IsInFlight p ledger.queued) (sym phase) (record {
          some = omega (arith, some, stands.commits);
          count = omega (arith, stands.commits, work.few_commits, work.few_changes);
          each = stands.each;
          size = omega (arith, length-framed ledger.queued, ap length stands.queued_bytes, work.queued_short, work.few_changes);
        });
        queued_bytes = queued;
        commits = commits;
        each = tt;
        records = stands.records;
        apply = ap (λ l. taken (all_changes l) ledger.base.found.records) (sym only) ∙ stands.apply;
        file = subst (λ p. Lies p (turned Ready Wrote ledger) reads' leaves') (sym phase) (at.0, behind.0, at.2, reads_is, body_images is (length work.queued.items) leaves' torn at);
      }

  -- the body is settled
  pub body_settled : (new : Work) (reads' : List ℕ) (leaves' : List ℕ → Type 0) → work.phase ≡ Written → reads' ≡ reads → ((file : List ℕ) → leaves' file → file ≡ reads) → Keeps work new → new.phase ≡ Settled
      → Stands reads' leaves' new ledger
  body_settled new reads' leaves' is same settles keeps phase =
      let at = lies Written is in
      moved new reads' leaves' Settled keeps phase (follows Written is) (flies Written is) (at.0, at.1, at.2, same ∙ at.3, λ file left. settles file left ∙ sym same)

  -- what a stop leaves while the gate is written
  gate_images : work.phase ≡ Settled → (leaves' : List ℕ → Type 0) → ((file : List ℕ) → leaves' file → (was : List ℕ) × leaves was × Torn work.end 1 was file)
      → (at : (gate : ℕ) × (tail : List ℕ) × (gate ≢ 1) × (reads ≡ head ledger.base ++ gate ∷ (framed ledger.flight ++ tail)) × ((file : List ℕ) → leaves file → file ≡ reads))
      → (file : List ℕ) → leaves' file → (gate : ℕ) × (file ≡ head ledger.base ++ gate ∷ (framed ledger.flight ++ at.1))
  gate_images is leaves' torn at file left =
      let from = torn file left in
      torn_gate (head ledger.base) at.0 (framed ledger.flight ++ at.1) from.0 file (at.4 from.0 from.1 ∙ at.3) (subst (λ (e : ℕ). Torn e 1 from.0 file) stands.end from.2)

  pub gate_keeps : work.phase ≡ Settled → (was file : List ℕ) → leaves was → Torn work.end 1 was file → KeepsOneOf leaves file
  gate_keeps is was file left torn =
      let at = lies Settled is in
      let was_stands = at.4 was left ∙ at.3 in
      let got = torn_gate (head ledger.base) at.0 (framed ledger.flight ++ at.1) was file was_stands (subst (λ (e : ℕ). Torn e 1 was file) stands.end torn) in
      record {
        was = was;
        left = left;
        keeps = keeps_behind ledger.base at.0 got.0 (framed ledger.flight ++ at.1) (framed ledger.flight ++ at.1) was file stands.base stands.settled was_stands got.1 torn.no_shorter;
        header = header_behind ledger.base at.0 got.0 (framed ledger.flight ++ at.1) (framed ledger.flight ++ at.1) was file was_stands got.1;
      }

  pub gate_leaves : work.phase ≡ Settled → (leaves' : List ℕ → Type 0) → ((file : List ℕ) → leaves' file → (was : List ℕ) × leaves was × Torn work.end 1 was file) → (file : List ℕ) → leaves' file → IsBeforeOrAfter ledger file
  gate_leaves is leaves' torn file left =
      let at = lies Settled is in let gate = gate_images is leaves' torn at file left in let applies = flight_applies ledger stands.records stands.apply in
      any_gate ledger gate.0 at.1 file applies.0 stands.base stands.settled (flies Settled is) applies.1 gate.1

  -- the gate is open
  pub gate_opened : (new : Work) (reads' : List ℕ) (leaves' : List ℕ → Type 0) → work.phase ≡ Settled → reads' ≡ put reads work.end (1 ∷ [])
      → ((file : List ℕ) → leaves' file → (was : List ℕ) × leaves was × Torn work.end 1 was file) → Keeps work new → new.phase ≡ Opened → Stands reads' leaves' new ledger
  gate_opened new reads' leaves' is written torn keeps phase =
      let at = lies Settled is in
      let reads_is = written ∙ ap (λ (e : ℕ). put reads e (1 ∷ [])) stands.end ∙ put_gate (head ledger.base) at.0 1 (framed ledger.flight ++ at.1) reads at.3 in
      moved new reads' leaves' Opened keeps phase (follows Settled is) (flies Settled is) (at.1, reads_is, gate_images is leaves' torn at)

  -- the batch is an entry
  pub landed : (new : Work) (reads' : List ℕ) (leaves' : List ℕ → Type 0) (n : ℕ) → work.phase ≡ Opened → reads' ≡ reads → ((file : List ℕ) → leaves' file → file ≡ reads)
      → new.flight.items ≡ framed [] → new.flying ≡ 0 → new.queued.items ≡ work.queued.items → new.commits ≡ work.commits → new.end ≡ work.next → new.phase ≡ Ready
      → Stands reads' leaves' new (turned Opened (Durable n) ledger)
  landed new reads' leaves' n is same settles flight flying queued commits end phase =
      let at = lies Opened is in
      let applies = flight_applies ledger stands.records stands.apply in
      let mid : applies.0 ≡ applied (all_changes ledger.flight) ledger.base.found.records = applied_is (all_changes ledger.flight) ledger.base.found.records applies.0 applies.1 in
      let next : work.next ≡ work.end + length work.flight.items = follows Opened is in
      let front : List ℕ = ledger.base.front in
      let size = length-entry ledger.base ledger.flight in
      record {
        base = longer ledger.base ledger.flight applies.0 stands.base stands.settled (flies Opened is) applies.1;
        settled = λ g. omega (arith, length-append front (1 ∷ body_bytes (batch_bytes ledger.flight)));
        end = end ∙ next ∙ omega (arith, stands.end, ap length stands.flight_bytes, size);
        next = subst (λ p. IsNext p new.end new.next (length new.flight.items)) (sym phase) tt;
        flight_bytes = flight;
        flying = flying;
        in_flight = subst (λ p. IsInFlight p []) (sym phase) refl;
        queued_bytes = queued ∙ stands.queued_bytes;
        commits = commits ∙ stands.commits;
        each = stands.each;
        records = stands.records;
        apply = ap (λ r. taken (all_changes ledger.queued) r) (sym mid) ∙ applies.2;
        file = subst (λ p. Lies p (turned Opened (Durable n) ledger) reads' leaves') (sym phase) (0, at.0, zero≢1, same ∙ at.1 ∙ opened ledger.base ledger.flight 1 at.0 refl, λ file left. settles file left ∙ sym same);
      }

  -- the disk has failed
  pub broken : (new : Work) (reads' : List ℕ) (leaves' : List ℕ → Type 0) → Keeps work new → new.phase ≡ Broken → ((file : List ℕ) → leaves' file → IsBeforeOrAfter ledger file) → Stands reads' leaves' new ledger
  broken new reads' leaves' keeps phase left = moved new reads' leaves' Broken keeps phase tt tt left

  -- a commit more is queued
  pub commit_queued : (new : Work) (changes : List Change) (after : List Record) → taken (all_changes (ledger.flight ++ (ledger.queued ++ changes ∷ []))) ledger.base.found.records ≡ Some after
      → 1 ≤ length changes → length changes ≤ 2 ^ 20 → AllChanges changes → new.queued.items ≡ framed (ledger.queued ++ changes ∷ []) → new.commits ≡ work.commits + 1
      → new.flight ≡ work.flight → new.flying ≡ work.flying → new.end ≡ work.end → new.next ≡ work.next → new.phase ≡ work.phase → Stands reads leaves new (queued_behind ledger changes)
  commit_queued new changes after applies some few valid queued commits flight flying end next phase =
      let bytes = ap (λ v. v.items) flight in
      record {
        base = stands.base;
        settled = stands.settled;
        end = end ∙ stands.end;
        next = subst (λ p. IsNext p new.end new.next (length new.flight.items)) (sym phase) (rw (end, next, bytes) stands.next);
        flight_bytes = bytes ∙ stands.flight_bytes;
        flying = flying ∙ stands.flying;
        in_flight = subst (λ p. IsInFlight p ledger.flight) (sym phase) stands.in_flight;
        queued_bytes = queued;
        commits = omega (arith, commits, stands.commits, length-append ledger.queued (changes ∷ []));
        each = commits_push ledger.queued changes stands.each (record { some = some; count = omega (arith, few); each = valid });
        records = after;
        apply = applies;
        file = subst (λ p. Lies p (queued_behind ledger changes) reads leaves) (sym phase) (same_file work.phase ledger changes reads leaves stands.file);
      }
