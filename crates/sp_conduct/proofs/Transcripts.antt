-- Item by item, what a script is told fits what it was told before.
use Rattle.std.proofs.Common.{◌≡◌, ◌≢◌, ℕ, ◌+◌, Bool, true, false, List, [], ◌∷◌, ◌++◌, None, refl, sym, ap, ◌∙◌, subst}
use Rattle.std.specs.List.{remove}
use Rattle.sp_rect.specs.declared.record.Record.{Record}
use Rattle.sp_node.specs.declared.node.Shape.{Shape}
use Rattle.sp_event.specs.declared.event.Event.TheVariants.{Rollback as RollbackEvent}
use Rattle.sp_event.specs.declared.answer.Answer.{Answer}
use Rattle.sp_event.specs.declared.answer.Answer.TheVariants.{RolledBack}
use Rattle.sp_text.specs.Transcripts.{ledger}
use Rattle.sp_text.specs.declared.types.Command.{Command}
use Rattle.sp_text.specs.declared.types.Command.TheVariants.{Begin, Do, Commit, Rollback}
use Rattle.sp_text.specs.declared.types.Item.{Item}
use Rattle.sp_text.specs.declared.types.Item.TheVariants.{Bad, Told}
use Rattle.sp_text.specs.declared.types.End.{End}
use Rattle.sp_text.specs.declared.types.End.TheVariants.{Input, Usage, ReadFault, WriteFault, DiskFault, Foreign, Damaged, Memory as OutOfMemory, Long}
use Rattle.sp_model.specs.State.{Kernel, session_at}
use Rattle.sp_model.specs.Opening.{IsOpened}
use Rattle.sp_model.specs.Soundness.{Sound}
use Rattle.sp_model.proofs.Dead.{distinct-empty}
use Rattle.sp_event.specs.declared.step.Step.{Step}
use Rattle.sp_kernel.specs.Answers.{Answers, Histories}
use Rattle.sp_desk.specs.declared.point.Point.{Point}
use Rattle.sp_desk.specs.declared.stalled.Stalled.{Stalled as Waiter}
use Rattle.sp_desk.specs.Cleaning.{fault_in, Cleans}
use Rattle.sp_desk.specs.Waiting.{Wakes, stalled_by}
use Rattle.sp_desk.specs.Playing.{Turn, Plays, Does, AreOver}
use Rattle.sp_desk.specs.Script.{PlaysUpTo, PlaysTo}
use Rattle.sp_desk.proofs.Accounting.{Stands, plays_stand}
use Rattle.sp_conduct.specs.Standing.{Standing, standing}
use Rattle.sp_conduct.specs.Fitting.{Scene, CommandFits, LateFits}
use Rattle.sp_conduct.specs.Transcript.{begun, scene, Fits, IsConducted, IsClosed}
use Rattle.sp_conduct.proofs.Counts.{base_kept}
use Rattle.sp_conduct.proofs.Resting.{Rests, AreWaiting, Leaves, scene_in}
use Rattle.sp_conduct.proofs.Items.{standing_more, next_told, next_bad, conducted_none, conducted_more}
use Rattle.sp_conduct.proofs.Scenes.{scene_same}
use Rattle.sp_conduct.proofs.Commands.{begin_fits, rollback_fits, commit_fits, cleans_rest, closing_fits, over_is_out}
use Rattle.sp_conduct.proofs.Operations.{operation_fits, waking_fits}

history_based : (m : Kernel) (steps : List Step) (n : Kernel) → Histories m steps n → n.base ≡ m.base
history_based m _ _ Histories.Stays = refl
history_based m _ _ (Histories.Goes between steps step history answers) = base_kept between step.event step.answer _ answers ∙ history_based m steps between history

-- After some items: every session stands as they tell, those that wait are the ones that go on, and each item fits those before it.
pub record Conducts (records : List Record) (items : List Item) (m : Kernel) (w : List Waiter) (turn : Turn) : Type 0 where
  pub rests : Rests m (standing items)
  pub waiting : turn ≢ Turn.Closing → AreWaiting m w
  pub next : m.next_txn ≡ begun items + 1
  pub base : m.base ≡ records
  pub conducted : IsConducted records items

hearing_open : Turn.Hearing ≢ Turn.Closing
hearing_open h = cc

going_open : Turn.GoingOn ≢ Turn.Closing
going_open h = cc

module _ (records : List Record) where
  -- a command was answered, and those that wait are these now
  told : (items : List Item) (m n : Kernel) (w v : List Waiter) (turn after : Turn) (s : ℕ) (command : Command) (answer : Answer) (late : Bool) → Conducts records items m w turn
      → Fits records items (Told s command answer late) → Leaves m n (standing items) s command answer → (after ≢ Turn.Closing → AreWaiting n v) → Conducts records (items ++ Told s command answer late ∷ []) n v after
  told items m n w v turn after s command answer late c fits leaves waiting = record {
    rests = subst (λ (at : ℕ → Standing). Rests n at) (sym (standing_more items (Told s command answer late))) leaves.rests;
    waiting = waiting;
    next = leaves.next ∙ next_told items s command answer late m.next_txn c.next;
    base = leaves.base ∙ c.base;
    conducted = conducted_more records items (Told s command answer late) c.conducted fits;
  }

  bad : (items : List Item) (m : Kernel) (w : List Waiter) (item : Item) → standing (items ++ item ∷ []) ≡ standing items → begun (item ∷ []) ≡ 0 → Fits records items item
      → Conducts records items m w Turn.Hearing → Conducts records (items ++ item ∷ []) m w Turn.Hearing
  bad items m w item same none fits c = record {
    rests = subst (λ (at : ℕ → Standing). Rests m at) (sym same) c.rests;
    waiting = c.waiting;
    next = next_bad items item m.next_txn none c.next;
    base = c.base;
    conducted = conducted_more records items item c.conducted fits;
  }

module _ (shape : Shape) (records : List Record) (k : Kernel) (opened : IsOpened shape records k) (sound : Sound k) where
  -- what a line meets is what the kernel has
  meets : (items : List Item) (m : Kernel) (w : List Waiter) (turn : Turn) → Conducts records items m w turn → Stands k.commits (ledger items) m w turn → scene_in m (standing items) ≡ scene records items
  meets items m w turn c stands = scene_same records items k.commits m stands.agrees.commits opened.commits c.base c.next

  module _ (items : List Item) (m : Kernel) (w : List Waiter) where
    module _ (c : Conducts records items m w Turn.Hearing) (stands : Stands k.commits (ledger items) m w Turn.Hearing) (s : ℕ) where
      heard : (command : Command) (answer : Answer) (n : Kernel) (v : List Waiter) → CommandFits (scene_in m (standing items)) s command answer → Leaves m n (standing items) s command answer → AreWaiting n v
          → Conducts records (items ++ Told s command answer false ∷ []) n v Turn.GoingOn
      heard command answer n v fits leaves waiting =
          told records items m n w v Turn.Hearing Turn.GoingOn s command answer false c
          (subst (λ (sc : Scene). CommandFits sc s command answer) (meets items m w Turn.Hearing c stands) fits) leaves (λ other. waiting)

      does_conduct : (command : Command) (answer : Answer) (n : Kernel) (v : List Waiter) → Does s m w command answer n v → fault_in answer ≡ None → Conducts records (items ++ Told s command answer false ∷ []) n v Turn.GoingOn
      does_conduct _ _ _ _ (Does.Begins answer n h) free =
          let p = begin_fits m stands.agrees.sound (standing items) c.rests w (c.waiting hearing_open) s answer n free h in
          heard Begin answer n w p.0 p.1 p.2
      does_conduct _ _ _ _ (Does.Operating op answer n v d) free =
          let p = operation_fits m stands.agrees.sound (standing items) c.rests w (c.waiting hearing_open) s op answer d.at n d.operates free in
          heard (Do op) answer n v p.0 p.1 (subst (AreWaiting n) (sym d.stalled) p.2)
      does_conduct _ _ _ _ (Does.Committing answer n commits) free =
          let p = commit_fits m stands.agrees.sound (standing items) c.rests w (c.waiting hearing_open) s answer n free stands.alone commits in
          heard Commit answer n w p.0 p.1 p.2
      does_conduct _ _ _ _ (Does.RollsBack answer n h) free =
          let p = rollback_fits m stands.agrees.sound (standing items) c.rests w (c.waiting hearing_open) s answer n free h in
          heard Rollback answer n _ p.0 p.1 p.2

    wakes_conduct : Conducts records items m w Turn.GoingOn → Stands k.commits (ledger items) m w Turn.GoingOn → (place : ℕ) (x : Waiter) (answer : Answer) (at : Point) (n : Kernel) → Wakes m w place x answer at n → fault_in answer ≡ None
        → Conducts records (items ++ Told x.session (Do x.op) answer true ∷ []) n (remove w place ++ stalled_by x.session x.op answer at) Turn.GoingOn
    wakes_conduct c stands place x answer at n wakes free =
        let p = waking_fits m stands.agrees.sound (standing items) c.rests w (c.waiting going_open) place x answer at n wakes free in
        told records items m n w _ Turn.GoingOn Turn.GoingOn x.session (Do x.op) answer true c
        (subst (λ (sc : Scene). LateFits sc x.session (Do x.op) answer) (meets items m w Turn.GoingOn c stands) p.0) p.1 (λ other. p.2)

    rests_conduct : Conducts records items m w Turn.GoingOn → Sound m → (n : Kernel) (count : ℕ) → Cleans m count n → Conducts records items n w Turn.Hearing
    rests_conduct c held n count cleans =
        let p = cleans_rest m held (standing items) c.rests w (c.waiting going_open) count n cleans in
        record { rests = p.0; waiting = λ other. p.1; next = p.2 ∙ c.next; base = p.3 ∙ c.base; conducted = c.conducted }

    closes_conduct : Conducts records items m w Turn.Closing → Sound m → (s : ℕ) (n : Kernel) → Answers m (RollbackEvent s) RolledBack n → Conducts records (items ++ Told s Rollback RolledBack true ∷ []) n w Turn.Closing
    closes_conduct c held s n h =
        let p = closing_fits m n (standing items) held c.rests s h in
        told records items m n w w Turn.Closing Turn.Closing s Rollback RolledBack true c (p.0, refl) p.1 (λ other. absurd (other refl))

  starts : Conducts records [] k [] Turn.Hearing
  starts = record {
    rests = λ v. ap (session_at v) opened.sessions;
    waiting = λ other. record { each = tt; once = distinct-empty };
    next = opened.next_txn;
    base = opened.base;
    conducted = conducted_none records;
  }

  stands_at : (items : List Item) (m : Kernel) (w : List Waiter) (turn : Turn) → Plays k [] Turn.Hearing items m w turn → Stands k.commits (ledger items) m w turn
  stands_at items m w turn p = plays_stand k sound opened.sessions items m w turn p

  pub plays_conduct : (items : List Item) (m : Kernel) (w : List Waiter) (turn : Turn) → Plays k [] Turn.Hearing items m w turn → Conducts records items m w turn
  plays_conduct _ _ _ _ Plays.Stays = starts
  plays_conduct _ _ _ _ (Plays.HearsBad {items} {m} {w} p session reason) =
      bad records items m w (Bad session reason) (standing_more items (Bad session reason)) refl tt (plays_conduct items m w Turn.Hearing p)
  plays_conduct _ _ _ _ (Plays.Hears {items} {m} {w} p s command answer n v does free) =
      does_conduct items m w (plays_conduct items m w Turn.Hearing p) (stands_at items m w Turn.Hearing p) s command answer n v does free
  plays_conduct _ _ _ _ (Plays.GoesOn {items} {m} {w} p place x answer at n wakes free) =
      wakes_conduct items m w (plays_conduct items m w Turn.GoingOn p) (stands_at items m w Turn.GoingOn p) place x answer at n wakes free
  plays_conduct _ _ _ _ (Plays.Rests {items} {m} {w} p wait n cleans) =
      rests_conduct items m w (plays_conduct items m w Turn.GoingOn p) (stands_at items m w Turn.GoingOn p).agrees.sound n _ cleans
  plays_conduct _ _ _ _ (Plays.Ends {items} {m} {w} p) =
      let c = plays_conduct items m w Turn.Hearing p in
      record { rests = c.rests; waiting = λ other. absurd (other refl); next = c.next; base = c.base; conducted = c.conducted }
  plays_conduct _ _ _ _ (Plays.Closes {items} {m} {w} p s n over h) =
      closes_conduct items m w (plays_conduct items m w Turn.Closing p) (stands_at items m w Turn.Closing p).agrees.sound s n h

  -- by every end
  up_to : (items : List Item) (turn : Turn) (n : Kernel) → PlaysUpTo turn k items n → IsConducted records items
  up_to items turn n p = (plays_conduct items n p.waiting turn p.plays).conducted

  pub conducted : (end : End) (items : List Item) (n : Kernel) → PlaysTo end k items n → IsConducted records items
  conducted Input items n p = up_to items Turn.Closing n p
  conducted ReadFault items n p = up_to items Turn.Hearing n p
  conducted Long items n p = up_to items Turn.Hearing n p
  conducted WriteFault items n p = up_to items p.0 n p.1
  conducted DiskFault items n p = up_to items p.turn p.reached p.plays
  conducted OutOfMemory items n p = up_to items p.turn p.reached p.plays
  conducted Usage items n p = absurd p
  conducted Foreign items n p = absurd p
  conducted (Damaged offset) items n p = absurd p

  -- the audit's records at the start stay these
  pub based : (end : End) (items : List Item) (n : Kernel) → PlaysTo end k items n → n.base ≡ records
  based Input items n p = (plays_conduct items n p.waiting Turn.Closing p.plays).base
  based ReadFault items n p = (plays_conduct items n p.waiting Turn.Hearing p.plays).base
  based Long items n p = (plays_conduct items n p.waiting Turn.Hearing p.plays).base
  based WriteFault items n p = (plays_conduct items n p.1.waiting p.0 p.1.plays).base
  based DiskFault items n p = history_based p.reached p.behind.steps n p.behind.history ∙ (plays_conduct items p.reached p.plays.waiting p.turn p.plays.plays).base
  based OutOfMemory items n p = history_based p.reached p.behind.steps n p.behind.history ∙ (plays_conduct items p.reached p.plays.waiting p.turn p.plays.plays).base
  based Usage items n p = absurd p
  based Foreign items n p = absurd p
  based (Damaged offset) items n p = absurd p

  -- at the end of the input nobody has a transaction
  pub closed : (items : List Item) (n : Kernel) (count : ℕ) → PlaysTo Input k items n → AreOver n count → IsClosed items count
  closed items n count p over s few = over_is_out n (standing items) (plays_conduct items n p.waiting Turn.Closing p.plays).rests s (over s few)
