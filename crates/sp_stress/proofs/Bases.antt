-- The records at opening stay while a script of commands is played.
use Rattle.std.proofs.Common.{◌≡◌, ℕ, List, [], ◌∷◌, ◌++◌, refl, ◌∙◌}
use Rattle.sp_rect.specs.declared.operation.Op.{Op}
use Rattle.sp_event.specs.declared.event.Event.{Event}
use Rattle.sp_event.specs.declared.event.Event.TheVariants.{Begin, Start, Commit, Flush, Clean, Rollback}
use Rattle.sp_event.specs.declared.answer.Answer.{Answer}
use Rattle.sp_event.specs.declared.answer.Answer.TheVariants.{Started, Wrote, Durable, Queued, RolledBack}
use Rattle.sp_event.specs.declared.step.Step.{Step}
use Rattle.sp_text.specs.declared.types.Command.{Command}
use Rattle.sp_text.specs.declared.types.Item.{Item}
use Rattle.sp_text.specs.declared.types.End.{End}
use Rattle.sp_text.specs.declared.types.End.TheVariants.{Input, Usage, ReadFault, WriteFault, DiskFault, Foreign, Damaged, Memory, Long}
use Rattle.sp_model.specs.State.{Kernel}
use Rattle.sp_kernel.specs.Answers.{Answers, Histories}
use Rattle.sp_kernel.proofs.Going.{history_base}
use Rattle.sp_desk.specs.declared.point.Point.{Point}
use Rattle.sp_desk.specs.declared.point.Point.TheVariants.{Object}
use Rattle.sp_desk.specs.declared.stalled.Stalled.{Stalled}
use Rattle.sp_desk.specs.Points.{event_at}
use Rattle.sp_desk.specs.Working.{Reaches, Proceeds, Operates}
use Rattle.sp_desk.specs.Committing.{Writes, Stores, Queues, Commits}
use Rattle.sp_desk.specs.Cleaning.{Cleans}
use Rattle.sp_desk.specs.Playing.{Does, Turn, Plays}
use Rattle.sp_desk.specs.Script.{PlaysTo, PlaysUpTo, PlaysPart}

answer_base : (k : Kernel) (event : Event) (answer : Answer) (after : Kernel) → Answers k event answer after → after.base ≡ k.base
answer_base k event answer after h =
    let step : Step = record { event = event; answer = answer } in
    history_base k ([] ++ step ∷ []) after (Histories.Goes k [] step Histories.Stays h)

reaches_base : (s : ℕ) (from : Point) (k : Kernel) (at : Point) (n : Kernel) → Reaches s from k at n → n.base ≡ k.base
reaches_base s from k _ _ Reaches.Stays = refl
reaches_base s from k _ _ (Reaches.Goes {point} {m} r answer next n h e) = answer_base m (event_at s point) answer n h ∙ reaches_base s from k point m r

proceeds_base : (s : ℕ) (from : Point) (k : Kernel) (answer : Answer) (at : Point) (n : Kernel) → Proceeds s from k answer at n → n.base ≡ k.base
proceeds_base s from k answer at n p = answer_base p.before (event_at s at) answer n p.answered ∙ reaches_base s from k at p.before p.reaches

operates_base : (s : ℕ) (op : Op) (k : Kernel) (answer : Answer) (at : Point) (n : Kernel) → Operates s op k answer at n → n.base ≡ k.base
operates_base s op k _ _ _ (Operates.IsRefused answer at n h other) = answer_base k (Start s op) answer n h
operates_base s op k _ _ _ (Operates.IsStarted started answer at n h p) = proceeds_base s Object started answer at n p ∙ answer_base k (Start s op) Started started h

writes_base : (k n : Kernel) → Writes k n → n.base ≡ k.base
writes_base k _ Writes.Stays = refl
writes_base k _ (Writes.Goes {m} w n h) = answer_base m Flush Wrote n h ∙ writes_base k m w

stores_base : (k n : Kernel) → Stores k n → n.base ≡ k.base
stores_base k n p = answer_base p.before Flush (Durable p.first p.count) n p.durable ∙ writes_base k p.before p.writes

queues_base : (s : ℕ) (k n : Kernel) → Queues s k n → n.base ≡ k.base
queues_base s k _ Queues.Stays = refl
queues_base s k _ (Queues.Goes {m} q queued n h stores) = stores_base queued n stores ∙ answer_base m (Commit s) Queued queued h ∙ queues_base s k m q

commits_base : (s : ℕ) (k : Kernel) (answer : Answer) (n : Kernel) → Commits s k answer n → n.base ≡ k.base
commits_base s k answer n c = answer_base c.before (Commit s) answer n c.answered ∙ queues_base s k c.before c.queues

cleans_base : (k : Kernel) (count : ℕ) (n : Kernel) → Cleans k count n → n.base ≡ k.base
cleans_base k _ _ Cleans.Stays = refl
cleans_base k _ _ (Cleans.Goes {count} {m} c answer n h free) = answer_base m Clean answer n h ∙ cleans_base k count m c

does_base : (s : ℕ) (k : Kernel) (w : List Stalled) (command : Command) (answer : Answer) (n : Kernel) (v : List Stalled) → Does s k w command answer n v → n.base ≡ k.base
does_base s k w _ _ _ _ (Does.Begins answer n h) = answer_base k (Begin s) answer n h
does_base s k w _ _ _ _ (Does.Operating op answer n v d) = operates_base s op k answer d.at n d.operates
does_base s k w _ _ _ _ (Does.Committing answer n c) = commits_base s k answer n c
does_base s k w _ _ _ _ (Does.RollsBack answer n h) = answer_base k (Rollback s) answer n h

plays_base : (k : Kernel) (w : List Stalled) (turn : Turn) (items : List Item) (n : Kernel) (v : List Stalled) (to : Turn) → Plays k w turn items n v to → n.base ≡ k.base
plays_base k w turn _ _ _ _ Plays.Stays = refl
plays_base k w turn _ _ _ _ (Plays.HearsBad {items} {m} {w = u} p session bad) = plays_base k w turn items m u Turn.Hearing p
plays_base k w turn _ _ _ _ (Plays.Hears {items} {m} {w = u} p s command answer n v does free) =
    does_base s m u command answer n v does ∙ plays_base k w turn items m u Turn.Hearing p
plays_base k w turn _ _ _ _ (Plays.GoesOn {items} {m} {w = u} p place x answer at n wakes free) =
    proceeds_base x.session x.point m answer at n wakes.proceeds ∙ plays_base k w turn items m u Turn.GoingOn p
plays_base k w turn _ _ _ _ (Plays.Rests {items} {m} {w = u} p wait n cleans) = cleans_base m _ n cleans ∙ plays_base k w turn items m u Turn.GoingOn p
plays_base k w turn _ _ _ _ (Plays.Ends {items} {m} {w = u} p) = plays_base k w turn items m u Turn.Hearing p
plays_base k w turn _ _ _ _ (Plays.Closes {items} {m} {w = u} p s n over answers) =
    answer_base m (Rollback s) RolledBack n answers ∙ plays_base k w turn items m u Turn.Closing p

up_to_base : (turn : Turn) (k : Kernel) (items : List Item) (n : Kernel) → PlaysUpTo turn k items n → n.base ≡ k.base
up_to_base turn k items n p = plays_base k [] Turn.Hearing items n p.waiting turn p.plays

part_base : (k : Kernel) (items : List Item) (n : Kernel) → PlaysPart k items n → n.base ≡ k.base
part_base k items n p = history_base p.reached p.behind.steps n p.behind.history ∙ up_to_base p.turn k items p.reached p.plays

-- by every end
pub played_base : (end : End) (k : Kernel) (items : List Item) (n : Kernel) → PlaysTo end k items n → n.base ≡ k.base
played_base Input k items n p = up_to_base Turn.Closing k items n p
played_base ReadFault k items n p = up_to_base Turn.Hearing k items n p
played_base Long k items n p = up_to_base Turn.Hearing k items n p
played_base WriteFault k items n p = up_to_base p.0 k items n p.1
played_base DiskFault k items n p = part_base k items n p
played_base Memory k items n p = part_base k items n p
played_base Usage k items n p = absurd p
played_base Foreign k items n p = absurd p
played_base (Damaged offset) k items n p = absurd p
