-- Operations that go on from point to point.
use Rattle.std.proofs.Common.{◌≡◌, ◌≢◌, ℕ, suc, true, false, None, Some, refl, ap, ◌∙◌, subst}
use Rattle.sp_rect.specs.declared.operation.Op.{Op}
use Rattle.sp_event.specs.declared.event.Event.{Event}
use Rattle.sp_event.specs.declared.event.Event.TheVariants.{Start}
use Rattle.sp_event.specs.declared.answer.Answer.{Answer}
use Rattle.sp_event.specs.declared.answer.Answer.TheVariants.{Still, Started}
use Rattle.sp_locks.specs.declared.row.Name.{Name}
use Rattle.sp_model.specs.State.{Kernel}
use Rattle.sp_model.specs.Stepped.{Stepped}
use Rattle.sp_kernel.specs.Answers.{Answers}
use Rattle.sp_desk.specs.declared.point.Point.{Point}
use Rattle.sp_desk.specs.Points.{event_at, next_after}
use Rattle.sp_desk.specs.Working.{Reaches, Proceeds, Operates}
use Rattle.sp_desk.specs.Waiting.{says_still, still_waits}
use Rattle.sp_desk.specs.Cleaning.{fault_in}
use Rattle.sp_desk.proofs.Answering.{turned_by}

-- what was granted first, and then the others
reaches_front : (s : ℕ) (from next : Point) (k m : Kernel) (answer : Answer) → Answers k (event_at s from) answer m → next_after from answer ≡ Some next
    → (at : Point) (n : Kernel) → Reaches s next m at n → Reaches s from k at n
reaches_front s from next k m answer answers goes _ _ Reaches.Stays = Reaches.Goes Reaches.Stays answer next m answers goes
reaches_front s from next k m answer answers goes _ n (Reaches.Goes {point} {m = l} reaches a q _ h e) =
    Reaches.Goes (reaches_front s from next k m answer answers goes point l reaches) a q n h e

pub proceeds_front : (s : ℕ) (from next : Point) (k m : Kernel) (first answer : Answer) (at : Point) (n : Kernel) → Answers k (event_at s from) first m → next_after from first ≡ Some next
    → Proceeds s next m answer at n → Proceeds s from k answer at n
proceeds_front s from next k m first answer at n answers goes p = record {
  before = p.before;
  reaches = reaches_front s from next k m first answers goes at p.before p.reaches;
  answered = p.answered;
  over = p.over;
}

pub proceeds_once : (s : ℕ) (from : Point) (k : Kernel) (answer : Answer) (n : Kernel) → Answers k (event_at s from) answer n → next_after from answer ≡ None → Proceeds s from k answer from n
proceeds_once s from k answer n answers over = record { before = k; reaches = Reaches.Stays; answered = answers; over = over }

pub proceeds_then : (s : ℕ) (from at : Point) (k m : Kernel) (answer : Answer) (n : Kernel) → Reaches s from k at m → Answers m (event_at s at) answer n → next_after at answer ≡ None → Proceeds s from k answer at n
proceeds_then s from at k m answer n reaches answers over = record { before = m; reaches = reaches; answered = answers; over = over }

-- an operation that is told to wait still does, and nothing changes
pub still_then : (s : ℕ) (from : Point) (k n : Kernel) (name : Name) → Answers k (event_at s from) (Still name) n → (still_waits k s from ≡ true) × (n ≡ k)
still_then s from k n name answers = let t = turned_by k (event_at s from) (Still name) n answers refl refl in (ap says_still t.0, t.1)

-- one that is told otherwise does not
pub awake_then : (s : ℕ) (from : Point) (k n : Kernel) (answer : Answer) → Answers k (event_at s from) answer n → says_still (Some answer) ≡ false → fault_in answer ≡ None → still_waits k s from ≡ false
awake_then s from k _ _ (Answers.IsStepped answer n (Stepped.IsTurnedAway _ turned)) other free = ap says_still turned ∙ other
awake_then s from k _ _ (Answers.IsStepped answer n (Stepped.IsDone _ _ goes does)) other free = ap says_still goes
awake_then s from k _ _ Answers.WantsMemory other free = absurd (some free)
  where
    some : fault_in Answer.Memory ≡ None → ⊥
    some h = cc
awake_then s from k _ _ (Answers.Fails offset flush goes batch) other free = absurd (some free)
  where
    some : fault_in Answer.DiskFault ≡ None → ⊥
    some h = cc

none_some : (next : Point) → None ≡ Some next → ⊥
none_some next h = cc

-- one that goes on is told neither
pub going : (from next : Point) (answer : Answer) → next_after from answer ≡ Some next → (says_still (Some answer) ≡ false) × (fault_in answer ≡ None)
going Point.Object next Answer.Granted h = (refl, refl)
going Point.Plan next (Answer.Planned count) h = (refl, refl)
going (Point.Locks (suc left)) next Answer.Granted h = (refl, refl)
going from next answer h = absurd (none_some next h)

-- what was asked is what is asked at the point
pub asked : (s : ℕ) (p : Point) (k : Kernel) (event : Event) (answer : Answer) (n : Kernel) → event ≡ event_at s p → Answers k event answer n → Answers k (event_at s p) answer n
asked s p k event answer n e h = subst (λ (v : Event). Answers k v answer n) e h

-- an answer by which it goes on, that came of this
pub goes_on : (s : ℕ) (from at next : Point) (k m : Kernel) (event : Event) (answer : Answer) (n : Kernel) → Reaches s from k at m → event ≡ event_at s at → Answers m event answer n
    → next_after at answer ≡ Some next → Reaches s from k next n
goes_on s from at next k m event answer n reaches e h goes = Reaches.Goes reaches answer next n (asked s at m event answer n e h) goes

pub not_still : (answer : Answer) → ((name : Name) → answer ≢ Still name) → says_still (Some answer) ≡ false
not_still (Still name) h = absurd (h name refl)
not_still answer h = refl

pub still_so : (s : ℕ) (from : Point) (k n : Kernel) (answer : Answer) (name : Name) → answer ≡ Still name → Answers k (event_at s from) answer n → (still_waits k s from ≡ true) × (n ≡ k)
still_so s from k n answer name e h = still_then s from k n name (subst (λ (a : Answer). Answers k (event_at s from) a n) e h)

pub starts_so : (s : ℕ) (op : Op) (k started : Kernel) (first answer : Answer) (at : Point) (after : Kernel) → first ≡ Started → Answers k (Start s op) first started
    → Proceeds s Point.Object started answer at after → Operates s op k answer at after
starts_so s op k started first answer at after e h p = Operates.IsStarted started answer at after (subst (λ (a : Answer). Answers k (Start s op) a started) e h) p
