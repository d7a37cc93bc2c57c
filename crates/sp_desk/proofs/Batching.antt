-- Commits that wait for their batches, and dead entries that are tried.
use Rattle.std.proofs.Common.{◌≡◌, ℕ, ◌+◌, Option, None, Some, sym, subst}
use Rattle.sp_event.specs.declared.event.Event.TheVariants.{Commit, Flush, Clean}
use Rattle.sp_event.specs.declared.answer.Answer.{Answer}
use Rattle.sp_event.specs.declared.answer.Answer.TheVariants.{Queued, Wrote, Durable}
use Rattle.sp_lines.specs.declared.fault.Fault.{Fault}
use Rattle.sp_model.specs.State.{Kernel}
use Rattle.sp_kernel.specs.Answers.{Answers}
use Rattle.sp_desk.specs.Committing.{Writes, Stores, Queues, Commits}
use Rattle.sp_desk.specs.Cleaning.{Cleans, fault_in, fault_told}
use Rattle.sp_desk.specs.Course.{StopsAt}

pub writes_more : (k m n : Kernel) (answer : Answer) → Writes k m → Answers m Flush answer n → answer ≡ Wrote → Writes k n
writes_more k m n answer w h e = Writes.Goes w n (subst (λ (a : Answer). Answers m Flush a n) e h)

pub stores_so : (k m n : Kernel) (answer : Answer) (first count : ℕ) → Writes k m → Answers m Flush answer n → answer ≡ Durable first count → Stores k n
stores_so k m n answer first count w h e = record { before = m; writes = w; first = first; count = count; durable = subst (λ (a : Answer). Answers m Flush a n) e h }

pub queues_more : (s : ℕ) (k m queued n : Kernel) (answer : Answer) → Queues s k m → Answers m (Commit s) answer queued → answer ≡ Queued → Stores queued n → Queues s k n
queues_more s k m queued n answer q h e stores = Queues.Goes q queued n (subst (λ (a : Answer). Answers m (Commit s) a queued) e h) stores

pub commits_so : (s : ℕ) (k m n : Kernel) (answer : Answer) → Queues s k m → Answers m (Commit s) answer n → (answer ≡ Queued → ⊥) → Commits s k answer n
commits_so s k m n answer q h other = record { before = m; queues = q; answered = h; over = other }

pub cleans_more : (k m n : Kernel) (count : ℕ) (answer : Answer) → Cleans k count m → Answers m Clean answer n → fault_in answer ≡ None → Cleans k (count + 1) n
cleans_more k m n count answer c h free = Cleans.Goes c answer n h free

told_stop : (o : Option Fault) (k : Kernel) → StopsAt o k → StopsAt (Some (fault_told o)) k
told_stop None k h = tt
told_stop (Some Fault.Write) k h = tt
told_stop (Some Fault.Disk) k h = h
told_stop (Some Fault.Memory) k h = tt

-- a run that ends by this answer
pub fails_so : (answer : Answer) (fault : Fault) (k : Kernel) → fault ≡ fault_told (fault_in answer) → StopsAt (fault_in answer) k → StopsAt (Some fault) k
fails_so answer fault k e h = subst (λ (f : Fault). StopsAt (Some f) k) (sym e) (told_stop (fault_in answer) k h)

pub some_stop : (answer : Answer) (fault : Fault) (k : Kernel) → fault_in answer ≡ Some fault → StopsAt (fault_in answer) k → StopsAt (Some fault) k
some_stop answer fault k e h = subst (λ (o : Option Fault). StopsAt o k) e h
