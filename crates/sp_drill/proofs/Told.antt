-- What the items of a script of events have told is what the kernel that they lead to keeps.
use Rattle.std.proofs.Common.{◌≡◌, ℕ, true, false, List, [], ◌∷◌, ◌++◌, refl, sym, subst, ◌⊎◌, inl, inr}
use Rattle.std.proofs.lemmas.List.Sums.{fold-append}
use Rattle.sp_event.specs.declared.event.Event.{Event}
use Rattle.sp_event.specs.declared.event.Event.TheVariants.{Commit as AskCommit, Flush}
use Rattle.sp_event.specs.declared.answer.Answer.{Answer}
use Rattle.sp_event.specs.declared.answer.Answer.TheVariants.{DiskFault}
use Rattle.sp_text.specs.declared.types.Item.{Item}
use Rattle.sp_text.specs.declared.types.Item.TheVariants.{Bad, Stepped}
use Rattle.sp_text.specs.Transcripts.{Ledger, ledger, note}
use Rattle.sp_model.specs.State.{Kernel}
use Rattle.sp_model.specs.Soundness.{Sound}
use Rattle.sp_kernel.specs.Answers.{Answers}
use Rattle.sp_drill.specs.Drilling.{Next, Drilled}
use Rattle.sp_told.specs.Telling.{owed, Tells, TellsCommits}
use Rattle.sp_told.proofs.Agreeing.{nothing_told, answers_tell, late_tell, all_told}
use Rattle.sp_text.specs.Transcripts.{committed}
use Rattle.sp_text.specs.declared.types.End.{End}
use Rattle.sp_text.specs.declared.types.End.TheVariants.{Input, Usage, ReadFault, WriteFault, DiskFault as DiskEnds, Foreign, Damaged, Memory as OutOfMemory, Long}
use Rattle.sp_kernel.proofs.Going.{answer_keeps}
use Rattle.sp_drill.specs.Drilling.{Lacks, LeadsBy}
use Rattle.sp_drill.specs.Telling.{TellsFirst, ToldBy}

-- the sessions whose places are still to be told
abbrev pub left_by : Next → List ℕ
left_by (Next.Tells numbers) = numbers
left_by Next.Ends = []

one_more : (items : List Item) (item : Item) → ledger (items ++ item ∷ []) ≡ note (ledger items) item
one_more items item = fold-append note (record { pending = []; done = []; started = [] }) items (item ∷ [])

pub drilled_tells : (k m : Kernel) (items : List Item) (next : Next) → Sound k → k.sessions ≡ [] → Drilled k (Next.Tells []) items m next → Sound m × Tells k.commits (ledger items) m (left_by next)
drilled_tells k _ _ _ sound none Drilled.IsStart = (sound, nothing_told k none)
drilled_tells k m _ _ sound none (Drilled.HearsBad {items} session bad before) =
    let h = drilled_tells k m items (Next.Tells []) sound none before in
    (h.0, subst (λ (l : Ledger). Tells k.commits l m []) (sym (one_more items (Bad session bad))) h.1)
drilled_tells k _ _ _ sound none (Drilled.HearsEvent {items} {m} event answer n before goes answers) =
    let h = drilled_tells k m items (Next.Tells []) sound none before in (
      answer_keeps m event answer n h.0 answers,
      subst (λ (l : Ledger). Tells k.commits l n (owed m answer)) (sym (one_more items (Stepped event answer false))) (answers_tell k.commits (ledger items) m event answer n h.0 h.1 answers),
    )
drilled_tells k _ _ _ sound none (Drilled.TellsPlace {items} {m} s rest answer n before goes answers) =
    let h = drilled_tells k m items (Next.Tells (s ∷ rest)) sound none before in (
      answer_keeps m (AskCommit s) answer n h.0 answers,
      subst (λ (l : Ledger). Tells k.commits l n rest) (sym (one_more items (Stepped (AskCommit s) answer true))) (late_tell k.commits (ledger items) m s rest answer n h.0 h.1 goes.1 answers),
    )
drilled_tells k _ _ _ sound none (Drilled.FlushFails {items} {m} n before answers) =
    let h = drilled_tells k m items (Next.Tells []) sound none before in (
      answer_keeps m Flush DiskFault n h.0 answers,
      subst (λ (l : Ledger). Tells k.commits l n []) (sym (one_more items (Stepped Flush DiskFault false))) (answers_tell k.commits (ledger items) m Flush DiskFault n h.0 h.1 answers),
    )

-- all but those that are late
tells_first : (k m : Kernel) (items : List Item) (next : Next) → Sound k → k.sessions ≡ [] → Drilled k (Next.Tells []) items m next → TellsFirst k.commits items m
tells_first k m items next sound none drilled =
    let told = (drilled_tells k m items next sound none drilled).1.commits in
    (told.late, told.commits)

tells_all : (k m : Kernel) (items : List Item) (next : Next) → left_by next ≡ [] → Sound k → k.sessions ≡ [] → Drilled k (Next.Tells []) items m next → m.commits ≡ k.commits ++ committed items
tells_all k m items next empty sound none drilled =
    all_told k.commits (ledger items) m (subst (λ (owing : List ℕ). TellsCommits k.commits (ledger items) m owing) empty (drilled_tells k m items next sound none drilled).1.commits)

lacks_one : (m n : Kernel) (left : List ℕ) → Lacks m left n → (m ≡ n) ⊎ ((event : Event) × (answer : Answer) × Answers m event answer n)
lacks_one m _ left Lacks.IsThere = inl refl
lacks_one m n _ (Lacks.HasDone event answer _ answers) = inr (event, answer, answers)
lacks_one m n _ (Lacks.HasTold s rest answer _ answers) = inr (AskCommit s, answer, answers)

-- by every end
pub told_by : (end : End) (k n : Kernel) (items : List Item) → Sound k → k.sessions ≡ [] → LeadsBy end k (Next.Tells []) items n → ToldBy end k.commits items n
told_by Input k n items sound none led = tells_all k n items (Next.Tells []) refl sound none led
told_by ReadFault k n items sound none led = tells_all k n items (Next.Tells []) refl sound none led
told_by Long k n items sound none led = tells_all k n items (Next.Tells []) refl sound none led
told_by WriteFault k n items sound none led = tells_first k n items led.0 sound none led.1
told_by DiskEnds k n items sound none led = tells_all k n items Next.Ends refl sound none led
told_by OutOfMemory k n items sound none led = (led.0, tells_first k led.0 items (Next.Tells led.1) sound none led.2, lacks_one led.0 n led.1 led.3)
told_by Usage k n items sound none led = absurd led
told_by Foreign k n items sound none led = absurd led
told_by (Damaged offset) k n items sound none led = absurd led
