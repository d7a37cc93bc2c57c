use Rattle.std.proofs.Common.{Bool, IsTrue, Some, sym, ap, ◌∙◌, subst}
use Rattle.sp_disk.specs.Moments.{LeavesOnly}
use Rattle.sp_event.specs.declared.answer.Answer.{Answer}
use Rattle.sp_model.specs.Stepped.{Stepped}
use Rattle.sp_durable.specs.Recovered.{IsLeftInCall}
use Rattle.sp_kernel.specs.Answers.{Answers}
use Rattle.sp_kernel.specs.Whole.{Whole}
use Rattle.sp_journal.proofs.Kinding.{still_keeps}
use Rattle.sp_kernel.proofs.Stillness.{still_leaves}
use Rattle.sp_kernel.proofs.Telling.{turned_faultless, turned_provided}
use Rattle.sp_state.specs.Held.{kernel_of}
use Rattle.sp_kernel.proofs.Going.{answer_keeps}
use Rattle.sp_kernel.proofs.kernel.Kernel.step.Goals as goal

pub invariant_of-self : goal.invariant_of-self
invariant_of-self g c =
    let was = c.self.invariant.whole in
    record {
      whole = record {
        sound = answer_keeps (kernel_of c.self.inside.state) c.args.event c.proceed.result (kernel_of c.proceed.new.state) was.sound c.proceed.ensures.answers;
        counted = c.proceed.ensures.counted;
        agrees = λ t. let told = subst (λ (b : Bool). IsTrue b) c.proceed.ensures.tells t in c.proceed.ensures.agrees told (was.agrees told);
      };
      fits = c.proceed.ensures.fits;
    }

-- the view of what is inside is what was handed in
pub returns-in-Some-clause-answers : goal.returns-in-Some-clause-answers
returns-in-Some-clause-answers g c =
    subst (λ (w : Whole g.row.D.Denot). Answers w.kernel c.args.event c.in-Some.answer w.kernel) c.self.view_is
    (Answers.IsStepped c.in-Some.answer (kernel_of c.self.inside.state) (Stepped.IsTurnedAway c.in-Some.answer (sym c.turned_away.ensures ∙ c.in-Some.is)))

pub returns-in-Some-clause-crash : goal.returns-in-Some-clause-crash
returns-in-Some-clause-crash g c =
    subst (λ (w : Whole g.row.D.Denot). IsTrue (g.D.Disk.tells w.disk) → LeavesOnly (g.D.Disk.moment w.disk) (g.D.Disk.moment w.disk) (g.D.Disk.images w.disk) (g.D.Disk.images w.disk) (IsLeftInCall w.work.phase w.kernel)) c.self.view_is
    (λ t. still_leaves (kernel_of c.self.inside.state) c.self.inside.journal.work _ _ _ c.self.invariant.whole.sound (c.self.invariant.whole.agrees t))

pub returns-in-Some-clause-fault : goal.returns-in-Some-clause-fault
returns-in-Some-clause-fault g c = λ e.
    absurd (turned_faultless (kernel_of c.self.inside.state) c.args.event (sym c.turned_away.ensures ∙ c.in-Some.is ∙ ap (λ (a : Answer). Some a) e))

pub returns-in-Some-clause-memory : goal.returns-in-Some-clause-memory
returns-in-Some-clause-memory g c = λ e.
    absurd (turned_provided (kernel_of c.self.inside.state) c.args.event (sym c.turned_away.ensures ∙ c.in-Some.is ∙ ap (λ (a : Answer). Some a) e))

pub returns-in-Some-clause-kinds : goal.returns-in-Some-clause-kinds
returns-in-Some-clause-kinds g c = λ t. still_keeps _ _
