use Rattle.std.proofs.Common.{ℕ, IsTrue, List, subst}
use Rattle.sp_durable.specs.Recovered.{HoldsOrMore}
use Rattle.sp_kernel.specs.Whole.{Whole}
use Rattle.sp_kernel.proofs.Stillness.{still_holds}
use Rattle.sp_state.specs.Held.{kernel_of}
use Rattle.sp_kernel.proofs.kernel.Kernel.audit.Goals as goal

-- the view of what is inside is what was handed in
pub returns-clause-left : goal.returns-clause-left
returns-clause-left g c =
    subst (λ (w : Whole g.row.D.Denot). IsTrue (g.D.Disk.tells w.disk) → (file : List ℕ) → g.D.Disk.images w.disk (g.D.Disk.moment w.disk) file → HoldsOrMore w.kernel file) c.self.view_is
    (λ t file left. still_holds (kernel_of c.self.inside.state) c.self.inside.journal.work _ _ c.self.invariant.whole.sound (c.self.invariant.whole.agrees t) file left)
