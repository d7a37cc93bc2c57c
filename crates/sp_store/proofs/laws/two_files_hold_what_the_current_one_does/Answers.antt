use Rattle.sp_store.proofs.Keeping.{run_recovers}
use Rattle.sp_store.proofs.laws.two_files_hold_what_the_current_one_does.Goals as goal

pub returns : goal.returns
returns g c = λ is_alt was now other k file file' outcome beside run low high left left' is.
    run_recovers is_alt (g.D.Disk.reads other) (g.D.Disk.moment was) (g.D.Disk.moment now) (g.D.Disk.images was) (g.D.Disk.images now) (g.D.Disk.images other (g.D.Disk.moment other)) k file file' outcome beside run low high left left' is
