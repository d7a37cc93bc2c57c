use Rattle.sp_stress.proofs.Outcomes.{ends_playing, hears_script}
use Rattle.sp_stress.proofs.stressing.play_text.Goals as goal

pub returns-clause-ends : goal.returns-clause-ends
returns-clause-ends c =
    let r = c.run_in_memory.ensures in
    ends_playing c.args.text _ _ _ c.requires.short r.read r.read_fault r.write_fault r.ends r.no_disk

pub returns-clause-plays : goal.returns-clause-plays
returns-clause-plays c =
    let r = c.run_in_memory.ensures in
    record {
      runs = r.runs;
      heard_as = hears_script c.args.text _ _ _ (ends_playing c.args.text _ _ _ c.requires.short r.read r.read_fault r.write_fault r.ends r.no_disk) r.read;
      told = r.told;
      serial = r.serial;
    }
