use Rattle.sp_conduct.proofs.Transcripts.{conducted, based, closed}
use Rattle.sp_conduct.proofs.laws.every_answer_fits.Goals as goal

pub returns : goal.returns
returns c = record {
  fits = λ shape records k n end items opened sound plays. conducted shape records k opened sound end items n plays;
  base = λ shape records k n end items opened sound plays. based shape records k opened sound end items n plays;
  closed = λ shape records k n items opened sound plays over. closed shape records k opened sound items n _ plays over;
}
