use Rattle.std.proofs.Common.{◌∙◌}
use Rattle.sp_lines.proofs.Fronts.{cuts_front, behind_front}
use Rattle.sp_lines.proofs.reader.LineReader.keep_front.Goals as goal

pub returns-clause-cut : goal.returns-clause-cut
returns-clause-cut c =
    cuts_front _ _ _ _ _ c.front-front.ensures (c.pass.ensures.bytes ∙ behind_front c.front-front.result.now c.args.self.now.chunk.bytes c.front-front.ensures)
    c.in_ok-keep_bytes.ensures
