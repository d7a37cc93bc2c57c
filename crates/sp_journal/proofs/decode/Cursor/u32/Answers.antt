use Rattle.std.proofs.Common.{ap, Ok, arith}
use Rattle.sp_journal.proofs.Readers.{u32_long, u32_reads, u32_rest}
use Rattle.sp_journal.proofs.decode.Cursor.u32.Goals as goal

pub returns-then-self-lt4 : goal.returns-then-self-lt4
returns-then-self-lt4 c = λ x rest small is. absurd (omega (arith, u32_long x c.args.self.now c.self.inside.rest.now rest c.self.view_is is, c.if-self-lt4.true))

pub returns : goal.returns
returns c = λ x rest small is.
    (ap Ok (u32_reads x c.read_u32-x.result c.args.self.now c.self.inside.rest.now rest small c.self.view_is is c.read_u32-x.ensures), u32_rest x c.args.self.now c.self.inside.rest.now rest c.self.view_is is)
