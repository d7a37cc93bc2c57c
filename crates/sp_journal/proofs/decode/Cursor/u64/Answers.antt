use Rattle.std.proofs.Common.{ap, Ok, arith}
use Rattle.sp_journal.proofs.Readers.{u64_long, u64_reads, u64_rest}
use Rattle.sp_journal.proofs.decode.Cursor.u64.Goals as goal

pub returns-then-self-lt8 : goal.returns-then-self-lt8
returns-then-self-lt8 c = λ x rest small is. absurd (omega (arith, u64_long x c.args.self.now c.self.inside.rest.now rest c.self.view_is is, c.if-self-lt8.true))

pub returns : goal.returns
returns c = λ x rest small is.
    (ap Ok (u64_reads x c.read_u64-x.result c.args.self.now c.self.inside.rest.now rest small c.self.view_is is c.read_u64-x.ensures), u64_rest x c.args.self.now c.self.inside.rest.now rest c.self.view_is is)
