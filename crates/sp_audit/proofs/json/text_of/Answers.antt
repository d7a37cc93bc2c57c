use Rattle.std.proofs.Common.{subst, sym}
use Rattle.std.specs.Str.{IsUtf8}
use Rattle.sp_audit.proofs.Printing.{value_is_text}
use Rattle.sp_audit.proofs.json.text_of.Goals as goal

pub unreachable-requires : goal.unreachable-requires
unreachable-requires c = c.in-Err.ensures.cases.0 (subst IsUtf8 (sym c.bytes.ensures.bytes) (value_is_text c.args.value.now c.bytes.ensures.valid))
