use Rattle.std.proofs.Common.{arith, Some, None}
use Rattle.std.proofs.lemmas.Str.Pattern.{split_once_first}
use Rattle.sp_command.proofs.Joining.{next_option-joined, next_option-plain}
use Rattle.sp_command.proofs.reader.next_option.Goals as goal

pub returns-in-Some : goal.returns-in-Some
returns-in-Some c =
    let parts = split_once_first 61 c.args.word.now (Some (c.in-Some.name, c.in-Some.value)) c.in-Some.ensures.cases (omega arith) in
    next_option-joined c.args.options c.args.word.now c.in-Some.name.now c.in-Some.value.now c.with_joined.result parts.0 parts.1 parts.2 c.with_joined.ensures

pub returns-in-None : goal.returns-in-None
returns-in-None c =
    let lacks = split_once_first 61 c.args.word.now None c.in-None.ensures.cases (omega arith) in
    next_option-plain c.args.options c.args.word.now c.with_key.result lacks (cc)
