use Rattle.std.proofs.Common.{ap, sym, ◌∙◌, subst, rules}
use Rattle.sp_journal.specs.Format.{IsChange}
use Rattle.sp_journal.specs.Reading.{Gives}
use Rattle.sp_journal.proofs.Readers.{no_err, ok_same, tag, behind_tag, tagged, is_put, is_drop, is_set, no_other}
use Rattle.sp_journal.proofs.decode.change.Goals as goal

pub returns-in_err-u8 : goal.returns-in_err-u8
returns-in_err-u8 c = λ d rest valid is. no_err _ _ _ _ (c.u8.ensures (tag d) (behind_tag d rest) (tagged d rest c.args.from.now is)).0 c.in_err-u8.was

pub returns-in-1 : goal.returns-in-1
returns-in-1 c = λ d rest valid is.
    let read = c.u8.ensures (tag d) (behind_tag d rest) (tagged d rest c.args.from.now is) in
    let found = is_put d (ok_same _ _ _ read.0 c.in_ok-u8.was ∙ c.in-1.is) in
    subst (λ x. Gives x rest c.put_change.new.from c.put_change.result) (sym found.1) (c.put_change.ensures found.0 rest (subst IsChange found.1 valid) (read.1 ∙ ap (λ x. behind_tag x rest) found.1))

pub returns-in-2 : goal.returns-in-2
returns-in-2 c = λ d rest valid is.
    let read = c.u8.ensures (tag d) (behind_tag d rest) (tagged d rest c.args.from.now is) in
    let found = is_drop d (ok_same _ _ _ read.0 c.in_ok-u8.was ∙ c.in-2.is) in
    subst (λ x. Gives x rest c.drop_change.new.from c.drop_change.result) (sym found.1) (c.drop_change.ensures found.0 rest (subst IsChange found.1 valid) (read.1 ∙ ap (λ x. behind_tag x rest) found.1))

pub returns-in-3 : goal.returns-in-3
returns-in-3 c = λ d rest valid is.
    let read = c.u8.ensures (tag d) (behind_tag d rest) (tagged d rest c.args.from.now is) in
    let found = is_set d (ok_same _ _ _ read.0 c.in_ok-u8.was ∙ c.in-3.is) in
    subst (λ x. Gives x rest c.set_change.new.from c.set_change.result) (sym found.2) (c.set_change.ensures found.0 found.1 rest (subst IsChange found.2 valid).0 (subst IsChange found.2 valid).1 (read.1 ∙ ap (λ x. behind_tag x rest) found.2))

pub returns-in_default : goal.returns-in_default
returns-in_default c = λ d rest valid is.
    let read = c.u8.ensures (tag d) (behind_tag d rest) (tagged d rest c.args.from.now is) in
    no_other d c.in_ok-u8.field-0 _ (ok_same _ _ _ read.0 c.in_ok-u8.was) (search rules) (search rules) (search rules)
