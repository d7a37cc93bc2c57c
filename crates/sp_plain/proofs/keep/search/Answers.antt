use Rattle.std.proofs.Common.{subst, ap, ◌∙◌, arith}
use Rattle.std.proofs.lemmas.List.{get_or_default}
use Rattle.sp_rect.specs.declared.record.Record.{Record}
use Rattle.sp_plain.proofs.Order.{absent, IsFreeAt}
use Rattle.sp_plain.proofs.keep.search.Goals.{else-at-records-via-then-at-records+else-records-at, else-at-records-via-else-at-records}
use Rattle.sp_plain.proofs.keep.search.Goals as goal

pub returns-else-at-records-clause-free : goal.returns-else-at-records-clause-free
returns-else-at-records-clause-free c =
    let free : IsFreeAt c.args.id c.args.records.now c.place_of-at.result = elim c.else-at-records.branch [
      | else-at-records-via-then-at-records+else-records-at w ↦ λ d l e. w.if-records-at.false (ap (λ (r : Record). r.id) (get_or_default c.args.records.now c.place_of-at.result w.index-records-at.result d l) ∙ e)
      | else-at-records-via-else-at-records w ↦ λ d l e. omega arith
    ] in
    absent 0 c.args.id c.args.records.now c.requires (subst (IsFreeAt c.args.id c.args.records.now) c.place_of-at.ensures.place free)
