use Rattle.std.proofs.Common.{◌≡◌, not, length, rules, ap, arith, refl}
use Rattle.std.proofs.lemmas.Fn.{filter_same}
use Rattle.std.proofs.lemmas.List.Filters.{length-filter_both}
use Rattle.sp_rect.specs.Store.{Area, touches, without}
use Rattle.sp_rect.specs.declared.record.Record.{Record}
use Rattle.sp_plain.proofs.keep.clear.Goals as goal

pub returns-clause-after : goal.returns-clause-after
returns-clause-after c = filter_same _ (λ (r : Record). not (touches (Area c.args.rect.now) r)) _ (λ x b f k. search rules) _ _ c.retain.ensures.filtered

pub returns-clause-count : goal.returns-clause-count
returns-clause-count c =
    let kept : c.retain.new.self.items ≡ without (Area c.args.rect.now) c.args.records.now.items = returns-clause-after c in
    let both = length-filter_both (touches (Area c.args.rect.now)) (λ r. not (touches (Area c.args.rect.now) r)) (λ r. refl) c.args.records.now.items in
    omega (arith, both, ap length kept)
