use Rattle.std.proofs.Common.{rules, sym, ap, ◌∙◌, subst}
use Rattle.std.proofs.lemmas.Fn.{filter_same}
use Rattle.sp_locks.specs.Slots.{rows_of, AreSlots, AreNames}
use Rattle.sp_locks.proofs.Numbering.{full, full-rows, full-slots, full-names}
use Rattle.sp_locks.proofs.slots.squeeze.Goals as goal

pub number-requires-clause-slots : goal.number-requires-clause-slots
number-requires-clause-slots c =
    subst (AreSlots (λ v. v.items)) (sym (c.deref.ensures.value ∙ filter_same _ (full (λ v. v.items)) _ (λ x b f' k. search rules) c.args.slots.now.items c.retain.new.self.items c.retain.ensures.filtered)) (full-slots (λ v. v.items) c.args.slots.now.items c.requires.slots)

pub number-requires-clause-names : goal.number-requires-clause-names
number-requires-clause-names c =
    subst (AreNames (λ v. v.items) c.args.places.now.entries) (sym (c.deref.ensures.value ∙ filter_same _ (full (λ v. v.items)) _ (λ x b f' k. search rules) c.args.slots.now.items c.retain.new.self.items c.retain.ensures.filtered)) (full-names (λ v. v.items) c.args.places.now.entries c.args.slots.now.items c.requires.places)

pub returns-clause-slots : goal.returns-clause-slots
returns-clause-slots c =
    subst (AreSlots (λ v. v.items)) (sym (filter_same _ (full (λ v. v.items)) _ (λ x b f' k. search rules) c.args.slots.now.items c.retain.new.self.items c.retain.ensures.filtered)) (full-slots (λ v. v.items) c.args.slots.now.items c.requires.slots)

pub returns-clause-rows : goal.returns-clause-rows
returns-clause-rows c =
    ap (rows_of (λ v. v.items)) (filter_same _ (full (λ v. v.items)) _ (λ x b f' k. search rules) c.args.slots.now.items c.retain.new.self.items c.retain.ensures.filtered) ∙ full-rows (λ v. v.items) c.args.slots.now.items
