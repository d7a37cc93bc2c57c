use Rattle.std.proofs.Common.{◌≡◌, [], ◌++◌, ◌∷◌, Ok, Err, is_ok, true, true≢false, length, if◌then◌else◌, sym, ap, ◌∙◌, subst, rules, arith}
use Rattle.std.specs.Prelude.{Result, OnOk}
use Rattle.sp_locks.specs.Slots.{rows_of, IsPlaced, AreSlots, ArePlaces}
use Rattle.sp_locks.specs.Table.{rows_on, with_row_on}
use Rattle.sp_locks.specs.Rows.{with_row}
use Rattle.sp_locks.proofs.Standing.{push-slots, push-places, new-on, new-some, new-slot-rows}
use Rattle.sp_locks.proofs.slots.Slots.add_name.Goals as goal

of_ok : {T E : Type 0} (r : Result T E) (A : Type 0) → OnOk r A → is_ok r ≡ true → A
of_ok (Ok v) A h k = h
of_ok (Err e) A h k = absurd (true≢false (sym k))

pub invariant_of-self-2 : goal.invariant_of-self-2
invariant_of-self-2 c =
    let vs = c.self.inside.slots.items in
    let w = c.add.new.rows in
    let none : rows_on c.args.row.name (rows_of (λ v. v.items) vs) ≡ [] = ap (rows_on c.args.row.name) c.self.view_is ∙ c.requires in
    let is : w.items ≡ with_row c.args.row [] = c.in_ok-add.ensures ∙ ap (with_row c.args.row) c.new-rows.ensures.items in
    let old : ArePlaces (λ v. v.items) c.reserve.new.self.entries vs = subst (λ es. ArePlaces (λ v. v.items) es vs) (sym c.in_ok-reserve.ensures.entries) c.self.invariant.1 in
    let ok : is_ok c.place_name.result ≡ true = search rules in
    let placed : IsPlaced c.args.row.name c.len-at.result c.reserve.new.self.entries c.place_name.new.places.entries = of_ok c.place_name.result _ c.place_name.ensures.placed ok in
    let at : c.len-at.result ≡ length vs = omega arith in
    let all : c.push.new.self.items ≡ vs ++ w ∷ [] = c.in_ok-push.ensures.items in (
      subst (AreSlots (λ v. v.items)) (sym all) (push-slots (λ v. v.items) c.args.row.name vs w c.self.invariant.0 none (new-on (λ v. v.items) c.args.row vs w none is)),
      subst (ArePlaces (λ v. v.items) c.place_name.new.places.entries) (sym all) (push-places (λ v. v.items) c.args.row.name c.len-at.result vs w c.reserve.new.self.entries c.place_name.new.places.entries old (new-on (λ v. v.items) c.args.row vs w none is) (new-some (λ v. v.items) c.args.row vs w none is) at placed),
    )

pub returns : goal.returns
returns c =
    let vs = c.self.inside.slots.items in
    let w = c.add.new.rows in
    let none : rows_on c.args.row.name (rows_of (λ v. v.items) vs) ≡ [] = ap (rows_on c.args.row.name) c.self.view_is ∙ c.requires in
    let is : w.items ≡ with_row c.args.row [] = c.in_ok-add.ensures ∙ ap (with_row c.args.row) c.new-rows.ensures.items in
    let ok : is_ok c.place_name.result ≡ true = search rules in
    ap (rows_of (λ v. v.items)) c.in_ok-push.ensures.items ∙ new-slot-rows (λ v. v.items) c.args.row vs w none is ∙ ap (with_row_on c.args.row) c.self.view_is
    ∙ ap (λ b. if b then with_row_on c.args.row c.args.self.now else c.args.self.now) (sym ok)
