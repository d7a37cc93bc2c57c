use Rattle.std.proofs.Common.{◌≡◌, ◌++◌, ℕ, List, is_some, ap, ◌∙◌, subst}
use Rattle.std.specs.Prelude.{MatchBool}
use Rattle.std.specs.List.{list_any}
use Rattle.sp_rect.specs.Plane.{Rectangle}
use Rattle.sp_locks.specs.declared.row.Name.TheVariants.{Granule as OnGranule}
use Rattle.sp_node.specs.declared.node.Entry.{Entry}
use Rattle.sp_node.specs.Among.{Among}
use Rattle.sp_node.specs.Look.{look}
use Rattle.sp_node.specs.Marks.{is_marked}
use Rattle.sp_node.specs.Plan.{number_of}
use Rattle.sp_granule.specs.Granules.{granules, IsMeeting}
use Rattle.sp_apply.specs.Given.{modes_on}
use Rattle.sp_apply.proofs.InPlace.{on_ok}
use Rattle.sp_apply.proofs.PartWants.{modes_wanted, same_wanted, is_new}
use Rattle.sp_apply.proofs.gifts.push_wants.Goals as goal

pub returns-then-has_node : goal.returns-then-has_node
returns-then-has_node c =
    let nodes = c.args.tree.now.table.nodes in
    let had : c.has_node.result ≡ is_some (look nodes (number_of c.args.part.now)) = c.has_node.ensures ∙ ap (λ (n : ℕ). is_some (look nodes n)) c.number-number.ensures in
    same_wanted nodes (granules c.args.after.now) c.args.seat.now.txn.number c.args.seat.now.txn.searches c.args.part.now c.args.wants.now.items c.has_node.result had c.if-has_node.true

pub returns : goal.returns
returns c =
    let nodes = c.args.tree.now.table.nodes in
    let gs = granules c.args.after.now in
    let txn = c.args.seat.now.txn.number in
    let searches = c.args.seat.now.txn.searches in
    let part = c.args.part.now in
    let had : c.has_node.result ≡ is_some (look nodes (number_of part)) = c.has_node.ensures ∙ ap (λ (n : ℕ). is_some (look nodes n)) c.number-number.ensures in
    let none = is_new nodes gs txn searches part c.has_node.result had c.if-has_node.false in
    let owns = c.has_own-own.ensures ∙ ap (λ (t : ℕ). list_any (is_marked t) c.entries.result.now) c.number.ensures ∙ ap (λ (es : List Entry). list_any (is_marked txn) es) c.entries.ensures in
    let meets = subst (λ (n : ℕ). MatchBool c.in_ok-met.met ((rect : Rectangle) × Among rect searches × IsMeeting gs rect n) ((rect : Rectangle) → Among rect searches → IsMeeting gs rect n → ⊥)) c.number-number.ensures
    (subst (λ (rs : List Rectangle). MatchBool c.in_ok-met.met ((rect : Rectangle) × Among rect rs × IsMeeting gs rect c.number-number.result) ((rect : Rectangle) → Among rect rs → IsMeeting gs rect c.number-number.result → ⊥)) (c.as_slice.ensures ∙ c.searches.ensures) c.in_ok-met.ensures) in
    on_ok _ _ c.push_modes.result
    (λ is. modes_wanted nodes gs txn searches part none c.has_own-own.result c.in_ok-met.met owns meets c.args.wants.now.items c.push_modes.new.wants.items (is ∙ ap (λ (n : ℕ). c.args.wants.now.items ++ modes_on (OnGranule n) c.has_own-own.result c.in_ok-met.met) c.number-number.ensures))
    c.push_modes.ensures
