use Rattle.std.proofs.Common.{◌≡◌, ◌+◌, ◌-◌, List, ◌∷◌, length, take, drop, ap, ◌∙◌, sym, arith}
use Rattle.std.proofs.lemmas.List.{drop_more, take_rest, length-drop}
use Rattle.sp_node.specs.declared.node.Entry.{Entry}
use Rattle.sp_node.specs.declared.plan.Part.{Part}
use Rattle.sp_node.specs.Look.{entries_in}
use Rattle.sp_node.specs.Plan.{content, entry_count}
use Rattle.sp_node.proofs.Adopt.{fewer_entries}
use Rattle.sp_node.proofs.index.note.Goals as goal

pub note_entries-requires : goal.note_entries-requires
note_entries-requires c =
    let part = c.index-parts-i.result in
    let ps = c.args.parts.now in
    let i = c.back.i - 1 in
    let more = drop_more ps i part (omega arith) in
    let one : entry_count (drop i ps) ≡ length (entries_in (content part)) + entry_count (drop (i + 1) ps) = ap entry_count (more ∙ ap (λ (p : Part). p ∷ drop (i + 1) ps) (sym c.index-parts-i.is)) in
    let size : length c.entries-after.result.now ≡ length (entries_in (content part)) = ap (λ (es : List Entry). length es) c.entries-after.ensures in
    let rest : length (take (length c.entries-after.result.now - c.unmoved-stay.result) (drop c.unmoved-stay.result c.entries-after.result.now)) ≡ length c.entries-after.result.now - c.unmoved-stay.result = ap (λ (es : List Entry). length es) (take_rest c.entries-after.result.now c.unmoved-stay.result) ∙ length-drop c.unmoved-stay.result c.entries-after.result.now in
    let back : i + 1 ≡ c.back.i = omega arith in
    let same : entry_count (drop (i + 1) ps) ≡ entry_count (drop c.back.i ps) = ap (λ n. entry_count (drop n ps)) back in
    omega (arith, one, size, rest, same, fewer_entries ps i, c.back.invariant.room, c.requires)
