use Rattle.std.proofs.Common.{◌≡◌, ◌++◌, take, map}
use Rattle.std.specs.List.{flat_map}
use Rattle.sp_text.specs.Texts.{line_text, lead_words, edge_words}
use Rattle.sp_text.proofs.texts.push_deadlock.Given as goal

abbrev pub invariant-loop-edge : goal.invariant-loop-edge
invariant-loop-edge l =
    l.text ≡ l.initial.text ++ flat_map (line_text (lead_words l.form l.lead)) (map (edge_words l.form) (take l.edge-index l.edge-items))
