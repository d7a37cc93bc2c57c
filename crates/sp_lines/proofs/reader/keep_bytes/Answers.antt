use Rattle.std.proofs.Common.{ℕ, List, ◌++◌, ◌-◌, length, take, min, sym, ap, ◌∙◌}
use Rattle.std.proofs.lemmas.List.{take_min}
use Rattle.sp_lines.proofs.Fronts.{kept_front}
use Rattle.sp_lines.proofs.reader.keep_bytes.Goals as goal

pub returns : goal.returns
returns c =
    c.in_ok-push_bytes.ensures
    ∙ ap (λ n. c.args.line.now ++ take n c.args.bytes.now) (c.min.ensures ∙ ap (λ r. min r (length c.args.bytes.now)) (c.saturating_sub-room.ensures ∙ ap (λ (line : List ℕ). 514 - length line) c.bytes.ensures))
    ∙ ap (λ x. c.args.line.now ++ x) (take_min (514 - length c.args.line.now) c.args.bytes.now)
    ∙ sym (kept_front c.args.line.now c.args.bytes.now)
