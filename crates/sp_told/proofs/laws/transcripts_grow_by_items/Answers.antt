use Rattle.std.proofs.Common.{[], ◌∷◌}
use Rattle.std.proofs.lemmas.List.Sums.{fold-append}
use Rattle.sp_text.specs.Transcripts.{note}
use Rattle.sp_told.proofs.laws.transcripts_grow_by_items.Goals as goal

pub returns : goal.returns
returns c = λ items item. fold-append note (record { pending = []; done = []; started = [] }) items (item ∷ [])
