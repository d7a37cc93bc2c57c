use Rattle.std.proofs.Common.{◌≡◌, ◌∷◌, [], take}
use Rattle.std.specs.List.{flat_map}
use Rattle.sp_disk.proofs.samples.each_cut.Given as goal

abbrev pub invariant-loop-file : goal.invariant-loop-file
invariant-loop-file l = l.spread ≡ flat_map (λ f. f ∷ take l.len f ∷ []) (take l.file-index l.files)
