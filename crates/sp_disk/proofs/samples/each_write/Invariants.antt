use Rattle.std.proofs.Common.{◌≡◌, ◌∷◌, [], take}
use Rattle.std.specs.List.{flat_map}
use Rattle.sp_disk.specs.Files.{put}
use Rattle.sp_disk.proofs.samples.each_write.Given as goal

abbrev pub invariant-loop-file : goal.invariant-loop-file
invariant-loop-file l = l.spread ≡ flat_map (λ f. f ∷ put f l.at l.first ∷ put f l.at l.bytes ∷ []) (take l.file-index l.files)
