use Rattle.sp_granule.proofs.Covering.{covers_space}
use Rattle.sp_granule.proofs.cover.granules_cover_space.Goals as goal

pub returns : goal.returns
returns c = covers_space
