-- What a removal leaves.
use Rattle.std.specs.Prelude.{◌≡◌, ◌≢◌, ℕ, true, List}
use Rattle.sp_node.specs.declared.node.Entry.{Entry}
use Rattle.sp_node.specs.Among.{Among}
use Rattle.sp_node.specs.Marks.{is_marked}
use Rattle.sp_granule.specs.Granules.{Granule, Standing}
use Rattle.sp_protection.specs.Reshape.{StillHas}

-- the granules after a removal have all that stood in those before it but for the entry of this number
abbrev pub KeepsOthers : List Granule → List Granule → ℕ → Type 0
KeepsOthers gs gs' number = (g : Granule) (x : Standing) → Among g gs → Among x g.entries → x.number ≢ number → StillHas gs' x.number

-- what is left with a mark was there, and is not the entry of this number
abbrev pub AreLeftOf : List Entry → ℕ → List Entry → Type 0
AreLeftOf before number es = (txn : ℕ) (e : Entry) → Among e es → is_marked txn e ≡ true → Among e before × (e.number ≢ number)
