-- What reading gives.
use Rattle.std.specs.Prelude.{◌≡◌, ℕ, List, Result, MatchResult}
use Rattle.sp_journal.specs.declared.decode.Unread.{Unread}
use Rattle.sp_journal.specs.declared.decode.Unread.TheVariants.{Memory}

-- It gives x and leaves the rest, or there is no memory.
abbrev pub Gives : {T : Type 0} → T → List ℕ → List ℕ → Result T Unread → Type 0
Gives x rest new result = MatchResult result (λ y. (y ≡ x) × (new ≡ rest)) (λ e. e ≡ Memory)
