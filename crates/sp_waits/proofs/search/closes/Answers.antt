use Rattle.std.proofs.Common.{◌≡◌, ℕ, List, sym, subst}
use Rattle.sp_waits.specs.Edges.{waits_of, once_waiting, Chain}
use Rattle.sp_waits.specs.Search.{waits_for}
use Rattle.sp_waits.proofs.Waiting.{waits-are}
use Rattle.sp_waits.proofs.search.closes.Goals as goal

pub returns : goal.returns
returns c =
    let s = c.args.session in
    let same : waits_of (once_waiting s c.args.name c.args.mode c.args.table.now) ≡ waits_for c.args.table.now s c.args.name c.args.mode = (λ i u. waits-are c.args.table.now s c.args.name c.args.mode c.on.ensures.sound c.requires.awake u i) in
    ((λ t. subst (λ (edges : ℕ → List ℕ). Chain edges s s) (sym same) (c.search.ensures.0 t)), (λ chain. c.search.ensures.1 (subst (λ (edges : ℕ → List ℕ). Chain edges s s) same chain)))
