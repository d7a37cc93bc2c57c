use Rattle.std.proofs.Common.{ℕ, Option, Global, ◌∙◌, subst}
use Rattle.std.specs.Prelude.{Vec, MatchOption}
use Rattle.sp_node.specs.declared.node.Entry.{Entry}
use Rattle.sp_node.specs.Look.{look}
use Rattle.sp_node.specs.Standing.{HasNoEntry, IsLeafOf}
use Rattle.sp_condense.specs.Way.{Leads, IsNotBelow}
use Rattle.sp_condense.proofs.Ways.{seat, held, found, copied_some, copied_is}
use Rattle.sp_condense.proofs.removed.path_to.Goals as goal

pub unwrap-found-requires : goal.unwrap-found-requires
unwrap-found-requires c =
    let t = c.args.tree.now.table in
    let q = c.args.entry in
    let s = seat t c.next-valid.ensures.valid q c.unwrap-leaf.result (subst (λ (o : Option ℕ). MatchOption o (HasNoEntry t q) (IsLeafOf t q)) c.unwrap-leaf.ensures c.leaf_of.ensures.stands) in
    copied_some c.entry.result s.entry (c.entry.ensures.value ∙ s.found)

pub unreachable-requires : goal.unreachable-requires
unreachable-requires c =
    let t = c.args.tree.now.table in
    let q = c.args.entry in
    let leaf = c.unwrap-leaf.result in
    let s = seat t c.next-valid.ensures.valid q leaf (subst (λ (o : Option ℕ). MatchOption o (HasNoEntry t q) (IsLeafOf t q)) c.unwrap-leaf.ensures c.leaf_of.ensures.stands) in
    let same = copied_is c.entry.result c.unwrap-found.result s.entry (c.entry.ensures.value ∙ s.found) c.unwrap-found.ensures in
    let none = subst (λ (o : Option (Vec ℕ Global)). MatchOption o (IsNotBelow (look t.nodes) c.unwrap-found.result.now.rect 65 c.root.result leaf) (λ path. Leads (look t.nodes) c.root.result path.items leaf)) c.in-None.is c.in_ok-path.ensures in
    found t c.next-valid.ensures.valid c.next-valid.ensures.rising c.requires.numbers q leaf s
    (subst (λ (e : Entry). IsNotBelow (look t.nodes) e.rect 65 t.root leaf) same (subst (λ (n : ℕ). IsNotBelow (look t.nodes) c.unwrap-found.result.now.rect 65 n leaf) c.root.ensures.value none))

pub returns : goal.returns
returns c =
    let t = c.args.tree.now.table in
    let q = c.args.entry in
    let leaf = c.unwrap-leaf.result in
    let s = seat t c.next-valid.ensures.valid q leaf (subst (λ (o : Option ℕ). MatchOption o (HasNoEntry t q) (IsLeafOf t q)) c.unwrap-leaf.ensures c.leaf_of.ensures.stands) in
    let leads = subst (λ (o : Option (Vec ℕ Global)). MatchOption o (IsNotBelow (look t.nodes) c.unwrap-found.result.now.rect 65 c.root.result leaf) (λ path. Leads (look t.nodes) c.root.result path.items leaf)) c.in-Some.is c.in_ok-path.ensures in
    (leaf, subst (λ (n : ℕ). Leads (look t.nodes) n c.in-Some.path.items leaf) c.root.ensures.value leads, held t q leaf s)
