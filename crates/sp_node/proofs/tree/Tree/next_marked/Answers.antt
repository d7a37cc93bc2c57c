use Rattle.std.proofs.Common.{◌≡◌, ◌+◌, ℕ, List, Option, sym, ap, subst, arith}
use Rattle.std.specs.Prelude.{MatchOption}
use Rattle.sp_node.specs.Index.{AreAllNoted}
use Rattle.sp_node.specs.Marked.{HasNoMarkFrom, IsNextMarked}
use Rattle.sp_node.specs.Plan.{Roomy}
use Rattle.sp_node.specs.Table.{Table, IsValid}
use Rattle.sp_node.proofs.NextMarked.{NoneBelow, found, passed, over, full}
use Rattle.sp_node.proofs.tree.Tree.next_marked.Goals as goal

-- the facts that the tree keeps, of the table that is seen
module _ (inside seen : Table) (is : inside ≡ seen) where
  valid_of : IsValid inside → IsValid seen
  valid_of v = subst IsValid is v

  noted_of : (noted : List (ℕ × ℕ)) → AreAllNoted noted inside.nodes → AreAllNoted noted seen.nodes
  noted_of noted all = subst (λ (u : Table). AreAllNoted noted u.nodes) is all

pub returns-then-bears : goal.returns-then-bears
returns-then-bears c =
    let t : Table = record { shape = c.self.inside.shape; root = c.self.inside.root; next = c.self.inside.next; nodes = c.self.inside.nodes.nodes } in
    let is : t ≡ c.args.self.now.table = ap (λ (s : Roomy). s.table) c.self.view_is in
    found c.args.self.now.table (valid_of t c.args.self.now.table is c.self.invariant.valid) c.self.inside.marks (noted_of t c.args.self.now.table is c.self.inside.marks c.self.invariant.noted) c.args.txn c.args.start c.loop-number.at c.in-Some.number c.loop-number.invariant.within c.loop-number.invariant.none c.in-Some.ensures.first (sym c.if-bears.ensures)

pub returns-in_err-at : goal.returns-in_err-at
returns-in_err-at c =
    let t : Table = record { shape = c.self.inside.shape; root = c.self.inside.root; next = c.self.inside.next; nodes = c.self.inside.nodes.nodes } in
    let is : t ≡ c.args.self.now.table = ap (λ (s : Roomy). s.table) c.self.view_is in
    let v = valid_of t c.args.self.now.table is c.self.invariant.valid in
    let all = noted_of t c.args.self.now.table is c.self.inside.marks c.self.invariant.noted in
    let none = passed c.args.self.now.table v c.self.inside.marks all c.args.txn c.args.start c.loop-number.at c.in-Some.number c.loop-number.invariant.none c.in-Some.ensures.first (sym c.if-bears.ensures) in
    subst (λ (o : Option ℕ). MatchOption o (HasNoMarkFrom c.args.self.now.table c.args.txn c.args.start) (IsNextMarked c.args.self.now.table c.args.txn c.args.start)) (sym c.from_residual.ensures)
    (full c.args.self.now.table v c.self.inside.marks all c.args.txn c.args.start (c.in-Some.number + 1) none (omega (arith, c.in_err-at.ensures)) c.in-Some.ensures.fits)

pub loop-number-preserved : goal.loop-number-preserved
loop-number-preserved c =
    let t : Table = record { shape = c.self.inside.shape; root = c.self.inside.root; next = c.self.inside.next; nodes = c.self.inside.nodes.nodes } in
    let is : t ≡ c.args.self.now.table = ap (λ (s : Roomy). s.table) c.self.view_is in
    let none = passed c.args.self.now.table (valid_of t c.args.self.now.table is c.self.invariant.valid) c.self.inside.marks (noted_of t c.args.self.now.table is c.self.inside.marks c.self.invariant.noted) c.args.txn c.args.start c.loop-number.at c.in-Some.number c.loop-number.invariant.none c.in-Some.ensures.first (sym c.if-bears.ensures) in
    let next : c.in_ok-at.at ≡ c.in-Some.number + 1 = c.in_ok-at.ensures.1 in
    record {
      within = omega (arith, c.loop-number.invariant.within, c.in-Some.ensures.first.within, next);
      none = subst (NoneBelow c.args.self.now.table (valid_of t c.args.self.now.table is c.self.invariant.valid) c.self.inside.marks (noted_of t c.args.self.now.table is c.self.inside.marks c.self.invariant.noted) c.args.txn c.args.start) (sym next) none;
    }

pub returns : goal.returns
returns c =
    let t : Table = record { shape = c.self.inside.shape; root = c.self.inside.root; next = c.self.inside.next; nodes = c.self.inside.nodes.nodes } in
    let is : t ≡ c.args.self.now.table = ap (λ (s : Roomy). s.table) c.self.view_is in
    over c.args.self.now.table (valid_of t c.args.self.now.table is c.self.invariant.valid) c.self.inside.marks (noted_of t c.args.self.now.table is c.self.inside.marks c.self.invariant.noted) c.args.txn c.args.start c.loop-number.at c.loop-number.invariant.none c.in_default.ensures.first
