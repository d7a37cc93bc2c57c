-- A root with one child is replaced by it.
use Rattle.std.proofs.Common.{◌≡◌, ℕ, zero, suc, ◌<◌, ◌≤◌, Bool, true, false, ◌||◌, List, [], ◌∷◌, ◌++◌, length, map, Option, Some, None, is_some, refl, sym, ap, ◌∙◌, subst, arith}
use Rattle.std.specs.Prelude.{nat_eq, cond}
use Rattle.std.specs.List.{AllByRecursion, IsDistinct, sum_by}
use Rattle.std.proofs.lemmas.List.{append-nil, length-map}
use Rattle.std.proofs.lemmas.Map.Keys.{IsDistinct-head, IsDistinct-tail}
use Rattle.sp_node.specs.declared.node.Entry.{Entry}
use Rattle.sp_node.specs.declared.node.Child.{Child}
use Rattle.sp_node.specs.declared.node.Node.{Node}
use Rattle.sp_node.specs.declared.node.Node.TheVariants.{Leaf, Inner}
use Rattle.sp_node.specs.declared.plan.Part.TheVariants.{Gone}
use Rattle.sp_node.specs.Among.{Among}
use Rattle.sp_node.specs.Nested.{Body, entries, AreSound, IsRootSize}
use Rattle.sp_node.specs.Look.{look}
use Rattle.sp_node.specs.Table.{Table, body_at, Stands, IsLeaf, IsInner, children_in, entries_of, depth}
use Rattle.sp_node.proofs.Lists.{all_imply}
use Rattle.sp_node.proofs.Adopt.{look_parts}
use Rattle.sp_node.proofs.Level.{HasChildren, depth_is, children_from_sound}
use Rattle.sp_split.specs.Split.{is_among}
use Rattle.sp_split.proofs.Members.{all_none, self_equal, equal_from, unequal_from}
use Rattle.sp_grow.specs.Below.{numbers, branch_at}
use Rattle.sp_grow.specs.Nest.{nest}
use Rattle.sp_grow.specs.Overlay.{Overlay, with_one, with_root}
use Rattle.sp_grow.proofs.Numbers.{AreKept, body_kept, stands_kept}
use Rattle.sp_grow.proofs.Renewed.{part_at_renewed}
use Rattle.sp_condense.specs.Removal.{collapsed}
use Rattle.sp_condense.specs.Staging.{IsStage, all_numbers, at_of, nest_of, IsEnd, HasOnly, HasNotOne}
use Rattle.sp_condense.proofs.Powers.{level_low}

clash : (x : Bool) → x ≡ true → x ≡ false → ⊥
clash x y z = cc

-- the level is found by first children
pub level_found : (t : Table) (e : Entry) (at : ℕ → Option Node) (root next level : ℕ) → IsStage t e at root next level [] → depth at next root ≡ level
level_found t e at root next level s =
    let least : 2 ≤ t.shape.min = s.shape.least in
    let plain : AllByRecursion (λ n. n < next) (numbers level root (body_at at level root)) = subst (AllByRecursion (λ n. n < next)) (append-nil (numbers level root (body_at at level root))) s.low in
    let apart : IsDistinct nat_eq (numbers level root (body_at at level root)) = subst (IsDistinct nat_eq) (append-nil (numbers level root (body_at at level root))) s.distinct in
    let small = level_low t.shape s.shape level root (body_at at level root) next s.sound s.some apart plain (omega (arith, s.room)) in
    depth_is at level next root s.stands (full level s.stands s.sound s.some) small.0
  where
    full : (l : ℕ) → Stands at l root → AreSound t.shape l (body_at at l root) → (0 < l → 0 < length (body_at at l root)) → HasChildren at l root
    full zero st so so' = tt
    full (suc l) st so so' = let least : 2 ≤ t.shape.min = s.shape.least in children_from_sound at t.shape (omega arith) (suc l) root so (so' (omega arith))

-- **one turn**
module _ (e : Entry) (o : Overlay) (level : ℕ) (c : Child) (is : at_of o o.plan.root ≡ Some (Inner (c ∷ []))) (s : IsStage o.before e (at_of o) o.plan.root o.plan.next (suc level) []) where
  abbrev at : ℕ → Option Node
  at = at_of o

  abbrev root : ℕ
  root = o.plan.root

  abbrev o' : Overlay
  o' = with_root (with_one o (Gone root)) c.node

  abbrev at' : ℕ → Option Node
  at' = at_of o'

  at_is : (q : ℕ) → at' q ≡ cond (nat_eq q root) None (at q)
  at_is q = look_parts o.before.nodes o'.plan.parts q ∙ part_at_renewed o.plan.parts (Gone root) q (look o.before.nodes q) ∙ ap (λ (n : Option Node). cond (nat_eq q root) None n) (sym (look_parts o.before.nodes o.plan.parts q))

  at_other : (q : ℕ) → nat_eq q root ≡ false → at' q ≡ at q
  at_other q h = at_is q ∙ ap (λ (x : Bool). cond x None (at q)) h

  at_root : at' root ≡ None
  at_root = at_is root ∙ ap (λ (x : Bool). cond x None (at root)) (self_equal root)

  abbrev below : List ℕ
  below = numbers level c.node (body_at at level c.node)

  body_is : body_at at (suc level) root ≡ branch_at at level c ∷ []
  body_is = ap (λ (n : Option Node). map (branch_at at level) (children_in n)) is

  all_is : all_numbers at root (suc level) [] ≡ root ∷ below
  all_is = ap (λ (b : Body (suc level)). numbers (suc level) root b ++ []) body_is ∙ append-nil (root ∷ (below ++ [])) ∙ ap (λ (ns : List ℕ). root ∷ ns) (append-nil below)

  low_all : AllByRecursion (λ n. n < o.plan.next) (root ∷ below)
  low_all = subst (AllByRecursion (λ n. n < o.plan.next)) all_is s.low

  distinct_all : IsDistinct nat_eq (root ∷ below)
  distinct_all = subst (IsDistinct nat_eq) all_is s.distinct

  root_apart : AllByRecursion (λ k. nat_eq root k ≡ false) below
  root_apart = IsDistinct-head nat_eq root below distinct_all

  turned : (a b : ℕ) → nat_eq a b ≡ false → nat_eq b a ≡ false
  turned a b h = unequal_from b a (λ x. clash (nat_eq a b) (ap (nat_eq a) x ∙ self_equal a) h)

  kept : AreKept at at' below
  kept = all_imply (λ k h. at_other k (turned root k h)) below root_apart

  body_then : body_at at' level c.node ≡ body_at at level c.node
  body_then = body_kept at at' level c.node kept

  all_then : all_numbers at' c.node level [] ≡ below
  all_then = append-nil (numbers level c.node (body_at at' level c.node)) ∙ ap (numbers level c.node) body_then

  member : (k : ℕ) → is_among (all_numbers at root (suc level) []) k ≡ (nat_eq k root || is_among below k)
  member k = ap (λ (ns : List ℕ). is_among ns k) all_is

  stood : AllByRecursion (λ d. Stands at level d.node) (c ∷ [])
  stood = subst (λ (n : Option Node). AllByRecursion (λ d. Stands at level d.node) (children_in n)) is s.stands.1

  exact : (k : ℕ) → is_some (at' k) ≡ is_among (all_numbers at' c.node level []) k
  exact k = by_test (nat_eq k root) refl
    where
      goal : Bool → Type 0
      goal b = is_some (at' k) ≡ b

      by_test : (x : Bool) → nat_eq k root ≡ x → is_some (at' k) ≡ is_among (all_numbers at' c.node level []) k
      by_test true h =
          let same : k ≡ root = equal_from k root h in
          ap (λ (j : ℕ). is_some (at' j)) same ∙ ap is_some at_root ∙ sym (ap (λ (j : ℕ). is_among below j) same ∙ all_none below root root_apart) ∙ sym (ap (λ (ns : List ℕ). is_among ns k) all_then)
      by_test false h = ap is_some (at_other k h) ∙ s.exact k ∙ member k ∙ ap (λ (x : Bool). x || is_among below k) h ∙ sym (ap (λ (ns : List ℕ). is_among ns k) all_then)

  sound_child : AreSound o.before.shape (suc level) (branch_at at level c ∷ [])
  sound_child = subst (AreSound o.before.shape (suc level)) body_is s.sound

  entries_is : entries (suc level) (body_at at (suc level) root) ≡ entries level (body_at at' level c.node)
  entries_is = ap (entries (suc level)) body_is ∙ append-nil (entries level (body_at at level c.node)) ∙ ap (entries level) (sym body_then)

  pub stage_turn : IsStage o.before e at' c.node o.plan.next level []
  stage_turn =
      let back = sym body_then in
      let child = sound_child.0 in
      let least : 2 ≤ o.before.shape.min = s.shape.least in
      record {
        shape = s.shape;
        stands = stands_kept at at' level c.node kept stood.0;
        some = λ lt. subst (λ (m : Body level). 0 < length m) back (omega (arith, child.1));
        most = subst (λ (m : Body level). length m ≤ o.before.shape.max) back child.2;
        sound = subst (AreSound o.before.shape level) back child.3;
        parts = tt;
        distinct = subst (IsDistinct nat_eq) (sym all_then) (IsDistinct-tail nat_eq root below distinct_all);
        low = subst (AllByRecursion (λ n. n < o.plan.next)) (sym all_then) low_all.1;
        exact = exact;
        old = λ k h lt. s.old k (member k ∙ or_true (nat_eq k root) (is_among below k) (sym (ap (λ (ns : List ℕ). is_among ns k) all_then) ∙ h)) lt;
        onward = s.onward;
        entry_sums = λ w. omega (arith, s.entry_sums w, ap (sum_by w) entries_is);
        each = subst (AllByRecursion (λ f. Among f (entries_of o.before))) entries_is s.each;
        each_orphan = tt;
        room = omega (arith, s.room);
        few = s.few;
      }
    where
      or_true : (x y : Bool) → y ≡ true → (x || y) ≡ true
      or_true true y h = refl
      or_true false y h = h

  pub nest_turn : collapsed (suc level) root o.plan.next (body_at at (suc level) root) ≡ collapsed level c.node o.plan.next (body_at at' level c.node)
  nest_turn = ap (collapsed (suc level) root o.plan.next) body_is ∙ ap (collapsed level c.node o.plan.next) (sym body_then)

-- as far as it has come
pub record Falls (e : Entry) (o : Overlay) (level : ℕ) (o' : Overlay) : Type 0 where
  pub low : ℕ
  pub stage : IsStage o.before e (at_of o') o'.plan.root o'.plan.next low []
  pub same : o'.before ≡ o.before
  pub is : collapsed low o'.plan.root o'.plan.next (body_at (at_of o') low o'.plan.root) ≡ collapsed level o.plan.root o.plan.next (body_at (at_of o) level o.plan.root)

module _ (e : Entry) (o : Overlay) (level : ℕ) (p : Overlay) (f : Falls e o level p) where
  abbrev here_stage : (low : ℕ) → Type 0
  here_stage low = IsStage p.before e (at_of p) p.plan.root p.plan.next low []

  here : IsStage p.before e (at_of p) p.plan.root p.plan.next f.low []
  here = subst (λ (t : Table). IsStage t e (at_of p) p.plan.root p.plan.next f.low []) (sym f.same) f.stage

  pub falls : (child : ℕ) → HasOnly p child → Falls e o level (with_root (with_one p (Gone p.plan.root)) child)
  falls child h = by_level f.low here f.is
    where
      by_level : (low : ℕ) → here_stage low → collapsed low p.plan.root p.plan.next (body_at (at_of p) low p.plan.root) ≡ collapsed level o.plan.root o.plan.next (body_at (at_of o) level o.plan.root) → Falls e o level (with_root (with_one p (Gone p.plan.root)) child)
      by_level zero s is = absurd (subst IsLeaf h.2 s.stands)
      by_level (suc low) s is = subst (λ (k : ℕ). Falls e o level (with_root (with_one p (Gone p.plan.root)) k)) h.1 (record {
        low = low;
        stage = subst (λ (t : Table). IsStage t e (at_of (with_root (with_one p (Gone p.plan.root)) h.0.node)) h.0.node p.plan.next low []) f.same (stage_turn e p low h.0 h.2 s);
        same = f.same;
        is = sym (nest_turn e p low h.0 h.2 s) ∙ is;
      })

  pub lower : (child : ℕ) → HasOnly p child → (g : Falls e o level (with_root (with_one p (Gone p.plan.root)) child)) → depth (at_of (with_root (with_one p (Gone p.plan.root)) child)) p.plan.next child < depth (at_of p) p.plan.next p.plan.root
  lower child h g =
      let above = level_found p.before e (at_of p) p.plan.root p.plan.next f.low here in
      by_level f.low here above
    where
      by_level : (low : ℕ) → here_stage low → depth (at_of p) p.plan.next p.plan.root ≡ low → depth (at_of (with_root (with_one p (Gone p.plan.root)) child)) p.plan.next child < depth (at_of p) p.plan.next p.plan.root
      by_level zero s is = absurd (subst IsLeaf h.2 s.stands)
      by_level (suc low) s is =
          let under = level_found p.before e (at_of (with_root (with_one p (Gone p.plan.root)) h.0.node)) h.0.node p.plan.next low (stage_turn e p low h.0 h.2 s) in
          let same = subst (λ (k : ℕ). depth (at_of (with_root (with_one p (Gone p.plan.root)) k)) p.plan.next k ≡ low) h.1 under in
          omega arith

  pub ends : HasNotOne p → IsEnd e o level p
  ends none = record {
    low = f.low;
    stage = f.stage;
    same = f.same;
    is = by_level f.low here ∙ f.is;
    full = subst (λ (t : Table). IsRootSize t.shape f.low (length (body_at (at_of p) f.low p.plan.root))) f.same (size f.low here);
  }
    where
      inner_is : (n : Option Node) → IsInner n → n ≡ Some (Inner (children_in n))
      inner_is None h = absurd h
      inner_is (Some (Leaf es)) h = absurd h
      inner_is (Some (Inner cs)) h = refl

      at_root : (low : ℕ) → here_stage (suc low) → (cs : List Child) → children_in (at_of p p.plan.root) ≡ cs → at_of p p.plan.root ≡ Some (Inner cs)
      at_root low s cs e = inner_is (at_of p p.plan.root) s.stands.0 ∙ ap (λ (ds : List Child). Some (Inner ds)) e

      size : (low : ℕ) → here_stage low → IsRootSize p.before.shape low (length (body_at (at_of p) low p.plan.root))
      size zero s = s.most
      size (suc low) s = (many (children_in (at_of p p.plan.root)) refl, s.most)
        where
          long : length (body_at (at_of p) (suc low) p.plan.root) ≡ length (children_in (at_of p p.plan.root))
          long = length-map (children_in (at_of p p.plan.root)) (branch_at (at_of p) low)

          many : (cs : List Child) → children_in (at_of p p.plan.root) ≡ cs → 2 ≤ length (body_at (at_of p) (suc low) p.plan.root)
          many [] e = let z = ap (λ (ds : List Child). length ds) e in let some = s.some (omega arith) in absurd (omega (arith, long, z, some))
          many (c ∷ []) e = absurd (none c (at_root low s (c ∷ []) e))
          many (c ∷ d ∷ cs) e = let z = ap (λ (ds : List Child). length ds) e in omega (arith, long, z)

      by_level : (low : ℕ) → here_stage low → nest_of p low ≡ collapsed low p.plan.root p.plan.next (body_at (at_of p) low p.plan.root)
      by_level zero s = refl
      by_level (suc low) s = by_children (children_in (at_of p p.plan.root)) refl
        where
          by_children : (cs : List Child) → children_in (at_of p p.plan.root) ≡ cs → nest_of p (suc low) ≡ collapsed (suc low) p.plan.root p.plan.next (body_at (at_of p) (suc low) p.plan.root)
          by_children [] e = let b = ap (map (branch_at (at_of p) low)) e in ap (nest (suc low) p.plan.root p.plan.next) b ∙ sym (ap (collapsed (suc low) p.plan.root p.plan.next) b)
          by_children (c ∷ []) e = absurd (none c (at_root low s (c ∷ []) e))
          by_children (c ∷ d ∷ cs) e = let b = ap (map (branch_at (at_of p) low)) e in ap (nest (suc low) p.plan.root p.plan.next) b ∙ sym (ap (collapsed (suc low) p.plan.root p.plan.next) b)

pub falls_start : (e : Entry) (o : Overlay) (level : ℕ) → IsStage o.before e (at_of o) o.plan.root o.plan.next level [] → Falls e o level o
falls_start e o level s = record { low = level; stage = s; same = refl; is = refl }
