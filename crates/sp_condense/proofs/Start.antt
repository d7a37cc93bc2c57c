-- The tree after the way up, before any orphan is inserted.
use Rattle.std.proofs.Common.{◌≡◌, ℕ, zero, suc, ◌+◌, ◌*◌, ◌^◌, ◌<◌, ◌≤◌, Bool, true, false, ◌||◌, List, [], ◌∷◌, ◌++◌, length, map, Option, Some, None, is_some, refl, sym, ap, ◌∙◌, subst, arith}
use Rattle.std.specs.Prelude.{nat_eq, cond}
use Rattle.std.specs.List.{AllByRecursion, IsDistinct, sum_by}
use Rattle.std.specs.List.Sorted.{IsPermutation}
use Rattle.std.specs.Option.{IsSome}
use Rattle.std.proofs.lemmas.Bool.Decides.{nat_tests}
use Rattle.std.proofs.lemmas.Cmp.{nat_eq_equiv}
use Rattle.std.proofs.lemmas.List.Folds.{list_any-append}
use Rattle.std.proofs.lemmas.List.Sorted.{list_any-IsPermutation}
use Rattle.std.proofs.lemmas.List.Sums.{sum_by-append, sum_by-cons}
use Rattle.std.proofs.lemmas.Map.Keys.{IsDistinct-head, IsDistinct-IsPermutation}
use Rattle.sp_node.specs.declared.node.Node.{Node}
use Rattle.sp_node.specs.declared.node.Shape.{Shape}
use Rattle.sp_node.specs.declared.plan.Part.{Part}
use Rattle.sp_node.specs.declared.plan.Part.TheVariants.{Now}
use Rattle.sp_node.specs.Among.{Among}
use Rattle.sp_node.specs.Nested.{Member, Body, Branch, entries, AreSound, IsRootSize}
use Rattle.sp_node.specs.Look.{look, IsAscending}
use Rattle.sp_node.specs.Plan.{number_of, content, AreOrdered}
use Rattle.sp_node.specs.Table.{Table, body_at, Stands, IsLeaf, IsInner, children_in, level_of, entries_of, IsValid}
use Rattle.sp_node.proofs.Lists.{all_imply, all_append, all_map, all_both}
use Rattle.sp_node.proofs.Frame.{all_flat_map}
use Rattle.sp_node.proofs.Adopt.{part_at, look_parts}
use Rattle.sp_split.specs.Split.{is_among}
use Rattle.sp_split.proofs.Members.{among_all, all_none, self_equal, unequal_from, permutation_from_sums}
use Rattle.sp_grow.specs.declared.member.Member.{Member as Item}
use Rattle.sp_grow.specs.declared.member.Member.TheVariants.{Entry as EntryOf, Child as ChildOf}
use Rattle.sp_grow.specs.Below.{numbers, numbers_in, branch_at}
use Rattle.sp_grow.specs.Overlay.{Overlay, all_renewed}
use Rattle.sp_grow.proofs.After.{own, own_low, own_distinct, own_look, all_members}
use Rattle.sp_grow.proofs.Numbers.{among_from_all}
use Rattle.sp_grow.proofs.Renewed.{part_at_renewed, part_at_all}
use Rattle.sp_grow.proofs.Spots.{root_spot}
use Rattle.sp_condense.specs.declared.orphans.Orphan.{Orphan as Found}
use Rattle.sp_condense.specs.declared.rest.Rest.{Rest}
use Rattle.sp_condense.specs.Removal.{Orphan}
use Rattle.sp_condense.specs.Taking.{under, Follows, Reads, IsFound, AreFound, orphan_numbers, IsTaken}
use Rattle.sp_condense.specs.Staging.{IsStage, all_numbers, at_of, Ready, begun}
use Rattle.sp_condense.proofs.Powers.{level_low}
use Rattle.sp_condense.proofs.Removing.{Leaves, removes_sound, removes_few, removes_entries, removes_each}
use Rattle.sp_condense.proofs.Stages.{distinct_front}
use Rattle.sp_condense.proofs.Taken.{numbers_under, body_read, stands_read}

-- parts of rising numbers say what stands under their numbers
pub own_parts : (ps : List Part) (o : ℕ → Option Node) → AreOrdered ps → AllByRecursion (λ p. part_at ps (number_of p) (o (number_of p)) ≡ content p) ps
own_parts [] o a = tt
own_parts (p ∷ ps) o a = (
  ap (λ (b : Bool). cond b (content p) (part_at ps (number_of p) (o (number_of p)))) (self_equal (number_of p)),
  all_imply (λ q h. ap (λ (b : Bool). cond b (content p) (part_at ps (number_of q) (o (number_of q)))) (larger (number_of p) (number_of q) h.0) ∙ h.1) ps (all_both (λ q. number_of p < number_of q) (λ q. part_at ps (number_of q) (o (number_of q)) ≡ content q) ps a.0 (own_parts ps o a.1)),
)
  where
    larger : (m n : ℕ) → m < n → nat_eq n m ≡ false
    larger m n lt = grind (arith, nat_tests)

pub unlisted_parts : (ps : List Part) (k : ℕ) (o : Option Node) → AllByRecursion (λ p. ¬ (number_of p ≡ k)) ps → part_at ps k o ≡ o
unlisted_parts [] k o h = refl
unlisted_parts (p ∷ ps) k o h = ap (λ (b : Bool). cond b (content p) (part_at ps k o)) (unequal_from k (number_of p) (λ e. h.0 (sym e))) ∙ unlisted_parts ps k o h.1

-- each number of a tree has a node
module _ (at : ℕ → Option Node) where
  leaf_some : (o : Option Node) → IsLeaf o → IsSome o
  leaf_some None h = absurd h
  leaf_some (Some n) h = refl

  inner_some : (o : Option Node) → IsInner o → IsSome o
  inner_some None h = absurd h
  inner_some (Some n) h = refl

  pub stands_some : (level n : ℕ) → Stands at level n → AllByRecursion (λ k. IsSome (at k)) (numbers level n (body_at at level n))
  stands_some zero n s = (leaf_some (at n) s, tt)
  stands_some (suc level) n s = (
    inner_some (at n) s.0,
    all_flat_map (λ k. IsSome (at k)) (λ (b : Branch (Body level)). numbers level b.number b.body) (map (branch_at at level) (children_in (at n)))
        (all_map (λ (b : Branch (Body level)). AllByRecursion (λ k. IsSome (at k)) (numbers level b.number b.body)) (branch_at at level) (children_in (at n)) (all_imply (λ c h. stands_some level c.node h) (children_in (at n)) s.1)),
  )

  found_one : (item : Item) (k : ℕ) (x : Member k) → IsFound at item k x → AllByRecursion (λ j. IsSome (at j)) (numbers_in k x)
  found_one (EntryOf e) zero x h = tt
  found_one (EntryOf e) (suc j) x h = absurd h
  found_one (ChildOf c) zero x h = absurd h
  found_one (ChildOf c) (suc j) x h = subst (λ (y : Member (suc j)). AllByRecursion (λ j. IsSome (at j)) (numbers_in (suc j) y)) (sym h.0) (stands_some j c.node h.1)

  found_some : (top : ℕ) (fs : List Found) (os : List Orphan) → AreFound at top fs os → AllByRecursion (λ j. IsSome (at j)) (orphan_numbers os)
  found_some top [] [] h = tt
  found_some top [] (o ∷ os) h = absurd h
  found_some top (f ∷ fs) [] h = absurd h
  found_some top (f ∷ fs) (o ∷ os) h = all_append (λ j. IsSome (at j)) (numbers_in o.level o.member) (orphan_numbers os) (found_one f.member o.level o.member h.1) (found_some top fs os h.2)

clash : (x : Bool) → x ≡ true → x ≡ false → ⊥
clash x y z = cc

two : (shape : Shape) (level size : ℕ) → IsRootSize shape level size → 0 < level → 2 ≤ size
two shape zero size s lt = absurd (omega arith)
two shape (suc level) size s lt = s.0

module _ (t : Table) (v : IsValid t) (rising : IsAscending t.nodes) (numbers_free : t.next < 2 ^ 63 + 2 ^ 32) (number : ℕ) (rest : Rest) (b : IsTaken t number (level_of t) t.root 0 rest) where
  abbrev pub level : ℕ
  level = level_of t

  abbrev pub before : ℕ → Option Node
  before = look t.nodes

  abbrev pub body : Body level
  body = body_at before level t.root

  abbrev pub o : Overlay
  o = begun t rest.parts rest.node

  abbrev pub at : ℕ → Option Node
  at = at_of o

  at_is : (q : ℕ) → at q ≡ cond (nat_eq q t.root) (Some rest.node) (part_at rest.parts q (before q))
  at_is q = look_parts t.nodes o.plan.parts q ∙ part_at_renewed (all_renewed [] rest.parts) (Now t.root rest.node) q (before q) ∙ ap (λ (n : Option Node). cond (nat_eq q t.root) (Some rest.node) n) (part_at_all [] rest.parts q (before q))

  at_root : at t.root ≡ Some rest.node
  at_root = at_is t.root ∙ ap (λ (x : Bool). cond x (Some rest.node) (part_at rest.parts t.root (before t.root))) (self_equal t.root)

  at_other : (q : ℕ) → (q ≡ t.root → ⊥) → at q ≡ part_at rest.parts q (before q)
  at_other q d = at_is q ∙ ap (λ (x : Bool). cond x (Some rest.node) (part_at rest.parts q (before q))) (unequal_from q t.root d)

  own_is : own t v rising ≡ t.root ∷ under level body
  own_is = numbers_under level t.root body

  root_apart : is_among (under level body) t.root ≡ false
  root_apart = all_none (under level body) t.root (IsDistinct-head nat_eq t.root (under level body) (subst (IsDistinct nat_eq) own_is (own_distinct t v rising)))

  not_root : (k : ℕ) → is_among (under level body) k ≡ true → k ≡ t.root → ⊥
  not_root k h e = clash (is_among (under level body) k) h (ap (is_among (under level body)) e ∙ root_apart)

  follows : Follows before at (under level body) rest.parts
  follows = record {
    said = all_imply (λ p h. at_other (number_of p) (not_root (number_of p) h.0) ∙ h.1) rest.parts (all_both (λ p. is_among (under level body) (number_of p) ≡ true) (λ p. part_at rest.parts (number_of p) (before (number_of p)) ≡ content p) rest.parts b.owned (own_parts rest.parts before b.ordered));
    kept = λ k h l. at_other k (not_root k h) ∙ unlisted_parts rest.parts k (before k) l;
  }

  reads : Reads at level rest.node b.left
  reads = b.reads at follows

  body_is : body_at at level t.root ≡ b.left
  body_is = body_read at t.root level rest.node b.left at_root reads

  stood : Stands at level t.root
  stood = stands_read at t.root level rest.node b.left at_root reads

  leaves : Leaves t.shape level body b.left b.orphans
  leaves = removes_sound t.shape level body b.entry b.left b.orphans b.removes v.sound

  abbrev all : List ℕ
  all = all_numbers at t.root level b.orphans

  sums : (f : ℕ → ℕ) → sum_by f all + sum_by f b.gone ≡ sum_by f (own t v rising)
  sums f =
      omega (
        arith,
        sum_by-append f (numbers level t.root (body_at at level t.root)) (orphan_numbers b.orphans),
        ap (λ (m : Body level). sum_by f (numbers level t.root m)) body_is,
        ap (sum_by f) (numbers_under level t.root b.left),
        sum_by-cons f t.root (under level b.left),
        ap (sum_by f) own_is,
        sum_by-cons f t.root (under level body),
        b.sums f,
      )

  moved : IsPermutation (own t v rising) (all ++ b.gone)
  moved = permutation_from_sums (own t v rising) (all ++ b.gone) (λ f. omega (arith, sums f, sum_by-append f all b.gone))

  members : (k : ℕ) → is_among (own t v rising) k ≡ (is_among all k || is_among b.gone k)
  members k = list_any-IsPermutation (nat_eq k) (own t v rising) (all ++ b.gone) moved ∙ list_any-append (nat_eq k) all b.gone

  in_own : (k : ℕ) → is_among all k ≡ true → is_among (own t v rising) k ≡ true
  in_own k h = members k ∙ ap (λ (x : Bool). x || is_among b.gone k) h

  pub found : AreFound at (0 + level) rest.orphans.items b.orphans
  found = b.found at follows

  each_some : AllByRecursion (λ k. IsSome (at k)) all
  each_some = all_append (λ k. IsSome (at k)) (numbers level t.root (body_at at level t.root)) (orphan_numbers b.orphans) (stands_some at level t.root stood) (found_some at (0 + level) rest.orphans.items b.orphans found)

  exact : (k : ℕ) → is_some (at k) ≡ is_among all k
  exact k = by_test (is_among all k) (is_among b.gone k) refl refl
    where
      none_is : (x : Option Node) → x ≡ None → is_some x ≡ false
      none_is x e = ap is_some e

      first : (xs : List ℕ) (x : ℕ) → is_among (x ∷ xs) x ≡ true
      first xs x = ap (λ (c : Bool). c || is_among xs x) (self_equal x)

      in_under : is_among (under level body) k ≡ true → is_among (own t v rising) k ≡ true
      in_under h = ap (λ (ns : List ℕ). is_among ns k) own_is ∙ ap (λ (x : Bool). nat_eq k t.root || x) h ∙ or_true (nat_eq k t.root)
        where
          or_true : (x : Bool) → (x || true) ≡ true
          or_true true = refl
          or_true false = refl

      outside : is_among (own t v rising) k ≡ false → is_some (at k) ≡ false
      outside no_own =
          let other : k ≡ t.root → ⊥ = λ e. clash (is_among (own t v rising) k) (ap (λ (ns : List ℕ). is_among ns k) own_is ∙ ap (λ (n : ℕ). is_among (t.root ∷ under level body) n) e ∙ first (under level body) t.root) no_own in
          let off : AllByRecursion (λ p. ¬ (number_of p ≡ k)) rest.parts = all_imply (λ p h e. clash (is_among (own t v rising) k) (in_under (ap (is_among (under level body)) (sym e) ∙ h)) no_own) rest.parts b.owned in
          ap is_some (at_other k other ∙ unlisted_parts rest.parts k (before k) off) ∙ own_look t v rising k ∙ no_own

      by_test : (x y : Bool) → is_among all k ≡ x → is_among b.gone k ≡ y → is_some (at k) ≡ x
      by_test true y p q = among_all (λ j. IsSome (at j)) all k each_some p
      by_test false true p q = none_is (at k) (among_all (λ j. at j ≡ None) b.gone k (b.dropped at follows) q)
      by_test false false p q = outside (members k ∙ both (is_among all k) (is_among b.gone k) p q)
        where
          both : (c d : Bool) → c ≡ false → d ≡ false → (c || d) ≡ false
          both c d u w = cc

  few_levels : level ≤ 65
  few_levels = (level_low t.shape v.shape level t.root body t.next v.sound (root_spot t v numbers_free).some (own_distinct t v rising) (own_low t v rising) (omega arith)).1

  pub stage : IsStage t b.entry at t.root t.next level b.orphans
  stage =
      let back = sym body_is in
      let half : 2 * t.shape.min ≤ t.shape.max = v.shape.half in
      let most : t.shape.max ≤ 64 = v.shape.most in
      let each = removes_each (λ f. Among f (entries_of t)) t.shape level body b.entry b.left b.orphans b.removes (all_members (entries_of t)) in
      record {
        shape = v.shape;
        stands = stood;
        some = λ lt. subst (λ (m : Body level). 0 < length m) back (let many = two t.shape level (length body) v.root_size lt in omega (arith, many, leaves.one));
        most = subst (λ (m : Body level). length m ≤ t.shape.max) back (let high = (root_spot t v numbers_free).most in omega (arith, high, leaves.less));
        sound = subst (AreSound t.shape level) back leaves.sound;
        parts = leaves.parts;
        distinct = distinct_front all b.gone (IsDistinct-IsPermutation nat_eq nat_eq_equiv.symm (own t v rising) (all ++ b.gone) moved (own_distinct t v rising));
        low = among_from_all (λ n. n < t.next) all (λ k h. among_all (λ n. n < t.next) (own t v rising) k (own_low t v rising) (in_own k h));
        exact = exact;
        old = λ k h lt. own_look t v rising k ∙ in_own k h;
        onward = omega arith;
        entry_sums = λ w. omega (arith, ap (λ (m : Body level). sum_by w (entries level m)) body_is, removes_entries w t.shape level body b.entry b.left b.orphans b.removes);
        each = subst (λ (m : Body level). AllByRecursion (λ f. Among f (entries_of t)) (entries level m)) back each.0;
        each_orphan = each.1;
        room = let few = removes_few t.shape (omega arith) level body b.entry b.left b.orphans b.removes in let l = few_levels in omega (arith, few, l);
        few = let few = removes_few t.shape (omega arith) level body b.entry b.left b.orphans b.removes in let l = few_levels in omega (arith, few, l);
      }

  pub up_is : level ≡ (0 + level) + 0
  up_is = omega arith

  abbrev pub ready : Ready b.entry o rest.orphans.items 0
  ready = record { level = level; top = 0 + level; orphans = b.orphans; stage = stage; found = found; raised_is = up_is }

  pub left_is : body_at at level t.root ≡ b.left
  left_is = body_is
