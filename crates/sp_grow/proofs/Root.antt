-- The root after an insertion.
use Rattle.std.proofs.Common.{◌≡◌, ℕ, zero, suc, ◌+◌, ◌*◌, ◌^◌, ◌<◌, ◌≤◌, ◌⊎◌, inl, inr, false, List, [], ◌∷◌, ◌++◌, length, map, Option, Some, None, refl, sym, ap, ◌∙◌, subst, arith}
use Rattle.std.specs.Prelude.{nat_eq, MatchOption}
use Rattle.std.specs.List.{AllByRecursion, IsDistinct, sum_by}
use Rattle.std.specs.List.Sorted.{IsPermutation}
use Rattle.std.proofs.lemmas.List.{append-nil}
use Rattle.std.proofs.lemmas.List.Sums.{sum_by-append, sum_by-cons}
use Rattle.sp_rect.specs.Plane.{IsRectangle, whole}
use Rattle.sp_node.specs.declared.node.Entry.{Entry}
use Rattle.sp_node.specs.declared.node.Child.{Child}
use Rattle.sp_node.specs.declared.node.Node.{Node}
use Rattle.sp_node.specs.declared.node.Node.TheVariants.{Inner}
use Rattle.sp_node.specs.declared.plan.Part.{Part}
use Rattle.sp_node.specs.declared.plan.Part.TheVariants.{Now}
use Rattle.sp_node.specs.declared.plan.Plan.{Plan}
use Rattle.sp_node.specs.Among.{Among}
use Rattle.sp_node.specs.Index.{leaf_with}
use Rattle.sp_node.specs.Nested.{Body, Branch, entries, AreSound, IsRootSize}
use Rattle.sp_node.specs.Look.{look, IsAscending}
use Rattle.sp_node.specs.Plan.{with_parts, put_part, IsMadeOf, SameEntries}
use Rattle.sp_node.specs.Standing.{HasNoEntry, IsLeafOf}
use Rattle.sp_node.specs.Table.{Table, body_at, Stands, IsInner, children_in, level_of, entries_of, IsValid, IsValidAt}
use Rattle.sp_node.proofs.Lists.{all_imply}
use Rattle.sp_node.proofs.Among.{all_among}
use Rattle.sp_node.proofs.Adopt.{listed}
use Rattle.sp_node.proofs.Level.{level_is, valid_at}
use Rattle.sp_node.proofs.Standing.{leaf_stands}
use Rattle.sp_grow.specs.Insertion.{Outcome, one, two}
use Rattle.sp_grow.specs.Grown.{IsDone}
use Rattle.sp_grow.specs.Below.{numbers, AreChanges, IsGrownAt, IsRaisedTo, branch_at, outcome_at, EachStands}
use Rattle.sp_grow.specs.declared.left.Left.{Left}
use Rattle.sp_grow.specs.declared.left.Left.TheVariants.{One, Two}
use Rattle.sp_grow.specs.declared.left.Draft.{Draft}
use Rattle.sp_grow.proofs.Numbers.{numbers_places, numbers_left, AreKept, outcome_kept, each_kept}
use Rattle.sp_grow.specs.Reached.{new_numbers}
use Rattle.sp_grow.proofs.Counting.{Counted, grows_numbers, entries_left, grows_entries, grows_all}
use Rattle.sp_grow.proofs.Fits.{Fits, grows_fits}
use Rattle.sp_grow.proofs.Parts.{look_own, look_other, length_put}
use Rattle.sp_grow.proofs.Settled.{put_changes, next_off}
use Rattle.sp_grow.proofs.Spots.{root_spot}
use Rattle.sp_grow.proofs.After.{own, own_low, no_return, then_distinct, then_low, then_whole, then_distinct_entries, then_same, all_members}

module _ (t : Table) (v : IsValid t) (rising : IsAscending t.nodes) (e : Entry) (fresh : leaf_with t.nodes e.number ≡ None) (space : IsRectangle e.rect) (numbers_free : t.next < 2 ^ 63 + 2 ^ 32) where
  -- the entries have not the number
  no_entry : HasNoEntry t e.number
  no_entry = subst (λ (o : Option ℕ). MatchOption o (HasNoEntry t e.number) (IsLeafOf t e.number)) fresh (leaf_stands t v e.number)

  -- changes that leave this tree, of this level
  pub record IsTree (draft : Draft) (root level : ℕ) : Type 0 where
    pub changes : AreChanges t (own t v rising) draft
    pub stands : Stands (look (with_parts t.nodes draft.parts)) level root
    pub count : ℕ
    pub next_is : draft.next ≡ t.next + count
    pub sums : (f : ℕ → ℕ) → sum_by f (numbers level root (body_at (look (with_parts t.nodes draft.parts)) level root)) ≡ sum_by f (own t v rising) + sum_by f (new_numbers t.next count)
    pub root_size : IsRootSize t.shape level (length (body_at (look (with_parts t.nodes draft.parts)) level root))
    pub sound : AreSound t.shape level (body_at (look (with_parts t.nodes draft.parts)) level root)
    pub entry_sums : (w : Entry → ℕ) → sum_by w (entries level (body_at (look (with_parts t.nodes draft.parts)) level root)) ≡ sum_by w (entries_of t) + w e
    pub entry_each : AllByRecursion (λ f. Among f (entries_of t) ⊎ (f ≡ e)) (entries level (body_at (look (with_parts t.nodes draft.parts)) level root))

  module _ (draft : Draft) (root level : ℕ) (h : IsTree draft root level) where
    abbrev tree : Table
    tree = record { shape = t.shape; root = root; next = draft.next; nodes = with_parts t.nodes draft.parts }

    abbrev body : Body level
    body = body_at (look (with_parts t.nodes draft.parts)) level root

    in_space : (f : Entry) → Among f (entries_of t) ⊎ (f ≡ e) → IsRectangle f.rect
    in_space f (inl a) = all_among (λ (x : Entry). IsRectangle x.rect) f (entries_of t) v.in_space a
    in_space f (inr s) = subst (λ (x : Entry). IsRectangle x.rect) (sym s) space

    valid : IsValidAt tree level
    valid =
        let ns = numbers level root body in
        let same = sym (numbers_places level root whole body) in
        record {
          shape = v.shape;
          stands = h.stands;
          whole_table = subst (IsPermutation (map (λ n. n.0) (with_parts t.nodes draft.parts))) same (then_whole t v rising draft h.changes h.count h.next_is ns h.sums);
          distinct = subst (IsDistinct nat_eq) same (then_distinct t v rising draft h.changes h.count h.next_is ns h.sums);
          below_next = subst (AllByRecursion (λ n. n < draft.next)) same (then_low t v rising draft h.changes h.count h.next_is ns h.sums);
          root_size = h.root_size;
          sound = h.sound;
          distinct_entries = then_distinct_entries t v rising e no_entry (entries level body) h.entry_sums;
          in_space = all_imply in_space (entries level body) h.entry_each;
        }

    pub made : IsMadeOf t (record { parts = draft.parts; root = root; next = draft.next })
    made = record {
      valid = valid_at tree level valid;
      next_kept = h.changes.onward;
      no_return = no_return t v rising draft h.changes h.count h.next_is;
      same_entries = subst (λ (l : ℕ). SameEntries (entries_of t) (entries l (body_at (look (with_parts t.nodes draft.parts)) l root))) (sym (level_is tree level valid)) (then_same t v rising e no_entry (entries level body) h.entry_sums h.entry_each);
      ordered = h.changes.ordered;
      differs = h.changes.differs;
    }

    pub level_then : level_of tree ≡ level
    level_then = level_is tree level valid

  -- the root is raised
  module _ (left : Left) (draft : Draft) (g : IsGrownAt t 0 e (level_of t) t.root left draft) where
    abbrev at : ℕ → Option Node
    at = look (with_parts t.nodes draft.parts)

    abbrev outcome : Outcome (Body (level_of t))
    outcome = outcome_at at (level_of t) left

    old : Body (level_of t)
    old = body_at (look t.nodes) (level_of t) t.root

    counted : Counted t.next draft.next (own t v rising) (numbers_left (level_of t) outcome)
    counted = subst (λ (ns : List ℕ). Counted t.next draft.next ns (numbers_left (level_of t) outcome)) (append-nil (own t v rising)) (grows_numbers t.shape v.shape 0 e (level_of t) t.root t.next (body_at (look t.nodes) (level_of t) t.root) outcome draft.next g.grows)

    fits : Fits t.shape v.shape (level_of t) (length (body_at (look t.nodes) (level_of t) t.root)) outcome
    fits = grows_fits t.shape v.shape 0 e tt (level_of t) t.root t.next (body_at (look t.nodes) (level_of t) t.root) outcome draft.next g.grows v.sound (root_spot t v numbers_free).most

    entry_sums : (w : Entry → ℕ) → sum_by w (entries_left (level_of t) outcome) ≡ sum_by w (entries_of t) + w e
    entry_sums w = omega (arith, grows_entries t.shape v.shape w 0 e (level_of t) t.root t.next (body_at (look t.nodes) (level_of t) t.root) outcome draft.next g.grows, sum_by-cons w e [])

    entry_each : AllByRecursion (λ f. Among f (entries_of t) ⊎ (f ≡ e)) (entries_left (level_of t) outcome)
    entry_each =
        grows_all t.shape (λ f. Among f (entries_of t) ⊎ (f ≡ e)) 0 e (level_of t) t.root t.next (body_at (look t.nodes) (level_of t) t.root) outcome draft.next g.grows (all_imply (λ f h. inl h) (entries_of t) (all_members (entries_of t))) (inr refl, tt)

  still_root : (level m n : ℕ) → IsRootSize t.shape level m → m ≤ n → n ≤ t.shape.max → IsRootSize t.shape level n
  still_root zero m n h le most = most
  still_root (suc level) m n h le most = (omega (arith, h.0), most)

  -- the root is left whole
  kept_tree : (a : Child) (draft : Draft) → IsGrownAt t 0 e (level_of t) t.root (One a) draft → IsTree draft a.node (level_of t)
  kept_tree a draft g =
      let c = counted (One a) draft g in
      let f = fits (One a) draft g in
      record {
        changes = g.changes;
        stands = g.stands;
        count = c.count;
        next_is = c.is;
        sums = c.sums;
        root_size = still_root (level_of t) (length (body_at (look t.nodes) (level_of t) t.root)) (length (body_at (look (with_parts t.nodes draft.parts)) (level_of t) a.node)) v.root_size f.1 f.2;
        sound = f.3;
        entry_sums = entry_sums (One a) draft g;
        entry_each = entry_each (One a) draft g;
      }

  done_kept : (a : Child) (draft : Draft) → IsGrownAt t 0 e (level_of t) t.root (One a) draft → IsDone t e (record { parts = draft.parts; root = a.node; next = draft.next })
  done_kept a draft g =
      let h = kept_tree a draft g in
      record {
        made = made draft a.node (level_of t) h;
        grown = record {
          outcome = outcome_at (look (with_parts t.nodes draft.parts)) (level_of t) (One a);
          next = draft.next;
          grows = g.grows;
          root = (refl, refl, level_then draft a.node (level_of t) h, refl);
          shape = refl;
        };
        few = omega (arith, g.few);
      }

  -- the root is split, and a new one stands above its halves
  module _ (a b : Child) (draft : Draft) (g : IsGrownAt t 0 e (level_of t) t.root (Two a b) draft) where
    abbrev halves : Node
    halves = Inner (a ∷ b ∷ [])

    abbrev raised : Draft
    raised = record { parts = put_part draft.parts (Now draft.next halves); next = draft.next + 1 }

    abbrev before : ℕ → Option Node
    before = look (with_parts t.nodes draft.parts)

    abbrev after : ℕ → Option Node
    after = look (with_parts t.nodes raised.parts)

    off : listed draft.parts draft.next ≡ false
    off = next_off t (own t v rising) v.shape (own_low t v rising) (root_spot t v numbers_free).fresh draft g.changes

    nothing : (o : Option Node) → o ≡ None → o ≡ Some halves → ⊥
    nothing o x y = cc

    more : AreChanges t (own t v rising) raised
    more =
        put_changes t (own t v rising) draft g.changes draft.next halves (draft.next + 1) (omega arith) (inr (g.changes.onward, omega arith)) off (λ x. nothing (look t.nodes draft.next) ((root_spot t v numbers_free).fresh draft.next g.changes.onward) x) (λ j ge lt. omega arith)

    low : AllByRecursion (λ n. n < draft.next) (numbers_left (level_of t) (outcome_at before (level_of t) (Two a b)))
    low = let c = counted (Two a b) draft g in then_low t v rising draft g.changes c.count c.is (numbers_left (level_of t) (outcome_at before (level_of t) (Two a b))) c.sums

    kept : AreKept before after (numbers_left (level_of t) (outcome_at before (level_of t) (Two a b)))
    kept = all_imply (λ k lt. look_other t.nodes draft.parts draft.next halves k off (λ s. omega arith)) (numbers_left (level_of t) (outcome_at before (level_of t) (Two a b))) low

    branches : Outcome (Body (level_of t)) → List (Branch (Body (level_of t)))
    branches (one x) = x ∷ []
    branches (two x y) = x ∷ y ∷ []

    here : after draft.next ≡ Some halves
    here = look_own t.nodes draft.parts draft.next halves off

    body_is : body_at after (suc (level_of t)) draft.next ≡ branch_at before (level_of t) a ∷ branch_at before (level_of t) b ∷ []
    unfolding branches
    body_is = ap (λ (n : Option Node). map (branch_at after (level_of t)) (children_in n)) here ∙ ap branches (outcome_kept before after (level_of t) (Two a b) kept)

    stood : EachStands after (level_of t) (Two a b)
    stood = each_kept before after (level_of t) (Two a b) kept g.stands

    raised_tree : IsTree raised draft.next (suc (level_of t))
    raised_tree =
        let c = counted (Two a b) draft g in
        let f = fits (Two a b) draft g in
        let x = branch_at before (level_of t) a in
        let y = branch_at before (level_of t) b in
        let back = sym body_is in
        let half : 2 * t.shape.min ≤ t.shape.max = v.shape.half in
        let least : 2 ≤ t.shape.min = v.shape.least in
        record {
          changes = more;
          stands = (subst IsInner (sym here) tt, subst (λ (n : Option Node). AllByRecursion (λ d. Stands after (level_of t) d.node) (children_in n)) (sym here) (stood.0, (stood.1, tt)));
          count = c.count + 1;
          next_is = omega (arith, c.is);
          sums = λ w. sums_at w c.count c.is (c.sums w);
          root_size = subst (λ (m : Body (suc (level_of t))). IsRootSize t.shape (suc (level_of t)) (length m)) back (omega arith, omega arith);
          sound = subst (AreSound t.shape (suc (level_of t))) back (f.0, (f.1, tt));
          entry_sums = λ w. ap (λ (es : List Entry). sum_by w es) entries_is ∙ entry_sums (Two a b) draft g w;
          entry_each = subst (AllByRecursion (λ f. Among f (entries_of t) ⊎ (f ≡ e))) (sym entries_is) (entry_each (Two a b) draft g);
        }
      where
        entries_is : entries (suc (level_of t)) (body_at after (suc (level_of t)) draft.next) ≡ entries_left (level_of t) (outcome_at before (level_of t) (Two a b))
        entries_is = ap (entries (suc (level_of t))) body_is ∙ ap (λ (es : List Entry). entries (level_of t) (body_at before (level_of t) a.node) ++ es) (append-nil (entries (level_of t) (body_at before (level_of t) b.node)))

        sums_at :
            (w : ℕ → ℕ) (count : ℕ) → draft.next ≡ t.next + count → sum_by w (numbers_left (level_of t) (outcome_at before (level_of t) (Two a b))) ≡ sum_by w (own t v rising) + sum_by w (new_numbers t.next count)
            → sum_by w (numbers (suc (level_of t)) draft.next (body_at after (suc (level_of t)) draft.next)) ≡ sum_by w (own t v rising) + sum_by w (new_numbers t.next (count + 1))
        sums_at w count is sums =
            let xs = numbers (level_of t) a.node (body_at before (level_of t) a.node) in
            let ys = numbers (level_of t) b.node (body_at before (level_of t) b.node) in
            let z : count + 1 ≡ suc count = omega arith in
            omega (
              arith,
              ap (λ (m : Body (suc (level_of t))). sum_by w (numbers (suc (level_of t)) draft.next m)) body_is,
              sum_by-cons w draft.next (xs ++ (ys ++ [])),
              sum_by-append w xs (ys ++ []),
              sum_by-append w ys [],
              sums,
              sum_by-append w xs ys,
              ap (λ (n : ℕ). sum_by w (new_numbers t.next n)) z,
              sum_by-append w (new_numbers t.next count) ((t.next + count) ∷ []),
              sum_by-cons w (t.next + count) [],
              ap w is,
            )

    done_raised : IsDone t e (record { parts = raised.parts; root = draft.next; next = draft.next + 1 })
    done_raised = record {
      made = made raised draft.next (suc (level_of t)) raised_tree;
      grown = record {
        outcome = outcome_at before (level_of t) (Two a b);
        next = draft.next;
        grows = g.grows;
        root = (refl, refl, level_then raised draft.next (suc (level_of t)) raised_tree, body_is);
        shape = refl;
      };
      few = omega (arith, g.few, length_put draft.parts (Now draft.next halves));
    }

  plan_is : (plan : Plan) (ps : List Part) (root next : ℕ) → plan.root ≡ root → plan.next ≡ next → plan.parts ≡ ps → record { parts = ps; root = root; next = next } ≡ plan
  plan_is plan ps root next a b c = λ i. record { parts = sym c i; root = sym a i; next = sym b i }

  pub done : (left : Left) (draft : Draft) (plan : Plan) → IsGrownAt t 0 e (level_of t) t.root left draft → IsRaisedTo left draft plan → IsDone t e plan
  done (One a) draft plan g r = subst (IsDone t e) (plan_is plan draft.parts a.node draft.next r.0 r.1 r.2) (done_kept a draft g)
  done (Two a b) draft plan g r = subst (IsDone t e) (plan_is plan (put_part draft.parts (Now draft.next (Inner (a ∷ b ∷ [])))) draft.next (draft.next + 1) r.0 r.1 r.2) (done_raised a b draft g)
