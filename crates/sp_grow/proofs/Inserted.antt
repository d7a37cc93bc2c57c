-- A tree after the insertion of one member: what the table has then.
use Rattle.std.proofs.Common.{◌≡◌, ℕ, zero, suc, ◌+◌, ◌*◌, ◌<◌, ◌≤◌, inr, Bool, true, false, ◌||◌, List, [], ◌∷◌, ◌++◌, length, map, Option, Some, None, refl, sym, ap, ◌∙◌, subst, arith}
use Rattle.std.specs.Prelude.{nat_eq}
use Rattle.std.specs.List.{AllByRecursion, sum_by}
use Rattle.std.specs.List.Sorted.{IsPermutation}
use Rattle.std.proofs.lemmas.List.{append-nil}
use Rattle.std.proofs.lemmas.List.Folds.{list_any-append}
use Rattle.std.proofs.lemmas.List.Sorted.{list_any-IsPermutation}
use Rattle.std.proofs.lemmas.List.Sums.{sum_by-append, sum_by-cons}
use Rattle.sp_node.specs.declared.node.Entry.{Entry}
use Rattle.sp_node.specs.declared.node.Child.{Child}
use Rattle.sp_node.specs.declared.node.Node.{Node}
use Rattle.sp_node.specs.declared.node.Node.TheVariants.{Inner}
use Rattle.sp_node.specs.declared.plan.Part.{Part}
use Rattle.sp_node.specs.declared.plan.Part.TheVariants.{Now}
use Rattle.sp_node.specs.declared.plan.Plan.{Plan}
use Rattle.sp_node.specs.Among.{Among}
use Rattle.sp_node.specs.Nested.{Member, Body, Branch, entries, AreSound}
use Rattle.sp_node.specs.Look.{look}
use Rattle.sp_node.specs.Plan.{with_parts, put_part}
use Rattle.sp_node.specs.Table.{Table, body_at, Stands, IsInner, children_in}
use Rattle.sp_node.proofs.Lists.{all_imply}
use Rattle.sp_node.proofs.Adopt.{listed}
use Rattle.sp_split.specs.Split.{is_among}
use Rattle.sp_split.proofs.Members.{among_all, permutation_from_sums}
use Rattle.sp_grow.specs.Insertion.{Outcome, one, two, with_outcome, Settles, Grows, here as here_of, below as below_of}
use Rattle.sp_grow.specs.Below.{numbers, numbers_in, Aims, IsSpot, AreChanges, IsGrownAt, IsInsertion, IsRaisedTo, branch_at, outcome_at, EachStands}
use Rattle.sp_grow.specs.declared.member.Member.{Member as Item}
use Rattle.sp_grow.specs.declared.left.Left.{Left}
use Rattle.sp_grow.specs.declared.left.Left.TheVariants.{One, Two}
use Rattle.sp_grow.specs.declared.left.Draft.{Draft}
use Rattle.sp_grow.proofs.Numbers.{numbers_left, among_from_all, AreKept, outcome_kept, each_kept}
use Rattle.sp_grow.specs.Reached.{new_numbers}
use Rattle.sp_grow.proofs.Counting.{new_within, Counted, grows_numbers, entries_left, grows_entries, grows_all}
use Rattle.sp_grow.proofs.Fits.{Fits, grows_fits}
use Rattle.sp_grow.proofs.Parts.{look_own, look_other}
use Rattle.sp_grow.proofs.Settled.{put_changes, next_off}
use Rattle.sp_grow.specs.Nest.{nest}
use Rattle.sp_grow.specs.Reached.{IsPart, IsAfter, Reached, whole, split}

module _ (t : Table) (k : ℕ) (x : Member k) (level : ℕ) (spot : IsSpot t level t.root) (part : IsPart t.shape k x) (low_x : AllByRecursion (λ n. n < t.next) (numbers_in k x)) where
  abbrev own : List ℕ
  own = numbers level t.root (body_at (look t.nodes) level t.root)

  abbrev before_body : Body level
  before_body = body_at (look t.nodes) level t.root

  module _ (left : Left) (draft : Draft) (g : IsGrownAt t k x level t.root left draft) where
    abbrev at : ℕ → Option Node
    at = look (with_parts t.nodes draft.parts)

    abbrev outcome : Outcome (Body level)
    outcome = outcome_at at level left

    counted : Counted t.next draft.next (own ++ numbers_in k x) (numbers_left level outcome)
    counted = grows_numbers t.shape spot.shape k x level t.root t.next before_body outcome draft.next g.grows

    fits : Fits t.shape spot.shape level (length before_body) outcome
    fits = grows_fits t.shape spot.shape k x part level t.root t.next before_body outcome draft.next g.grows spot.sound spot.most

    entry_sums : (w : Entry → ℕ) → sum_by w (entries_left level outcome) ≡ sum_by w (entries level before_body) + sum_by w (entries k (x ∷ []))
    entry_sums w = grows_entries t.shape spot.shape w k x level t.root t.next before_body outcome draft.next g.grows

    entry_each : (es : List Entry) → AllByRecursion (λ f. Among f es) (entries level before_body) → AllByRecursion (λ f. Among f es) (entries k (x ∷ [])) → AllByRecursion (λ f. Among f es) (entries_left level outcome)
    entry_each es h p = grows_all t.shape (λ f. Among f es) k x level t.root t.next before_body outcome draft.next g.grows h p

    -- all numbers are low
    low_then : AllByRecursion (λ n. n < draft.next) (numbers_left level outcome)
    low_then = among_from_all (λ n. n < draft.next) (numbers_left level outcome) each
      where
        old : List ℕ
        old = own ++ numbers_in k x

        moved : IsPermutation ((own ++ numbers_in k x) ++ new_numbers t.next counted.count) (numbers_left level outcome)
        moved = permutation_from_sums ((own ++ numbers_in k x) ++ new_numbers t.next counted.count) (numbers_left level outcome) (λ f. sum_by-append f (own ++ numbers_in k x) (new_numbers t.next counted.count) ∙ sym (counted.sums f))

        each : (j : ℕ) → is_among (numbers_left level outcome) j ≡ true → j < draft.next
        each j h = by_test (is_among own j) (is_among (numbers_in k x) j) (is_among (new_numbers t.next counted.count) j) refl refl refl
            (ap (λ (b : Bool). b || is_among (new_numbers t.next counted.count) j) (sym (list_any-append (nat_eq j) own (numbers_in k x))) ∙ sym (list_any-append (nat_eq j) (own ++ numbers_in k x) (new_numbers t.next counted.count)) ∙ list_any-IsPermutation (nat_eq j) ((own ++ numbers_in k x) ++ new_numbers t.next counted.count) (numbers_left level outcome) moved ∙ h)
          where
            by_test : (a b d : Bool) → is_among own j ≡ a → is_among (numbers_in k x) j ≡ b → is_among (new_numbers t.next counted.count) j ≡ d → ((a || b) || d) ≡ true → j < draft.next
            by_test true b d e y z m = let lt = among_all (λ n. n < t.next) own j spot.below_next e in omega (arith, lt, counted.is)
            by_test false true d e y z m = let lt = among_all (λ n. n < t.next) (numbers_in k x) j low_x y in omega (arith, lt, counted.is)
            by_test false false true e y z m = let r = new_within t.next counted.count j z in omega (arith, r.1, counted.is)
            by_test false false false e y z m = cc

  positive : (size : ℕ) → (0 < level → 0 < length before_body) → length before_body ≤ size → 0 < level → 0 < size
  positive size s le lt = let p = s lt in omega arith

  -- the root is left whole
  after_one : (a : Child) (draft : Draft) → IsGrownAt t k x level t.root (One a) draft → IsAfter t k x level draft.parts a.node draft.next level
  after_one a draft g =
      let c = counted (One a) draft g in
      let f = fits (One a) draft g in
      record {
        stands = g.stands;
        count = c.count;
        next_is = c.is;
        few = omega (arith, g.few_new);
        sums = c.sums;
        sound = f.3;
        most = f.2;
        some = positive (length (body_at (look (with_parts t.nodes draft.parts)) level a.node)) spot.some f.1;
        entry_sums = entry_sums (One a) draft g;
        each = entry_each (One a) draft g;
        owned = g.changes.owned;
        made = g.changes.made;
        now = g.changes.now;
        inserted = record { outcome = one (branch_at (look (with_parts t.nodes draft.parts)) level a); next = draft.next; grows = g.grows; root = refl };
      }

  -- the root is split, and a new one stands above its halves
  module _ (a b : Child) (draft : Draft) (g : IsGrownAt t k x level t.root (Two a b) draft) where
    abbrev halves : Node
    halves = Inner (a ∷ b ∷ [])

    abbrev raised : Draft
    raised = record { parts = put_part draft.parts (Now draft.next halves); next = draft.next + 1 }

    abbrev before : ℕ → Option Node
    before = look (with_parts t.nodes draft.parts)

    abbrev after : ℕ → Option Node
    after = look (with_parts t.nodes raised.parts)

    off : listed draft.parts draft.next ≡ false
    off = next_off t own spot.shape spot.below_next spot.fresh draft g.changes

    nothing : (o : Option Node) → o ≡ None → o ≡ Some halves → ⊥
    nothing o x y = cc

    more : AreChanges t own raised
    more = put_changes t own draft g.changes draft.next halves (draft.next + 1) (omega arith) (inr (g.changes.onward, omega arith)) off (λ x. nothing (look t.nodes draft.next) (spot.fresh draft.next g.changes.onward) x) (λ j ge lt. omega arith)

    low : AllByRecursion (λ n. n < draft.next) (numbers_left level (outcome_at before level (Two a b)))
    low = low_then (Two a b) draft g

    kept : AreKept before after (numbers_left level (outcome_at before level (Two a b)))
    kept = all_imply (λ j lt. look_other t.nodes draft.parts draft.next halves j off (λ s. omega arith)) (numbers_left level (outcome_at before level (Two a b))) low

    branches : Outcome (Body level) → List (Branch (Body level))
    branches (one x) = x ∷ []
    branches (two x y) = x ∷ y ∷ []

    here : after draft.next ≡ Some halves
    here = look_own t.nodes draft.parts draft.next halves off

    body_is : body_at after (suc level) draft.next ≡ branch_at before level a ∷ branch_at before level b ∷ []
    unfolding branches
    body_is = ap (λ (n : Option Node). map (branch_at after level) (children_in n)) here ∙ ap branches (outcome_kept before after level (Two a b) kept)

    stood : EachStands after level (Two a b)
    stood = each_kept before after level (Two a b) kept g.stands

    entries_is : entries (suc level) (body_at after (suc level) draft.next) ≡ entries_left level (outcome_at before level (Two a b))
    entries_is = ap (entries (suc level)) body_is ∙ ap (λ (es : List Entry). entries level (body_at before level a.node) ++ es) (append-nil (entries level (body_at before level b.node)))

    sums_at :
        (w : ℕ → ℕ) (count : ℕ) → draft.next ≡ t.next + count → sum_by w (numbers_left level (outcome_at before level (Two a b))) ≡ sum_by w (own ++ numbers_in k x) + sum_by w (new_numbers t.next count)
        → sum_by w (numbers (suc level) draft.next (body_at after (suc level) draft.next)) ≡ sum_by w (own ++ numbers_in k x) + sum_by w (new_numbers t.next (count + 1))
    sums_at w count is sums =
        let xs = numbers level a.node (body_at before level a.node) in
        let ys = numbers level b.node (body_at before level b.node) in
        let z : count + 1 ≡ suc count = omega arith in
        omega (
          arith,
          ap (λ (m : Body (suc level)). sum_by w (numbers (suc level) draft.next m)) body_is,
          sum_by-cons w draft.next (xs ++ (ys ++ [])),
          sum_by-append w xs (ys ++ []),
          sum_by-append w ys [],
          sums,
          sum_by-append w xs ys,
          ap (λ (n : ℕ). sum_by w (new_numbers t.next n)) z,
          sum_by-append w (new_numbers t.next count) ((t.next + count) ∷ []),
          sum_by-cons w (t.next + count) [],
          ap w is,
        )

    after_two : IsAfter t k x level raised.parts draft.next (draft.next + 1) (suc level)
    after_two =
        let c = counted (Two a b) draft g in
        let f = fits (Two a b) draft g in
        let back = sym body_is in
        let half : 2 * t.shape.min ≤ t.shape.max = spot.shape.half in
        let least : 2 ≤ t.shape.min = spot.shape.least in
        record {
          stands = (subst IsInner (sym here) tt, subst (λ (n : Option Node). AllByRecursion (λ d. Stands after level d.node) (children_in n)) (sym here) (stood.0, (stood.1, tt)));
          count = c.count + 1;
          next_is = omega (arith, c.is);
          few = omega (arith, g.few_new);
          sums = λ w. sums_at w c.count c.is (c.sums w);
          sound = subst (AreSound t.shape (suc level)) back (f.0, (f.1, tt));
          most = subst (λ (m : Body (suc level)). length m ≤ t.shape.max) back (omega arith);
          some = λ lt. subst (λ (m : Body (suc level)). 0 < length m) back (omega arith);
          entry_sums = λ w. ap (λ (es : List Entry). sum_by w es) entries_is ∙ entry_sums (Two a b) draft g w;
          each = λ es h p. subst (AllByRecursion (λ f. Among f es)) (sym entries_is) (entry_each (Two a b) draft g es h p);
          owned = more.owned;
          made = more.made;
          now = more.now;
          inserted = record {
            outcome = outcome_at before level (Two a b);
            next = draft.next;
            grows = g.grows;
            root = ap (nest (suc level) draft.next (draft.next + 1)) body_is;
          };
        }

  root_low : t.root < t.next
  root_low = first level (body_at (look t.nodes) level t.root) spot.below_next
    where
      first : (l : ℕ) (b : Body l) → AllByRecursion (λ n. n < t.next) (numbers l t.root b) → t.root < t.next
      first zero b h = h.0
      first (suc l) b h = h.0

  named_of : (l number next : ℕ) (members : Body l) (b : Branch (Body l)) (next' : ℕ) → Settles t.shape l number next members (one b) next' → b.number ≡ number
  named_of l number next members b next' s = s.1.named

  root_of : (l number next : ℕ) (body : Body l) (b : Branch (Body l)) (next' : ℕ) → Grows t.shape k x l number next body (one b) next' → b.number ≡ number
  root_of l number next body b next' (here_of s) = named_of k number next (body ++ x ∷ []) b next' s
  root_of (suc l) number next body b next' (below_of front c back under mid is chosen g s) = named_of (suc l) number mid (with_outcome front under back) b next' s

  reached_by : (left : Left) (draft : Draft) (plan : Plan) → IsGrownAt t k x level t.root left draft → IsRaisedTo left draft plan → Reached t k x level plan
  reached_by (One a) draft plan g r =
      let named : a.node ≡ t.root = first_named in
      whole (r.0 ∙ named) (subst (λ (ps : List Part). IsAfter t k x level ps plan.root plan.next level) (sym r.2) (subst (λ (n : ℕ). IsAfter t k x level draft.parts plan.root n level) (sym r.1) (subst (λ (n : ℕ). IsAfter t k x level draft.parts n draft.next level) (sym r.0) (after_one a draft g))))
    where
      first_named : a.node ≡ t.root
      first_named = root_of level t.root t.next before_body (branch_at (look (with_parts t.nodes draft.parts)) level a) draft.next g.grows
  reached_by (Two a b) draft plan g r =
      split (λ s. let lt = root_low in omega (arith, s, r.0, g.changes.onward))
      (subst (λ (ps : List Part). IsAfter t k x level ps plan.root plan.next (suc level)) (sym r.2) (subst (λ (n : ℕ). IsAfter t k x level (put_part draft.parts (Now draft.next (Inner (a ∷ b ∷ [])))) plan.root n (suc level)) (sym r.1) (subst (λ (n : ℕ). IsAfter t k x level (put_part draft.parts (Now draft.next (Inner (a ∷ b ∷ [])))) n (draft.next + 1) (suc level)) (sym r.0) (after_two a b draft g))))

  pub reached : (plan : Plan) → IsInsertion t k x level plan → Reached t k x level plan
  reached plan h = reached_by h.step.left h.step.draft plan h.grown h.raised

pub reached_at : (t : Table) (item : Item) (steps : ℕ) (a : Aims t item steps t.root) → IsPart t.shape a.k a.x → (plan : Plan) → IsInsertion t a.k a.x a.level plan → Reached t a.k a.x a.level plan
reached_at t item steps a p plan h = reached t a.k a.x a.level a.spot p (among_from_all (λ n. n < t.next) (numbers_in a.k a.x) (λ j m. (a.inserted.free j m).1)) plan h
