-- A change of entries that leaves their numbers and rectangles leaves the tree as it stands: its nodes, spaces
-- and rectangles, and that it is valid.
use Rattle.std.proofs.Common.{◌≡◌, ℕ, zero, suc, ◌<◌, ◌≤◌, Bool, true, false, cond, ◌||◌, List, [], ◌∷◌, ◌++◌, length, Option, Some, None, map, refl, sym, ap, ◌∙◌, subst}
use Rattle.std.specs.Prelude.{nat_eq}
use Rattle.std.specs.List.{AllByRecursion, flat_map, IsDistinct}
use Rattle.std.specs.List.Sorted.{IsPermutation}
use Rattle.std.specs.Option.{option_map}
use Rattle.std.proofs.lemmas.List.{length-map, map-append}
use Rattle.sp_rect.specs.Plane.{Rectangle, whole, IsRectangle}
use Rattle.sp_rect.specs.Inside.{bound_of}
use Rattle.sp_node.specs.declared.node.Entry.{Entry}
use Rattle.sp_node.specs.declared.node.Child.{Child}
use Rattle.sp_node.specs.declared.node.Node.{Node}
use Rattle.sp_node.specs.declared.node.Node.TheVariants.{Leaf, Inner}
use Rattle.sp_node.specs.declared.node.Shape.{Shape}
use Rattle.sp_node.specs.Look.{look, entries_in, entries_of_node, IsAscending}
use Rattle.sp_node.specs.Nested.{Body, Branch, Member, Place, places, rects, entries, AreSound, IsRootSize}
use Rattle.sp_node.specs.Table.{Table, children_in, body_at, IsLeaf, IsInner, Stands, below_first, depth, level_of, numbers_at, places_of, entries_of, IsValidAt, IsValid}
use Rattle.sp_node.specs.Change.{node_with, nodes_with, table_with, Keeps}
use Rattle.sp_node.specs.Known.{is_known}
use Rattle.sp_node.specs.Index.{has_number, IsIndex, AreAllKnown, leaf_with}
use Rattle.sp_node.proofs.Lists.{all_map, all_imply}

module _ (change : Entry → Entry) where
  -- members with the entries below them changed
  abbrev pub member_with : (level : ℕ) → Member level → Member level
  member_with zero e = change e
  member_with (suc level) b = record { rect = b.rect; number = b.number; body = map (member_with level) b.body }

  abbrev pub body_with : (level : ℕ) → Body level → Body level
  body_with level members = map (member_with level) members

  abbrev pub place_with : Place → Place
  place_with p = record { number = p.number; space = p.space; level = p.level; body = body_with p.level p.body }

  abbrev pub at_with : (ℕ → Option Node) → ℕ → Option Node
  at_with at k = option_map (node_with change) (at k)

  pub look_with : (nodes : List (ℕ × Node)) (k : ℕ) → look (nodes_with change nodes) k ≡ option_map (node_with change) (look nodes k)
  look_with [] k = refl
  look_with (n ∷ ns) k = ap (λ (o : Option Node). cond (nat_eq k n.0) (Some (node_with change n.1)) o) (look_with ns k) ∙ turn (nat_eq k n.0)
    where
      turn : (b : Bool) → cond b (Some (node_with change n.1)) (option_map (node_with change) (look ns k)) ≡ option_map (node_with change) (cond b (Some n.1) (look ns k))
      turn true = refl
      turn false = refl

  children_with : (o : Option Node) → children_in (option_map (node_with change) o) ≡ children_in o
  children_with None = refl
  children_with (Some (Leaf es)) = refl
  children_with (Some (Inner cs)) = refl

  entries_in_with : (o : Option Node) → entries_in (option_map (node_with change) o) ≡ map change (entries_in o)
  entries_in_with None = refl
  entries_in_with (Some (Leaf es)) = refl
  entries_in_with (Some (Inner cs)) = refl

  leaf_with_change : (o : Option Node) → IsLeaf o → IsLeaf (option_map (node_with change) o)
  leaf_with_change None h = h
  leaf_with_change (Some (Leaf es)) h = h
  leaf_with_change (Some (Inner cs)) h = h

  inner_with_change : (o : Option Node) → IsInner o → IsInner (option_map (node_with change) o)
  inner_with_change None h = h
  inner_with_change (Some (Leaf es)) h = h
  inner_with_change (Some (Inner cs)) h = h

  module _ (at after : ℕ → Option Node) (same : (k : ℕ) → after k ≡ option_map (node_with change) (at k)) where
    children_same : (k : ℕ) → children_in (after k) ≡ children_in (at k)
    children_same k = ap children_in (same k) ∙ children_with (at k)

    branches_with : (level : ℕ) (cs : List Child) → ((n : ℕ) → body_at after level n ≡ body_with level (body_at at level n)) → map {B = Branch (Body level)} (λ c. record { rect = c.rect; number = c.node; body = body_at after level c.node }) cs ≡ map (member_with (suc level)) (map (λ c. record { rect = c.rect; number = c.node; body = body_at at level c.node }) cs)
    branches_with level [] f = refl
    branches_with level (c ∷ cs) f = λ i. record { rect = c.rect; number = c.node; body = f c.node i } ∷ branches_with level cs f i

    pub body_at_with : (level number : ℕ) → body_at after level number ≡ body_with level (body_at at level number)
    body_at_with zero number = ap entries_in (same number) ∙ entries_in_with (at number)
    body_at_with (suc level) number =
        ap (λ (cs : List Child). map {B = Branch (Body level)} (λ c. record { rect = c.rect; number = c.node; body = body_at after level c.node }) cs) (children_same number)
        ∙ branches_with level (children_in (at number)) (body_at_with level)

    pub stands_with : (level number : ℕ) → Stands at level number → Stands after level number
    stands_with zero number h = subst IsLeaf (sym (same number)) (leaf_with_change (at number) h)
    stands_with (suc level) number h = (
      subst IsInner (sym (same number)) (inner_with_change (at number) h.0),
      subst (λ (cs : List Child). AllByRecursion (λ c. Stands after level c.node) cs) (sym (children_same number)) (all_imply (λ c k. stands_with level c.node k) (children_in (at number)) h.1),
    )

    below_same : (f g : ℕ → ℕ) (cs : List Child) → ((n : ℕ) → f n ≡ g n) → below_first f cs ≡ below_first g cs
    below_same f g [] e = refl
    below_same f g (c ∷ cs) e = ap (λ n. suc n) (e c.node)

    pub depth_with : (steps number : ℕ) → depth after steps number ≡ depth at steps number
    depth_with zero number = refl
    depth_with (suc steps) number = ap (below_first (λ n. depth after steps n)) (children_same number) ∙ below_same _ _ (children_in (at number)) (depth_with steps)

  below_places : (level : ℕ) (bs : List (Branch (Body level))) → ((b : Branch (Body level)) → places level b.number b.rect (body_with level b.body) ≡ map place_with (places level b.number b.rect b.body)) → flat_map (λ b. places level b.number b.rect b.body) (map (member_with (suc level)) bs) ≡ map place_with (flat_map (λ b. places level b.number b.rect b.body) bs)
  below_places level [] f = refl
  below_places level (b ∷ bs) f =
      ap (λ (ps : List Place). ps ++ flat_map (λ b. places level b.number b.rect b.body) (map (member_with (suc level)) bs)) (f b)
      ∙ ap (λ (ps : List Place). map place_with (places level b.number b.rect b.body) ++ ps) (below_places level bs f)
      ∙ sym (map-append place_with (places level b.number b.rect b.body) (flat_map (λ b. places level b.number b.rect b.body) bs))

  -- the nodes keep their numbers and spaces
  pub places_with : (level number : ℕ) (space : Rectangle) (body : Body level) → places level number space (body_with level body) ≡ map place_with (places level number space body)
  places_with zero number space es = refl
  places_with (suc level) number space bs = ap (λ (ps : List Place). record { number = number; space = space; level = suc level; body = body_with (suc level) bs } ∷ ps) (below_places level bs (λ b. places_with level b.number b.rect b.body))

  below_entries : (level : ℕ) (bs : List (Branch (Body level))) → ((b : Branch (Body level)) → entries level (body_with level b.body) ≡ map change (entries level b.body)) → flat_map (λ b. entries level b.body) (map (member_with (suc level)) bs) ≡ map change (flat_map (λ b. entries level b.body) bs)
  below_entries level [] f = refl
  below_entries level (b ∷ bs) f =
      ap (λ (es : List Entry). es ++ flat_map (λ b. entries level b.body) (map (member_with (suc level)) bs)) (f b)
      ∙ ap (λ (es : List Entry). map change (entries level b.body) ++ es) (below_entries level bs f)
      ∙ sym (map-append change (entries level b.body) (flat_map (λ b. entries level b.body) bs))

  -- the entries are the changed ones, in the same order
  pub entries_with : (level : ℕ) (body : Body level) → entries level (body_with level body) ≡ map change (entries level body)
  entries_with zero es = refl
  entries_with (suc level) bs = below_entries level bs (λ b. entries_with level b.body)

  -- what the change makes of what holds of each entry
  pub all_with : (P Q : Entry → Type 0) → ((e : Entry) → P e → Q (change e)) → (nodes : List (ℕ × Node)) → ((k : ℕ) → AllByRecursion P (entries_in (look nodes k))) → (k : ℕ) → AllByRecursion Q (entries_in (look (nodes_with change nodes) k))
  all_with P Q f nodes all k = subst (AllByRecursion Q) (sym (ap entries_in (look_with nodes k) ∙ entries_in_with (look nodes k))) (all_map Q change (entries_in (look nodes k)) (all_imply f (entries_in (look nodes k)) (all k)))

  module _ (keeps : Keeps change) where
    -- the rectangles of a node stay
    pub rects_with : (level : ℕ) (body : Body level) → rects level (body_with level body) ≡ rects level body
    rects_with zero [] = refl
    rects_with zero (e ∷ es) = λ i. keeps.rect e i ∷ rects_with zero es i
    rects_with (suc level) [] = refl
    rects_with (suc level) (b ∷ bs) = ap (λ (rs : List Rectangle). b.rect ∷ rs) (rects_with (suc level) bs)

    pub numbers_with : (es : List Entry) → map (λ e. e.number) (map change es) ≡ map (λ e. e.number) es
    numbers_with [] = refl
    numbers_with (e ∷ es) = λ i. keeps.number e i ∷ numbers_with es i

    size_with : (level : ℕ) (body : Body level) → length (body_with level body) ≡ length body
    size_with level body = length-map body (member_with level)

    pub sound_with : (shape : Shape) (level : ℕ) (body : Body level) → AreSound shape level body → AreSound shape level (body_with level body)
    sound_with shape zero es h = tt
    sound_with shape (suc level) bs h = all_map _ (member_with (suc level)) bs (all_imply (λ b k. (
      ap bound_of (rects_with level b.body) ∙ k.0,
      subst (λ (n : ℕ). shape.min ≤ n) (sym (size_with level b.body)) k.1,
      subst (λ (n : ℕ). n ≤ shape.max) (sym (size_with level b.body)) k.2,
      sound_with shape level b.body k.3,
    )) bs h)

    root_size_with : (shape : Shape) (level : ℕ) (n m : ℕ) → m ≡ n → IsRootSize shape level n → IsRootSize shape level m
    root_size_with shape level n m e h = subst (IsRootSize shape level) (sym e) h

    keys_with : (ns : List (ℕ × Node)) → map (λ (n : ℕ × Node). n.0) (nodes_with change ns) ≡ map (λ (n : ℕ × Node). n.0) ns
    keys_with [] = refl
    keys_with (n ∷ ns) = ap (λ (ks : List ℕ). n.0 ∷ ks) (keys_with ns)

    place_numbers : (ps : List Place) → map (λ p. p.number) (map place_with ps) ≡ map (λ p. p.number) ps
    place_numbers [] = refl
    place_numbers (p ∷ ps) = ap (λ (ks : List ℕ). p.number ∷ ks) (place_numbers ps)

    module _ (t : Table) where
      same_at : (k : ℕ) → look (table_with change t).nodes k ≡ option_map (node_with change) (look t.nodes k)
      same_at k = look_with t.nodes k

      body_is : (level : ℕ) → body_at (look (table_with change t).nodes) level t.root ≡ body_with level (body_at (look t.nodes) level t.root)
      body_is level = body_at_with (look t.nodes) (look (table_with change t).nodes) same_at level t.root

      -- the level of the root stays
      pub level_with : level_of (table_with change t) ≡ level_of t
      unfolding level_of
      level_with = ap (λ (n : ℕ). depth (look (table_with change t).nodes) n t.root) (length-map t.nodes (λ (n : ℕ × Node). (n.0, node_with change n.1))) ∙ depth_with (look t.nodes) (look (table_with change t).nodes) same_at (length t.nodes) t.root

      numbers_stay : (level : ℕ) → numbers_at (table_with change t) level ≡ numbers_at t level
      numbers_stay level =
          ap (λ (b : Body level). map (λ (p : Place). p.number) (places level t.root whole b)) (body_is level)
          ∙ ap (λ (ps : List Place). map (λ (p : Place). p.number) ps) (places_with level t.root whole (body_at (look t.nodes) level t.root))
          ∙ place_numbers (places level t.root whole (body_at (look t.nodes) level t.root))

      entries_at : (level : ℕ) → entries level (body_at (look (table_with change t).nodes) level t.root) ≡ map change (entries level (body_at (look t.nodes) level t.root))
      entries_at level = ap (entries level) (body_is level) ∙ entries_with level (body_at (look t.nodes) level t.root)

      valid_at_with : (level : ℕ) → IsValidAt t level → IsValidAt (table_with change t) level
      valid_at_with level v = record {
        shape = v.shape;
        stands = stands_with (look t.nodes) (look (table_with change t).nodes) same_at level t.root v.stands;
        whole_table = subst (λ (ks : List ℕ). IsPermutation ks (numbers_at (table_with change t) level)) (sym (keys_with t.nodes)) (subst (IsPermutation (map (λ n. n.0) t.nodes)) (sym (numbers_stay level)) v.whole_table);
        distinct = subst (IsDistinct nat_eq) (sym (numbers_stay level)) v.distinct;
        below_next = subst (AllByRecursion (λ n. n < t.next)) (sym (numbers_stay level)) v.below_next;
        root_size = root_size_with t.shape level _ _ (ap (λ (b : Body level). length b) (body_is level) ∙ size_with level (body_at (look t.nodes) level t.root)) v.root_size;
        sound = subst (AreSound t.shape level) (sym (body_is level)) (sound_with t.shape level (body_at (look t.nodes) level t.root) v.sound);
        distinct_entries = subst (IsDistinct nat_eq) (sym (ap (λ (es : List Entry). map (λ (e : Entry). e.number) es) (entries_at level) ∙ numbers_with (entries level (body_at (look t.nodes) level t.root)))) v.distinct_entries;
        in_space = subst (AllByRecursion (λ (e : Entry). IsRectangle e.rect)) (sym (entries_at level)) (all_map (λ (e : Entry). IsRectangle e.rect) change (entries level (body_at (look t.nodes) level t.root)) (all_imply (λ e h. subst IsRectangle (sym (keeps.rect e)) h) (entries level (body_at (look t.nodes) level t.root)) v.in_space));
      }

      -- a valid tree stays valid
      pub valid_with : IsValid t → IsValid (table_with change t)
      valid_with v = subst (IsValidAt (table_with change t)) (sym level_with) (valid_at_with (level_of t) v)

      -- no place of a node changes but for the entries in it
      pub places_of_with : places_of (table_with change t) ≡ map place_with (places_of t)
      places_of_with =
          ap (λ (n : ℕ). places n t.root whole (body_at (look (table_with change t).nodes) n t.root)) level_with
          ∙ ap (λ (b : Body (level_of t)). places (level_of t) t.root whole b) (body_is (level_of t))
          ∙ places_with (level_of t) t.root whole (body_at (look t.nodes) (level_of t) t.root)

      pub entries_of_with : entries_of (table_with change t) ≡ map change (entries_of t)
      entries_of_with = ap (λ (n : ℕ). entries n (body_at (look (table_with change t).nodes) n t.root)) level_with ∙ entries_at (level_of t)

    has_with : (q : ℕ) (es : List Entry) → has_number (map change es) q ≡ has_number es q
    has_with q [] = refl
    has_with q (e ∷ es) = λ i. nat_eq q (keeps.number e i) || has_with q es i

    pub has_in_with : (q : ℕ) (o : Option Node) → has_number (entries_in (option_map (node_with change) o)) q ≡ has_number (entries_in o) q
    has_in_with q o = ap (λ (es : List Entry). has_number es q) (entries_in_with o) ∙ has_with q (entries_in o)

    -- the leaf of each entry stays
    pub index_with : (leaf : ℕ → Option ℕ) (nodes : List (ℕ × Node)) → IsIndex leaf nodes → IsIndex leaf (nodes_with change nodes)
    index_with leaf nodes index q k =
        let e : has_number (entries_in (look (nodes_with change nodes) k)) q ≡ has_number (entries_in (look nodes k)) q = ap (λ (o : Option Node). has_number (entries_in o) q) (look_with nodes k) ∙ has_in_with q (look nodes k) in
        (λ h. e ∙ (index q k).0 h, λ h. (index q k).1 (sym e ∙ h))

    leaf_in_with : (q : ℕ) (n : Node) → has_number (entries_of_node (node_with change n)) q ≡ has_number (entries_of_node n) q
    leaf_in_with q (Leaf es) = has_with q es
    leaf_in_with q (Inner cs) = refl

    pub leaf_with_same : (q : ℕ) (ns : List (ℕ × Node)) → leaf_with (nodes_with change ns) q ≡ leaf_with ns q
    leaf_with_same q [] = refl
    leaf_with_same q (n ∷ ns) = λ i. cond (leaf_in_with q n.1 i) (Some n.0) (leaf_with_same q ns i)

    all_keys : (P : ℕ → Type 0) (ns : List (ℕ × Node)) → AllByRecursion (λ (m : ℕ × Node). P m.0) ns → AllByRecursion (λ (m : ℕ × Node). P m.0) (nodes_with change ns)
    all_keys P [] h = tt
    all_keys P (n ∷ ns) h = (h.0, all_keys P ns h.1)

    pub ascending_with : (ns : List (ℕ × Node)) → IsAscending ns → IsAscending (nodes_with change ns)
    ascending_with [] a = tt
    ascending_with (n ∷ ns) a = (all_keys (λ m. n.0 < m) ns a.0, ascending_with ns a.1)

    -- each entry stays known under its id
    pub known_with : (known : List (ℕ × ℕ)) (nodes : List (ℕ × Node)) → AreAllKnown known nodes → AreAllKnown known (nodes_with change nodes)
    known_with known nodes all = all_with (λ e. is_known known e.id e.number ≡ true) (λ e. is_known known e.id e.number ≡ true) (λ e h. (λ i. is_known known (keeps.id e i) (keeps.number e i)) ∙ h) nodes all
