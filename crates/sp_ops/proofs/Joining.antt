-- What a list wants on a name, joined, and the needs that follow from it.
use Rattle.std.proofs.Common.{◌≡◌, ◌↔◌, ℕ, ◌+◌, ◌<◌, Bool, true, false, if◌then◌else◌, cond, List, [], ◌∷◌, ◌++◌, map, take, length, get_or, Option, None, Some, refl, sym, ap, ◌∙◌, subst, inl, inr, arith}
use Rattle.std.specs.Prelude.{nat_eq}
use Rattle.std.specs.List.{AllByRecursion}
use Rattle.std.specs.List.Sorted.{IsStrictlySortedBy}
use Rattle.std.specs.Map.{lookup, keys_of}
use Rattle.std.specs.BTreeMap.{is_at, IsOrdered}
use Rattle.std.specs.Ordering.{nat_cmp}
use Rattle.std.specs.declared.cmp.Ordering.TheVariants.{Less}
use Rattle.std.proofs.lemmas.List.{take_more}
use Rattle.std.proofs.lemmas.Bool.Decides.{nat_tests}
use Rattle.std.proofs.lemmas.Map.Keys.{sorted_head, sorted_tail}
use Rattle.sp_locks.specs.declared.mode.Mode.{Mode}
use Rattle.sp_locks.specs.declared.row.Name.{Name}
use Rattle.sp_locks.specs.declared.row.Name.TheVariants.{Granule, Object}
use Rattle.sp_locks.specs.declared.row.Duration.{Duration}
use Rattle.sp_locks.specs.declared.row.Duration.TheVariants.{Commit, Short}
use Rattle.sp_locks.specs.declared.needs.Need.{Need}
use Rattle.sp_locks.specs.Modes.{join, covers}
use Rattle.sp_locks.specs.Rows.{same_name, join_onto}
use Rattle.sp_node.specs.Among.{Among}
use Rattle.sp_node.proofs.Among.{all_among, among_left, among_right, among_split}
use Rattle.sp_protection.specs.Needs.{IsJoined, Precedes, AreInOrder, AreNeedsOf}
use Rattle.sp_ops.specs.declared.wants.Want.{Want}
use Rattle.sp_ops.specs.declared.wants.Modes.{Modes}
use Rattle.sp_ops.specs.Wanted.{IsWanted, MayLast, AllMayLast, joined_on, noted, need_on, needs_of}

-- names
equal_from : (j k : ℕ) → nat_eq j k ≡ true → j ≡ k
equal_from j k e = grind (arith, nat_tests)

self_equal : (k : ℕ) → nat_eq k k ≡ true
self_equal k = grind (arith, nat_tests)

pub name_from : (a b : Name) → same_name a b ≡ true → a ≡ b
name_from (Granule m) (Granule n) e = ap Granule (equal_from m n e)
name_from (Granule m) (Object n) e = cc
name_from (Object m) (Granule n) e = cc
name_from (Object m) (Object n) e = ap Object (equal_from m n e)

pub name_self : (a : Name) → same_name a a ≡ true
name_self (Granule n) = self_equal n
name_self (Object n) = self_equal n

-- modes
onto_swap : (a b : Mode) (o : Option Mode) → join_onto a (join_onto b o) ≡ join_onto b (join_onto a o)
onto_swap a b None = grind arith
onto_swap a b (Some c) = grind arith

covers-self : (a : Mode) → covers a a ≡ true
covers-self a = grind arith

covers-left : (a b : Mode) → covers (join a b) a ≡ true
covers-left a b = grind arith

covers-right : (a b m : Mode) → covers b m ≡ true → covers (join a b) m ≡ true
covers-right a b m h = grind arith

covers-both : (m a b : Mode) → covers m a ≡ true → covers m b ≡ true → covers m (join a b) ≡ true
covers-both m a b h k = grind arith

covers-antisym : (a b : Mode) → covers a b ≡ true → covers b a ≡ true → a ≡ b
covers-antisym a b h k = grind arith

-- one more at the end
pub joined-last : (name : Name) (ws : List Want) (w : Want) → joined_on name (ws ++ w ∷ []) ≡ (if same_name name w.name then join_onto w.mode (joined_on name ws) else joined_on name ws)
joined-last name [] w = refl
joined-last name (x ∷ ws) w = by_tests (same_name name x.name) (same_name name w.name) (joined-last name ws w)
  where
    by_tests : (b c : Bool) → joined_on name (ws ++ w ∷ []) ≡ (if c then join_onto w.mode (joined_on name ws) else joined_on name ws)
        → (if b then join_onto x.mode (joined_on name (ws ++ w ∷ [])) else joined_on name (ws ++ w ∷ [])) ≡ (if c then join_onto w.mode (if b then join_onto x.mode (joined_on name ws) else joined_on name ws) else (if b then join_onto x.mode (joined_on name ws) else joined_on name ws))
    by_tests true true e = ap (join_onto x.mode) e ∙ onto_swap x.mode w.mode (joined_on name ws)
    by_tests true false e = ap (join_onto x.mode) e
    by_tests false true e = e
    by_tests false false e = e

pub joined-more : (name : Name) (ws : List Want) (i : ℕ) (d : Want) (old new : Option Mode) → i < length ws → old ≡ joined_on name (take i ws)
    → new ≡ (if same_name name (get_or ws i d).name then join_onto (get_or ws i d).mode old else old) → new ≡ joined_on name (take (i + 1) ws)
joined-more name ws i d old new lt was is =
    is ∙ ap (λ (o : Option Mode). if same_name name (get_or ws i d).name then join_onto (get_or ws i d).mode o else o) was
    ∙ sym (joined-last name (take i ws) (get_or ws i d)) ∙ ap (joined_on name) (sym (take_more ws i d lt))

-- nothing is wanted on the name, or the mode is the join of what is
abbrev pub IsJoin : List Want → Name → Option Mode → Type 0
IsJoin wants name None = (m : Mode) → IsWanted wants name m → ⊥
IsJoin wants name (Some m) = IsJoined (IsWanted wants) name m

module _ (name : Name) (w : Want) (ws : List Want) where
  is_name : (m : Mode) → (record { name = name; mode = m }) ≡ w → name ≡ w.name
  is_name m e = ap (λ (x : Want). x.name) e

  is_mode : (m : Mode) → (record { name = name; mode = m }) ≡ w → m ≡ w.mode
  is_mode m e = ap (λ (x : Want). x.mode) e

  this : name ≡ w.name → IsWanted (w ∷ ws) name w.mode
  this e = inl (ap (λ (n : Name). record { name = n; mode = w.mode }) e)

  same_more : name ≡ w.name → (o : Option Mode) → IsJoin ws name o → IsJoin (w ∷ ws) name (join_onto w.mode o)
  same_more e None none = record {
    some = (w.mode, this e);
    enough = λ m h. elim h [ inl k ↦ subst (λ (n : Mode). covers w.mode n ≡ true) (sym (is_mode m k)) (covers-self w.mode) | inr k ↦ absurd (none m k) ];
    least = λ m h. h w.mode (this e);
  }
  same_more e (Some j) is = record {
    some = (w.mode, this e);
    enough = λ m h. elim h [
      | inl k ↦ subst (λ (n : Mode). covers (join w.mode j) n ≡ true) (sym (is_mode m k)) (covers-left w.mode j)
      | inr k ↦ covers-right w.mode j m (is.enough m k)
    ];
    least = λ m h. covers-both m w.mode j (h w.mode (this e)) (is.least m (λ n k. h n (inr k)));
  }

  other_more : same_name name w.name ≡ false → (o : Option Mode) → IsJoin ws name o → IsJoin (w ∷ ws) name o
  other_more f None none = λ m h. elim h [ inl k ↦ clash m k | inr k ↦ none m k ]
    where
      clash : (m : Mode) → (record { name = name; mode = m }) ≡ w → ⊥
      clash m k = let t : same_name name w.name ≡ true = subst (λ (n : Name). same_name name n ≡ true) (is_name m k) (name_self name) in cc
  other_more f (Some j) is = record {
    some = (is.some.0, inr is.some.1);
    enough = λ m h. elim h [ inl k ↦ absurd (clash m k) | inr k ↦ is.enough m k ];
    least = λ m h. is.least m (λ n k. h n (inr k));
  }
    where
      clash : (m : Mode) → (record { name = name; mode = m }) ≡ w → ⊥
      clash m k = let t : same_name name w.name ≡ true = subst (λ (n : Name). same_name name n ≡ true) (is_name m k) (name_self name) in cc

pub is_join : (name : Name) (ws : List Want) → IsJoin ws name (joined_on name ws)
is_join name [] = λ m h. h
is_join name (w ∷ ws) = by_test (same_name name w.name) refl (is_join name ws)
  where
    by_test : (b : Bool) → same_name name w.name ≡ b → IsJoin ws name (joined_on name ws) → IsJoin (w ∷ ws) name (if b then join_onto w.mode (joined_on name ws) else joined_on name ws)
    by_test true e more = same_more name w ws (name_from name w.name e) (joined_on name ws) more
    by_test false e more = other_more name w ws e (joined_on name ws) more

-- the entries of an ordered map are what it finds
cmp-self : (k : ℕ) → is_at (nat_cmp k) k ≡ true
cmp-self k = grind arith

cmp-less : (k n : ℕ) → nat_cmp n k ≡ Less → is_at (nat_cmp k) n ≡ false
cmp-less k n h = grind arith

cmp-equal : (k n : ℕ) → is_at (nat_cmp k) n ≡ true → k ≡ n
cmp-equal k n h = grind arith

less_is : (m n : ℕ) → nat_cmp m n ≡ Less → m < n
less_is m n h = grind arith

pair_is : (a b : ℕ) (x y : Mode) → a ≡ b → x ≡ y → ◌≡◌ {A = ℕ × Mode} (a, x) (b, y)
pair_is a b x y e f = cc

found_among : (es : List (ℕ × Mode)) (k : ℕ) (v : Mode) → lookup (is_at (nat_cmp k)) es ≡ Some v → Among (k, v) es
found_among [] k v h = cc
found_among (e ∷ es) k v h = by_test (is_at (nat_cmp k) e.0) refl h (found_among es k v)
  where
    by_test : (b : Bool) → is_at (nat_cmp k) e.0 ≡ b → cond b (Some e.1) (lookup (is_at (nat_cmp k)) es) ≡ Some v → (lookup (is_at (nat_cmp k)) es ≡ Some v → Among (k, v) es) → Among (k, v) (e ∷ es)
    by_test true t h f = let value : e.1 ≡ v = cc in inl (pair_is k e.0 v e.1 (cmp-equal k e.0 t) (sym value))
    by_test false t h f = inr (f h)

all_keys : (P : ℕ → Type 0) (es : List (ℕ × Mode)) (k : ℕ) (v : Mode) → AllByRecursion P (keys_of es) → Among (k, v) es → P k
all_keys P [] k v h a = absurd a
all_keys P (e ∷ es) k v h (inl s) = subst P (sym (ap (λ (x : ℕ × Mode). x.0) s)) h.0
all_keys P (e ∷ es) k v h (inr a) = all_keys P es k v h.1 a

among_found : (es : List (ℕ × Mode)) (k : ℕ) (v : Mode) → IsStrictlySortedBy nat_cmp (keys_of es) → Among (k, v) es → lookup (is_at (nat_cmp k)) es ≡ Some v
among_found [] k v s a = absurd a
among_found (e ∷ es) k v s (inl h) =
    let key : k ≡ e.0 = ap (λ (x : ℕ × Mode). x.0) h in
    let value : v ≡ e.1 = ap (λ (x : ℕ × Mode). x.1) h in
    ap (λ (b : Bool). cond b (Some e.1) (lookup (is_at (nat_cmp k)) es)) (ap (is_at (nat_cmp k)) (sym key) ∙ cmp-self k) ∙ ap (λ (m : Mode). Some m) (sym value)
among_found (e ∷ es) k v s (inr a) =
    ap (λ (b : Bool). cond b (Some e.1) (lookup (is_at (nat_cmp k)) es)) (cmp-less k e.0 (all_keys (λ n. nat_cmp e.0 n ≡ Less) es k v (sorted_head nat_cmp e.0 (keys_of es) s) a))
    ∙ among_found es k v (sorted_tail nat_cmp e.0 (keys_of es) s) a

-- needs of entries
module _ (name : ℕ → Name) (d : Duration) where
  need_among : (es : List (ℕ × Mode)) (e : ℕ × Mode) → Among e es → Among (need_on name d e) (map (need_on name d) es)
  need_among [] e a = absurd a
  need_among (x ∷ es) e (inl s) = inl (ap (need_on name d) s)
  need_among (x ∷ es) e (inr a) = inr (need_among es e a)

  of_need : (es : List (ℕ × Mode)) (need : Need) → Among need (map (need_on name d) es) → (e : ℕ × Mode) × Among e es × (need ≡ need_on name d e)
  of_need [] need a = absurd a
  of_need (x ∷ es) need (inl s) = (x, inl refl, s)
  of_need (x ∷ es) need (inr a) = let more = of_need es need a in (more.0, inr more.1, more.2)

granules_precede : (d : Duration) (e f : ℕ × Mode) → e.0 < f.0 → Precedes (need_on Granule d e) (need_on Granule d f)
granules_precede Commit e f h = h
granules_precede Short e f h = h

objects_precede : (d : Duration) (e f : ℕ × Mode) → MayLast d (Object e.0) → e.0 < f.0 → Precedes (need_on Object d e) (need_on Object d f)
objects_precede Commit e f m h = h
objects_precede Short e f m h = absurd m

kinds_precede : (d : Duration) (e f : ℕ × Mode) → MayLast d (Object f.0) → Precedes (need_on Granule d e) (need_on Object d f)
kinds_precede Commit e f m = tt
kinds_precede Short e f m = absurd m

less_all : (e : ℕ × Mode) (es : List (ℕ × Mode)) → AllByRecursion (λ n. nat_cmp e.0 n ≡ Less) (keys_of es) → (f : ℕ × Mode) → Among f es → e.0 < f.0
less_all e es h f a = less_is e.0 f.0 (all_keys (λ n. nat_cmp e.0 n ≡ Less) es f.0 f.1 h a)

objects_in_order : (d : Duration) (fs : List (ℕ × Mode)) → IsStrictlySortedBy nat_cmp (keys_of fs) → ((f : ℕ × Mode) → Among f fs → MayLast d (Object f.0)) → AreInOrder (map (need_on Object d) fs)
objects_in_order d [] s may = tt
objects_in_order d (e ∷ fs) s may = (
  λ b a. let at = of_need Object d fs b a in subst (λ (n : Need). Precedes (need_on Object d e) n) (sym at.2) (objects_precede d e at.0 (may e (inl refl)) (less_all e fs (sorted_head nat_cmp e.0 (keys_of fs) s) at.0 at.1)),
  objects_in_order d fs (sorted_tail nat_cmp e.0 (keys_of fs) s) (λ f a. may f (inr a)),
)

needs_in_order : (d : Duration) (es fs : List (ℕ × Mode)) → IsStrictlySortedBy nat_cmp (keys_of es) → IsStrictlySortedBy nat_cmp (keys_of fs) → ((f : ℕ × Mode) → Among f fs → MayLast d (Object f.0))
    → AreInOrder (map (need_on Granule d) es ++ map (need_on Object d) fs)
needs_in_order d [] fs s r may = objects_in_order d fs r may
needs_in_order d (e ∷ es) fs s r may = (
  λ b a. elim (among_split b (map (need_on Granule d) es) (map (need_on Object d) fs) a) [
    | inl h ↦ let at = of_need Granule d es b h in subst (λ (n : Need). Precedes (need_on Granule d e) n) (sym at.2) (granules_precede d e at.0 (less_all e es (sorted_head nat_cmp e.0 (keys_of es) s) at.0 at.1))
    | inr h ↦ let at = of_need Object d fs b h in subst (λ (n : Need). Precedes (need_on Granule d e) n) (sym at.2) (kinds_precede d e at.0 (may at.0 at.1))
  ],
  needs_in_order d es fs (sorted_tail nat_cmp e.0 (keys_of es) s) r may,
)

-- what is joined is one mode
one_join : (W : Name → Mode → Type 0) (name : Name) (m n : Mode) → IsJoined W name m → IsJoined W name n → m ≡ n
one_join W name m n a b = covers-antisym m n (b.least m (λ k w. a.enough k w)) (a.least n (λ k w. b.enough k w))

module _ (wants : List Want) (modes : Modes) (d : Duration) (is : (name : Name) → noted modes name ≡ joined_on name wants) where
  noted_join : (name : Name) → IsJoin wants name (noted modes name)
  noted_join name = subst (IsJoin wants name) (sym (is name)) (is_join name wants)

  noted_is : (name : Name) (m : Mode) → noted modes name ≡ Some m → IsJoined (IsWanted wants) name m
  noted_is name m e = subst (IsJoin wants name) e (noted_join name)

  join_noted : (name : Name) (m : Mode) → IsJoined (IsWanted wants) name m → noted modes name ≡ Some m
  join_noted name m j = by_case (noted modes name) refl
    where
      by_case : (o : Option Mode) → noted modes name ≡ o → noted modes name ≡ Some m
      by_case None e = let none : IsJoin wants name None = subst (IsJoin wants name) e (noted_join name) in absurd (none j.some.0 j.some.1)
      by_case (Some n) e = e ∙ ap (λ (x : Mode). Some x) (one_join (IsWanted wants) name n m (noted_is name n e) j)

  -- the needs of what was noted
  pub needs_joined : IsOrdered nat_cmp modes.granules → IsOrdered nat_cmp modes.objects → AllMayLast d wants → (needs : List Need) → needs ≡ needs_of modes d → AreNeedsOf (IsWanted wants) d needs
  needs_joined s r may needs same = subst (λ (ns : List Need). AreNeedsOf (IsWanted wants) d ns) (sym same) (record { joined = each; all = there; in_order = needs_in_order d modes.granules.entries modes.objects.entries s r may_last })
    where
      may_last : (f : ℕ × Mode) → Among f modes.objects.entries → MayLast d (Object f.0)
      may_last f a =
          let j = noted_is (Object f.0) f.1 (among_found modes.objects.entries f.0 f.1 r a) in
          all_among (λ (w : Want). MayLast d w.name) (record { name = Object f.0; mode = j.some.0 }) wants may j.some.1

      each : (need : Need) → Among need (needs_of modes d) → IsJoined (IsWanted wants) need.name need.mode × (need.duration ≡ d)
      each need a = elim (among_split need (map (need_on Granule d) modes.granules.entries) (map (need_on Object d) modes.objects.entries) a) [
        | inl h ↦
            let at = of_need Granule d modes.granules.entries need h in
            subst (λ (n : Need). IsJoined (IsWanted wants) n.name n.mode × (n.duration ≡ d)) (sym at.2) (noted_is (Granule at.0.0) at.0.1 (among_found modes.granules.entries at.0.0 at.0.1 s at.1), refl)
        | inr h ↦
            let at = of_need Object d modes.objects.entries need h in
            subst (λ (n : Need). IsJoined (IsWanted wants) n.name n.mode × (n.duration ≡ d)) (sym at.2) (noted_is (Object at.0.0) at.0.1 (among_found modes.objects.entries at.0.0 at.0.1 r at.1), refl)
      ]

      there : (name : Name) (mode : Mode) → IsJoined (IsWanted wants) name mode → (need : Need) × Among need (needs_of modes d) × (need.name ≡ name) × (need.mode ≡ mode)
      there (Granule k) mode j =
          let found = found_among modes.granules.entries k mode (join_noted (Granule k) mode j) in
          (need_on Granule d (k, mode), among_left _ (map (need_on Granule d) modes.granules.entries) (map (need_on Object d) modes.objects.entries) (need_among Granule d modes.granules.entries (k, mode) found), refl, refl)
      there (Object k) mode j =
          let found = found_among modes.objects.entries k mode (join_noted (Object k) mode j) in
          (need_on Object d (k, mode), among_right _ (map (need_on Granule d) modes.granules.entries) (map (need_on Object d) modes.objects.entries) (need_among Object d modes.objects.entries (k, mode) found), refl, refl)

-- locks of any name may last until the transaction ends
pub all_last : (ws : List Want) → AllMayLast Commit ws
all_last [] = tt
all_last (w ∷ ws) = (tt, all_last ws)

-- needs of a list are needs of the rule that wants the same
module _ {W V : Name → Mode → Type 0} (same : (name : Name) (mode : Mode) → W name mode ↔ V name mode) where
  join_as : (name : Name) (mode : Mode) → IsJoined W name mode → IsJoined V name mode
  join_as name mode j = record {
    some = (j.some.0, (same name j.some.0).0 j.some.1);
    enough = λ m v. j.enough m ((same name m).1 v);
    least = λ m f. j.least m (λ n w. f n ((same name n).0 w));
  }

  join_back : (name : Name) (mode : Mode) → IsJoined V name mode → IsJoined W name mode
  join_back name mode j = record {
    some = (j.some.0, (same name j.some.0).1 j.some.1);
    enough = λ m w. j.enough m ((same name m).0 w);
    least = λ m f. j.least m (λ n v. f n ((same name n).1 v));
  }

  pub needs_as : (d : Duration) (needs : List Need) → AreNeedsOf W d needs → AreNeedsOf V d needs
  needs_as d needs h = record {
    joined = λ need a. let j = h.joined need a in (join_as need.name need.mode j.0, j.1);
    all = λ name mode j. h.all name mode (join_back name mode j);
    in_order = h.in_order;
  }
