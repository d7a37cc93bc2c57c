-- What the rules want is held, or asked, where the needs of the rules are.
use Rattle.std.proofs.Common.{◌≡◌, ◌⊎◌, ℕ, Bool, true, false, ◌&&◌, ◌||◌, cond, List, [], ◌∷◌, ◌++◌, nat_eq, refl, sym, ap, ◌∙◌, subst, inl, inr, true≢false, arith}
use Rattle.sp_locks.specs.declared.mode.Mode.{Mode}
use Rattle.sp_locks.specs.declared.mode.Mode.TheVariants.{IS, IX, S, SIX, X}
use Rattle.sp_locks.specs.declared.row.Name.{Name}
use Rattle.sp_locks.specs.declared.row.Name.TheVariants.{Granule as OnGranule, Object}
use Rattle.sp_locks.specs.declared.row.Duration.{Duration}
use Rattle.sp_locks.specs.declared.needs.Need.{Need}
use Rattle.sp_locks.specs.Modes.{compatible, covers, join}
use Rattle.sp_locks.specs.Rows.{same_name}
use Rattle.sp_locks.proofs.Names.{same_is, same-refl}
use Rattle.sp_node.specs.Among.{Among}
use Rattle.sp_node.proofs.Among.{among_flat_map, from_flat_map, among_split}
use Rattle.sp_protection.specs.Holding.{Lock, GranuleNeed, HoldsMode, AllCompatible, has, Unopposed, HoldsNeeds}
use Rattle.sp_protection.specs.Needs.{IsJoined, AreNeedsOf}
use Rattle.sp_protection.specs.Asking.{HoldsEach, IsAsked, AreAskedOrHeld, on_granule, granule_needs, held_needs}
use Rattle.sp_protection.proofs.Clashes.{covers-trans, covers_self}
use Rattle.sp_protection.proofs.Choice.{some_or_none, same, tells}
use Rattle.sp_protection.proofs.Reshapes.{held_unopposed}

pub holds_weaker : (locks : List Lock) (t : ℕ) (name : Name) (mode less : Mode) → HoldsMode locks t name mode → covers mode less ≡ true → HoldsMode locks t name less
holds_weaker locks t name mode less h c = record { lock = h.lock; held = h.held; by_txn = h.by_txn; on_name = h.on_name; enough = covers-trans h.lock.mode mode less h.enough c }

-- a mode is held, or is not
abbrev holds_by : ℕ → Name → Mode → Lock → Bool
holds_by t name mode lock = nat_eq lock.txn t && (same_name lock.name name && covers lock.mode mode)

pub holds_or_not : (locks : List Lock) (t : ℕ) (name : Name) (mode : Mode) → HoldsMode locks t name mode ⊎ (HoldsMode locks t name mode → ⊥)
holds_or_not locks t name mode = go (some_or_none (holds_by t name mode) locks)
  where
    parts : (a b c : Bool) → (a && (b && c)) ≡ true → (a ≡ true) × (b ≡ true) × (c ≡ true)
    parts a b c h = grind arith

    whole : (a b c : Bool) → a ≡ true → b ≡ true → c ≡ true → (a && (b && c)) ≡ true
    whole a b c h k l = grind arith

    go : ((lock : Lock) × Among lock locks × (holds_by t name mode lock ≡ true)) ⊎ ((lock : Lock) → Among lock locks → holds_by t name mode lock ≡ false) → HoldsMode locks t name mode ⊎ (HoldsMode locks t name mode → ⊥)
    go (inl h) = let k = parts (nat_eq h.0.txn t) (same_name h.0.name name) (covers h.0.mode mode) h.2 in inl (record { lock = h.0; held = h.1; by_txn = same _ _ k.0; on_name = same_is h.0.name name k.1; enough = k.2 })
    go (inr none) =
        inr (λ h. true≢false
        (sym (whole (nat_eq h.lock.txn t) (same_name h.lock.name name) (covers h.lock.mode mode) (tells _ _ h.by_txn) (subst (λ n. same_name h.lock.name n ≡ true) h.on_name (same-refl h.lock.name)) h.enough)
        ∙ none h.lock h.held))

-- Where a rule wants a mode on a name, it can't be that no mode is the least that covers all that it wants there. Which modes it wants can't be told, but only that it does or doesn't.
module _ (Want : Name → Mode → Type 0) (name : Name) where
  abbrev Wanted : Mode → Type 0
  Wanted x = Want name x ⊎ (Want name x → ⊥)

  -- a mode that is covered by all that covers what is wanted
  abbrev IsLow : Mode → Type 0
  IsLow mode = (k : Mode) → ((n : Mode) → Want name n → covers k n ≡ true) → covers k mode ≡ true

  record Raised (low x : Mode) : Type 0 where
    mode : Mode
    is_low : IsLow mode
    more : covers mode low ≡ true
    has_it : Want name x → covers mode x ≡ true

  raise : (low x : Mode) → IsLow low → Wanted x → Raised low x
  raise low x is_low (inl w) = record { mode = join low x; is_low = λ k all. both k (is_low k all) (all x w); more = first; has_it = λ v. second }
    where
      both : (k : Mode) → covers k low ≡ true → covers k x ≡ true → covers k (join low x) ≡ true
      both k h l = grind arith

      first : covers (join low x) low ≡ true
      first = grind arith

      second : covers (join low x) x ≡ true
      second = grind arith
  raise low x is_low (inr never) = record { mode = low; is_low = is_low; more = covers_self low; has_it = λ w. absurd (never w) }

  joined : (m : Mode) → Want name m → Wanted IS → Wanted IX → Wanted S → Wanted SIX → Wanted X → (mode : Mode) × IsJoined Want name mode
  joined m w a b c d e =
      let is = raise m IS (λ k all. all m w) a in
      let ix = raise is.mode IX is.is_low b in
      let s = raise ix.mode S ix.is_low c in
      let six = raise s.mode SIX s.is_low d in
      let x = raise six.mode X six.is_low e in
      (x.mode, record { some = (m, w); enough = λ n v. enough is ix s six x n v; least = x.is_low })
    where
      enough : (is : Raised m IS) (ix : Raised is.mode IX) (s : Raised ix.mode S) (six : Raised s.mode SIX) (x : Raised six.mode X) (n : Mode) → Want name n → covers x.mode n ≡ true
      enough is ix s six x IS v = covers-trans x.mode six.mode IS x.more (covers-trans six.mode s.mode IS six.more (covers-trans s.mode ix.mode IS s.more (covers-trans ix.mode is.mode IS ix.more (is.has_it v))))
      enough is ix s six x IX v = covers-trans x.mode six.mode IX x.more (covers-trans six.mode s.mode IX six.more (covers-trans s.mode ix.mode IX s.more (ix.has_it v)))
      enough is ix s six x S v = covers-trans x.mode six.mode S x.more (covers-trans six.mode s.mode S six.more (s.has_it v))
      enough is ix s six x SIX v = covers-trans x.mode six.mode SIX x.more (six.has_it v)
      enough is ix s six x X v = x.has_it v

  either : (x : Mode) → (Wanted x → ⊥) → ⊥
  either x k = k (inr (λ w. k (inl w)))

  pub is_joined : (m : Mode) → Want name m → ((mode : Mode) → IsJoined Want name mode → ⊥) → ⊥
  is_joined m w none = either IS (λ a. either IX (λ b. either S (λ c. either SIX (λ d. either X (λ e. let j = joined m w a b c d e in none j.0 j.1)))))

-- so what a rule wants is held where its needs are
pub held_wanted : (Want : Name → Mode → Type 0) (duration : Duration) (needs : List Need) (locks : List Lock) (t : ℕ) → AreNeedsOf Want duration needs → HoldsEach locks t needs → (name : Name) (mode : Mode) → Want name mode → HoldsMode locks t name mode
held_wanted Want duration needs locks t are held name mode w = go (holds_or_not locks t name mode)
  where
    go : HoldsMode locks t name mode ⊎ (HoldsMode locks t name mode → ⊥) → HoldsMode locks t name mode
    go (inl h) = h
    go (inr never) = absurd (is_joined Want name mode w (λ m j.
        let need = are.all name m j in
        never (subst (λ n. HoldsMode locks t n mode) need.2 (holds_weaker locks t need.0.name need.0.mode mode (held need.0 need.1) (subst (λ x. covers x mode ≡ true) (sym need.3) (j.enough mode w))))))

-- needs on granules
pub has_among : (needs : List GranuleNeed) (need : GranuleNeed) (number : ℕ) (mode : Mode) → Among need needs → need.number ≡ number → covers need.mode mode ≡ true → has needs number mode ≡ true
has_among [] need number mode i e c = absurd i
has_among (x ∷ xs) need number mode (inl s) e c = yes (nat_eq x.number number) (covers x.mode mode) (has xs number mode) (tells _ _ (ap (λ (z : GranuleNeed). z.number) (sym s) ∙ e)) (subst (λ (z : GranuleNeed). covers z.mode mode ≡ true) s c)
  where
    yes : (a b c : Bool) → a ≡ true → b ≡ true → ((a && b) || c) ≡ true
    yes a b c h k = grind arith
has_among (x ∷ xs) need number mode (inr i) e c = later (nat_eq x.number number && covers x.mode mode) (has xs number mode) (has_among xs need number mode i e c)
  where
    later : (a b : Bool) → b ≡ true → (a || b) ≡ true
    later a b h = grind arith

has-append : (needs more : List GranuleNeed) (number : ℕ) (mode : Mode) → has (needs ++ more) number mode ≡ (has needs number mode || has more number mode)
has-append [] more number mode = refl
has-append (x ∷ xs) more number mode = ap (λ b. (nat_eq x.number number && covers x.mode mode) || b) (has-append xs more number mode) ∙ assoc (nat_eq x.number number && covers x.mode mode) (has xs number mode) (has more number mode)
  where
    assoc : (a b c : Bool) → (a || (b || c)) ≡ ((a || b) || c)
    assoc a b c = grind arith

asked_has : (asked : List Need) (number : ℕ) (mode : Mode) → IsAsked asked (OnGranule number) mode → has (granule_needs asked) number mode ≡ true
asked_has asked number mode a =
    has_among (granule_needs asked) (record { number = number; mode = a.need.mode }) number mode
    (among_flat_map (λ (need : Need). on_granule need.name need.mode) (record { number = number; mode = a.need.mode }) a.need asked a.among
    (subst (λ n. Among (record { number = number; mode = a.need.mode }) (on_granule n a.need.mode)) (sym a.on_name) (inl refl)))
    refl a.enough

held_has : (locks : List Lock) (t number : ℕ) (mode : Mode) → HoldsMode locks t (OnGranule number) mode → has (held_needs locks t) number mode ≡ true
held_has locks t number mode h =
    has_among (held_needs locks t) need number mode
    (among_flat_map (λ (lock : Lock). cond (nat_eq lock.txn t) (on_granule lock.name lock.mode) []) need h.lock locks h.held
    (subst (λ b. Among need (cond b (on_granule h.lock.name h.lock.mode) [])) (sym (tells _ _ h.by_txn))
    (subst (λ n. Among need (on_granule n h.lock.mode)) (sym h.on_name) (inl refl))))
    refl h.enough
  where
    need : GranuleNeed
    need = record { number = number; mode = h.lock.mode }

-- so the needs that are asked have what a rule wants, with the locks that are held
pub asked_wanted : (Want : Name → Mode → Type 0) (duration : Duration) (needs asked : List Need) (locks : List Lock) (t : ℕ) → AreNeedsOf Want duration needs → AreAskedOrHeld locks t needs asked → (number : ℕ) (mode : Mode) → Want (OnGranule number) mode → has (granule_needs asked ++ held_needs locks t) number mode ≡ true
asked_wanted Want duration needs asked locks t are met number mode w = go (has (granule_needs asked ++ held_needs locks t) number mode) refl
  where
    left : (a b : Bool) → a ≡ true → (a || b) ≡ true
    left a b h = grind arith

    right : (a b : Bool) → b ≡ true → (a || b) ≡ true
    right a b h = grind arith

    met_by : (m : Mode) → covers m mode ≡ true → IsAsked asked (OnGranule number) m ⊎ HoldsMode locks t (OnGranule number) m → has (granule_needs asked ++ held_needs locks t) number mode ≡ true
    met_by m c (inl a) = has-append (granule_needs asked) (held_needs locks t) number mode ∙ left _ _ (asked_has asked number mode (record { need = a.need; among = a.among; on_name = a.on_name; enough = covers-trans a.need.mode m mode a.enough c }))
    met_by m c (inr h) = has-append (granule_needs asked) (held_needs locks t) number mode ∙ right _ _ (held_has locks t number mode (holds_weaker locks t (OnGranule number) m mode h c))

    go : (b : Bool) → has (granule_needs asked ++ held_needs locks t) number mode ≡ b → b ≡ true
    go true e = refl
    go false e = absurd (is_joined Want (OnGranule number) mode w (λ m j.
        let need = are.all (OnGranule number) m j in
        let found = subst (λ n. IsAsked asked n need.0.mode ⊎ HoldsMode locks t n need.0.mode) need.2 (met need.0 need.1) in
        true≢false (sym (met_by need.0.mode (subst (λ x. covers x mode ≡ true) (sym need.3) (j.enough mode w)) found) ∙ e)))

-- all needs asked
pub all_asked : (locks : List Lock) (t : ℕ) (needs : List Need) → AreAskedOrHeld locks t needs needs
all_asked locks t needs need i = inl (record { need = need; among = i; on_name = refl; enough = covers_self need.mode })

-- what is held is opposed by no other
held_are_held : (locks : List Lock) (t : ℕ) → HoldsNeeds locks t (held_needs locks t)
held_are_held locks t need i =
    let from = from_flat_map (λ (lock : Lock). cond (nat_eq lock.txn t) (on_granule lock.name lock.mode) []) need locks i in
    of_lock from.0 from.1 (nat_eq from.0.txn t) refl from.0.name refl from.2
  where
    of_lock : (lock : Lock) → Among lock locks → (b : Bool) → nat_eq lock.txn t ≡ b → (name : Name) → lock.name ≡ name → Among need (cond b (on_granule name lock.mode) []) → HoldsMode locks t (OnGranule need.number) need.mode
    of_lock lock j true e (OnGranule number) n (inl s) = record { lock = lock; held = j; by_txn = same _ _ e; on_name = n ∙ ap OnGranule (sym (ap (λ (z : GranuleNeed). z.number) s)); enough = subst (λ m. covers lock.mode m ≡ true) (sym (ap (λ (z : GranuleNeed). z.mode) s)) (covers_self lock.mode) }
    of_lock lock j true e (OnGranule number) n (inr k) = absurd k
    of_lock lock j true e (Object id) n k = absurd k
    of_lock lock j false e name n k = absurd k

pub asked_are_held : (locks : List Lock) (t : ℕ) (asked : List Need) → HoldsEach locks t asked → HoldsNeeds locks t (granule_needs asked)
asked_are_held locks t asked held need i =
    let from = from_flat_map (λ (x : Need). on_granule x.name x.mode) need asked i in
    of_need from.0 from.1 from.0.name refl from.2
  where
    of_need : (x : Need) → Among x asked → (name : Name) → x.name ≡ name → Among need (on_granule name x.mode) → HoldsMode locks t (OnGranule need.number) need.mode
    of_need x j (OnGranule number) n (inl s) =
        subst (λ m. HoldsMode locks t (OnGranule need.number) m) (sym (ap (λ (z : GranuleNeed). z.mode) s))
        (subst (λ k. HoldsMode locks t k x.mode) (n ∙ ap OnGranule (sym (ap (λ (z : GranuleNeed). z.number) s))) (held x j))
    of_need x j (OnGranule number) n (inr k) = absurd k
    of_need x j (Object id) n k = absurd k

-- locks and needs among more locks, which are compatible, in which the needs are held
pub unopposed_among : (locks more : List Lock) (t : ℕ) (asked : List Need) → AllCompatible more → ((lock : Lock) → Among lock locks → Among lock more) → HoldsEach more t asked → Unopposed locks t (granule_needs asked ++ held_needs locks t)
unopposed_among locks more t asked all within held lock need i j apart on = go (among_split need (granule_needs asked) (held_needs locks t) j)
  where
    up : HoldsMode locks t (OnGranule need.number) need.mode → HoldsMode more t (OnGranule need.number) need.mode
    up h = record { lock = h.lock; held = within h.lock h.held; by_txn = h.by_txn; on_name = h.on_name; enough = h.enough }

    against : HoldsMode more t (OnGranule need.number) need.mode → compatible lock.mode need.mode ≡ true
    against h = held_unopposed more t (need ∷ []) all (λ n k. only n k h) lock need (within lock i) (inl refl) apart on
      where
        only : (n : GranuleNeed) → Among n (need ∷ []) → HoldsMode more t (OnGranule need.number) need.mode → HoldsMode more t (OnGranule n.number) n.mode
        only n (inl s) h = subst (λ (z : GranuleNeed). HoldsMode more t (OnGranule z.number) z.mode) (sym s) h
        only n (inr k) h = absurd k

    go : Among need (granule_needs asked) ⊎ Among need (held_needs locks t) → compatible lock.mode need.mode ≡ true
    go (inl k) = against (asked_are_held more t asked held need k)
    go (inr k) = against (up (held_are_held locks t need k))
