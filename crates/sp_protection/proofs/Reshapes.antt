-- A licensed change keeps what others guard and own, and short needs license a change.
use Rattle.std.proofs.Common.{◌≡◌, ◌≢◌, ◌⊎◌, ℕ, suc, Bool, true, false, ◌&&◌, ◌||◌, List, [], ◌∷◌, Option, Some, None, nat_eq, refl, sym, ap, ◌∙◌, subst, inl, inr, true≢false, arith}
use Rattle.sp_rect.specs.Plane.{Point, Rectangle, holds}
use Rattle.sp_locks.specs.declared.mode.Mode.{Mode}
use Rattle.sp_locks.specs.declared.mode.Mode.TheVariants.{IX, S, SIX}
use Rattle.sp_locks.specs.declared.row.Name.TheVariants.{Granule as OnGranule}
use Rattle.sp_locks.specs.Modes.{covers}
use Rattle.sp_node.specs.Among.{Among}
use Rattle.sp_granule.specs.Granules.{Granule, Standing, in_granule}
use Rattle.sp_protection.specs.Holding.{Lock, GranuleNeed, HoldsMode, AllCompatible, has, Unopposed, UnopposedByAll, HoldsNeeds}
use Rattle.sp_protection.specs.Guarding.{Guarded, Owned}
use Rattle.sp_protection.specs.Reshape.{IsGained, Licensed, SameStandings, StillHas, IsSource, MeetsShort, EntersOrGives, MeetsEntry}
use Rattle.sp_protection.proofs.Clashes.{shared-against_intent, intent-against_six, six-covers_intent, compatible-weaker}
use Rattle.sp_protection.proofs.Choice.{some_or_none, same, tells}

-- a need behind the test
pub has-need : (needs : List GranuleNeed) (number : ℕ) (mode : Mode) → has needs number mode ≡ true → (need : GranuleNeed) × Among need needs × (need.number ≡ number) × (covers need.mode mode ≡ true)
has-need [] number mode h = absurd (true≢false (sym h))
has-need (need ∷ needs) number mode h = go (has-need needs number mode) (nat_eq need.number number) refl (covers need.mode mode) refl
  where
    go : (has needs number mode ≡ true → (d : GranuleNeed) × Among d needs × (d.number ≡ number) × (covers d.mode mode ≡ true))
        → (b : Bool) → nat_eq need.number number ≡ b → (c : Bool) → covers need.mode mode ≡ c → (d : GranuleNeed) × Among d (need ∷ needs) × (d.number ≡ number) × (covers d.mode mode ≡ true)
    go rest true e true k = (need, inl refl, same _ _ e, k)
    go rest true e false k = let r = rest (rw (e, k) at h) in (r.0, inr r.1, r.2, r.3)
    go rest false e c k = let r = rest (rw e at h) in (r.0, inr r.1, r.2, r.3)

-- who holds S on a granule is in the way of a need of IX there, and who holds IX in the way of SIX
no_shared : (locks : List Lock) (t u : ℕ) (needs : List GranuleNeed) (number : ℕ) → Unopposed locks t needs → u ≢ t → HoldsMode locks u (OnGranule number) S → has needs number IX ≡ true → ⊥
no_shared locks t u needs number free apart h k =
    let need = has-need needs number IX k in
    shared-against_intent h.lock.mode need.0.mode h.enough need.3
    (free h.lock need.0 h.held need.1 (λ same. apart (sym h.by_txn ∙ same)) (h.on_name ∙ ap OnGranule (sym need.2)))

no_intent : (locks : List Lock) (t u : ℕ) (needs : List GranuleNeed) (number : ℕ) → Unopposed locks t needs → u ≢ t → HoldsMode locks u (OnGranule number) IX → has needs number SIX ≡ true → ⊥
no_intent locks t u needs number free apart h k =
    let need = has-need needs number SIX k in
    intent-against_six h.lock.mode need.0.mode h.enough need.3
    (free h.lock need.0 h.held need.1 (λ same. apart (sym h.by_txn ∙ same)) (h.on_name ∙ ap OnGranule (sym need.2)))

-- the leaf of a number holds the point, or no leaf of that number does
leaf_or_gained : (gs : List Granule) (number : ℕ) (p : Point)
    → ((g : Granule) × Among g gs × (g.is_leaf ≡ true) × (g.number ≡ number) × (in_granule g p ≡ true))
    ⊎ ((g : Granule) → Among g gs → g.is_leaf ≡ true → g.number ≡ number → in_granule g p ≡ false)
leaf_or_gained gs number p = go (some_or_none (λ (g : Granule). g.is_leaf && (nat_eq g.number number && in_granule g p)) gs)
  where
    parts : (a b c : Bool) → (a && (b && c)) ≡ true → (a ≡ true) × (b ≡ true) × (c ≡ true)
    parts a b c h = grind arith

    last : (a b c : Bool) → (a && (b && c)) ≡ false → a ≡ true → b ≡ true → c ≡ false
    last a b c h k l = grind arith

    go : ((g : Granule) × Among g gs × ((g.is_leaf && (nat_eq g.number number && in_granule g p)) ≡ true)) ⊎ ((g : Granule) → Among g gs → (g.is_leaf && (nat_eq g.number number && in_granule g p)) ≡ false)
        → ((g : Granule) × Among g gs × (g.is_leaf ≡ true) × (g.number ≡ number) × (in_granule g p ≡ true))
        ⊎ ((g : Granule) → Among g gs → g.is_leaf ≡ true → g.number ≡ number → in_granule g p ≡ false)
    go (inl h) = let k = parts h.0.is_leaf (nat_eq h.0.number number) (in_granule h.0 p) h.2 in inl (h.0, h.1, k.0, same h.0.number number k.1, k.2)
    go (inr h) = inr (λ g i l e. last g.is_leaf (nat_eq g.number number) (in_granule g p) (h g i) l (tells g.number number e))

-- a granule of T that no need of IX names is still there, with each of its points
kept : (gs gs' : List Granule) (needs : List GranuleNeed) → Licensed gs gs' needs → (g : Granule) (p : Point) → Among g gs → in_granule g p ≡ true → (has needs g.number IX ≡ true → ⊥)
    → (after : Granule) × Among after gs' × (after.number ≡ g.number) × (in_granule after p ≡ true)
kept gs gs' needs licensed g p i had free = go (some_or_none (λ (after : Granule). nat_eq after.number g.number) gs')
  where
    go : ((after : Granule) × Among after gs' × (nat_eq after.number g.number ≡ true)) ⊎ ((after : Granule) → Among after gs' → nat_eq after.number g.number ≡ false)
        → (after : Granule) × Among after gs' × (after.number ≡ g.number) × (in_granule after p ≡ true)
    go (inl h) = here (in_granule h.0 p) refl
      where
        here : (b : Bool) → in_granule h.0 p ≡ b → (after : Granule) × Among after gs' × (after.number ≡ g.number) × (in_granule after p ≡ true)
        here true e = (h.0, h.1, same _ _ h.2, e)
        here false e = absurd (free (licensed.loses g i (record { after = h.0; among = h.1; same = same _ _ h.2; point = p; had = had; lost = e })))
    go (inr h) = absurd (free (licensed.gone g i (λ after k e. true≢false (sym (tells _ _ e) ∙ h after k))))

pub guarded_kept : (gs gs' : List Granule) (locks : List Lock) (t u : ℕ) (needs : List GranuleNeed) (rect : Rectangle) → Licensed gs gs' needs → Unopposed locks t needs → u ≢ t → Guarded gs locks u rect → Guarded gs' locks u rect
guarded_kept gs gs' locks t u needs rect licensed free apart guarded = record {
  leaves = λ after p i l had q. leaf after p i l had q (leaf_or_gained gs after.number p);
  points = λ p q.
      let h = guarded.points p q in
      let k = kept gs gs' needs licensed h.0 p h.1 h.2 (λ named. no_shared locks t u needs h.0.number free apart h.3 named) in
      (k.0, k.1, k.3, subst (λ n. HoldsMode locks u (OnGranule n) S) (sym k.2) h.3);
}
  where
    leaf : (after : Granule) (p : Point) → Among after gs' → after.is_leaf ≡ true → in_granule after p ≡ true → holds rect p ≡ true
        → ((g : Granule) × Among g gs × (g.is_leaf ≡ true) × (g.number ≡ after.number) × (in_granule g p ≡ true))
        ⊎ ((g : Granule) → Among g gs → g.is_leaf ≡ true → g.number ≡ after.number → in_granule g p ≡ false)
        → HoldsMode locks u (OnGranule after.number) S
    leaf after p i l had q (inl h) = subst (λ n. HoldsMode locks u (OnGranule n) S) h.3 (guarded.leaves h.0 p h.1 h.2 h.4 q)
    leaf after p i l had q (inr new) = absurd (gained (licensed.gains after p i l (had, new)))
      where
        gained : ((g : Granule) × Among g gs × (g.is_leaf ≡ true) × (in_granule g p ≡ true) × (has needs g.number IX ≡ true))
            ⊎ ((g : Granule) → Among g gs → in_granule g p ≡ true → has needs g.number IX ≡ true) → ⊥
        gained (inl h) = no_shared locks t u needs h.0.number free apart (guarded.leaves h.0 p h.1 h.2 h.3 q) h.4
        gained (inr every) = let h = guarded.points p q in no_shared locks t u needs h.0.number free apart h.3 (every h.0 h.1 h.2)

pub owned_kept : (gs gs' : List Granule) (locks : List Lock) (t u : ℕ) (needs : List GranuleNeed) (e : Standing) → Licensed gs gs' needs → SameStandings gs gs' → Unopposed locks t needs → u ≢ t → Owned gs locks u e → StillHas gs' e.number → Owned gs' locks u e
owned_kept gs gs' locks t u needs e licensed entries free apart owned still = go (nat_eq still.after.number owned.leaf.number) refl
  where
    there : Among e still.after.entries
    there = subst (λ x. Among x still.after.entries) (entries owned.leaf still.after e still.entry owned.among owned.entry still.among still.stands still.same) still.stands

    go : (b : Bool) → nat_eq still.after.number owned.leaf.number ≡ b → Owned gs' locks u e
    go true k = record {
      leaf = still.after;
      among = still.among;
      is_leaf = still.is_leaf;
      entry = there;
      intent = subst (λ n. HoldsMode locks u (OnGranule n) IX) (sym (same _ _ k)) owned.intent;
      object = owned.object;
    }
    go false k =
        absurd (no_intent locks t u needs owned.leaf.number free apart owned.intent
        (licensed.gives owned.leaf owned.among owned.is_leaf
        (record { entry = e; stood = owned.entry; after = still.after; among = still.among; is_leaf = still.is_leaf; stands = there; other = λ s. true≢false (sym (tells _ _ s) ∙ k) })))

pub six-has_intent : (needs : List GranuleNeed) (number : ℕ) → has needs number SIX ≡ true → has needs number IX ≡ true
six-has_intent [] number h = h
six-has_intent (need ∷ needs) number h = go (nat_eq need.number number) (covers need.mode SIX) (covers need.mode IX) (has needs number SIX) (has needs number IX) (six-covers_intent need.mode) (six-has_intent needs number) h
  where
    go : (a b c d e : Bool) → (b ≡ true → c ≡ true) → (d ≡ true → e ≡ true) → ((a && b) || d) ≡ true → ((a && c) || e) ≡ true
    go a b c d e h k l = grind arith

-- the gain of a leaf, where each source is named by the needs
gains_licensed : (gs gs' : List Granule) (chosen : Option ℕ) (needs : List GranuleNeed) → MeetsShort gs gs' chosen needs
    → ((l : Granule) → Among l gs → IsSource gs' chosen l → has needs l.number IX ≡ true)
    → (after : Granule) (p : Point) → Among after gs' → after.is_leaf ≡ true → IsGained gs after p
    → ((g : Granule) × Among g gs × (g.is_leaf ≡ true) × (in_granule g p ≡ true) × (has needs g.number IX ≡ true))
    ⊎ ((g : Granule) → Among g gs → in_granule g p ≡ true → has needs g.number IX ≡ true)
gains_licensed gs gs' chosen needs short sources after p i l gained = go (some_or_none (λ (g : Granule). g.is_leaf && (in_granule g p && has needs g.number IX)) gs)
  where
    parts : (a b c : Bool) → (a && (b && c)) ≡ true → (a ≡ true) × (b ≡ true) × (c ≡ true)
    parts a b c h = grind arith

    never : (a b c : Bool) → (a && (b && c)) ≡ false → a ≡ true → b ≡ true → c ≡ true → ⊥
    never a b c h k l m = grind arith

    go : ((g : Granule) × Among g gs × ((g.is_leaf && (in_granule g p && has needs g.number IX)) ≡ true)) ⊎ ((g : Granule) → Among g gs → (g.is_leaf && (in_granule g p && has needs g.number IX)) ≡ false)
        → ((g : Granule) × Among g gs × (g.is_leaf ≡ true) × (in_granule g p ≡ true) × (has needs g.number IX ≡ true))
        ⊎ ((g : Granule) → Among g gs → in_granule g p ≡ true → has needs g.number IX ≡ true)
    go (inl h) = let k = parts h.0.is_leaf (in_granule h.0 p) (has needs h.0.number IX) h.2 in inl (h.0, h.1, k.0, k.1, k.2)
    go (inr none) = inr (λ g j had. short.reached g j (record {
      after = after;
      among = i;
      is_leaf = l;
      point = p;
      gained = gained;
      had = had;
      no_source = λ s k here source. never s.is_leaf (in_granule s p) (has needs s.number IX) (none s k) source.0 here (sources s k source);
    }))

pub short_license_removal : (gs gs' : List Granule) (needs : List GranuleNeed) → MeetsShort gs gs' None needs → Licensed gs gs' needs
short_license_removal gs gs' needs short = record {
  loses = short.loses;
  gone = short.gone;
  gains = gains_licensed gs gs' None needs short source;
  gives = short.gives;
}
  where
    source : (l : Granule) → Among l gs → IsSource gs' None l → has needs l.number IX ≡ true
    source l i (leaf, inl h) = short.loses l i h
    source l i (leaf, inr (inl h)) = short.gone l i h
    source l i (leaf, inr (inr (inl h))) = six-has_intent needs l.number (short.gives l i leaf h)
    source l i (leaf, inr (inr (inr e))) = absurd (cc)

pub needs_license_put : (gs gs' : List Granule) (chosen : ℕ) (e : Standing) (needs : List GranuleNeed) → MeetsShort gs gs' (Some chosen) needs → MeetsEntry gs gs' e needs → EntersOrGives gs gs' chosen e → Licensed gs gs' needs
needs_license_put gs gs' chosen e needs short entry enters = record {
  loses = short.loses;
  gone = short.gone;
  gains = gains_licensed gs gs' (Some chosen) needs short source;
  gives = short.gives;
}
  where
    chosen_named : (l : Granule) → Among l gs → chosen ≡ l.number → EntersOrGives gs gs' chosen e → has needs l.number IX ≡ true
    chosen_named l i s (inl h) = subst (λ n. has needs n IX ≡ true) (h.4 ∙ s) (entry h.0 h.1 h.2 h.3 (l, i, sym (h.4 ∙ s)))
    chosen_named l i s (inr h) = subst (λ n. has needs n IX ≡ true) (h.3 ∙ s) (six-has_intent needs h.0.number (short.gives h.0 h.1 h.2 h.4))

    source : (l : Granule) → Among l gs → IsSource gs' (Some chosen) l → has needs l.number IX ≡ true
    source l i (leaf, inl h) = short.loses l i h
    source l i (leaf, inr (inl h)) = short.gone l i h
    source l i (leaf, inr (inr (inl h))) = six-has_intent needs l.number (short.gives l i leaf h)
    source l i (leaf, inr (inr (inr s))) = chosen_named l i (cc) enters

pub held_unopposed : (locks : List Lock) (t : ℕ) (needs : List GranuleNeed) → AllCompatible locks → HoldsNeeds locks t needs → Unopposed locks t needs
held_unopposed locks t needs compatible held lock need i j apart on =
    let h = held need j in
    compatible-weaker lock.mode h.lock.mode need.mode h.enough (compatible lock h.lock i h.held (λ same. apart (same ∙ h.by_txn)) (on ∙ sym h.on_name))

pub removal_keeps_guarded : (gs gs' : List Granule) (locks : List Lock) (u : ℕ) (needs : List GranuleNeed) (rect : Rectangle) → Licensed gs gs' needs → UnopposedByAll locks needs → Guarded gs locks u rect → Guarded gs' locks u rect
removal_keeps_guarded gs gs' locks u needs rect licensed free = guarded_kept gs gs' locks (suc u) u needs rect licensed (λ lock need i j _ on. free lock need i j on) (λ same. absurd (omega arith))

pub removal_keeps_owned : (gs gs' : List Granule) (locks : List Lock) (u : ℕ) (needs : List GranuleNeed) (e : Standing) → Licensed gs gs' needs → SameStandings gs gs' → UnopposedByAll locks needs → Owned gs locks u e → StillHas gs' e.number → Owned gs' locks u e
removal_keeps_owned gs gs' locks u needs e licensed entries free = owned_kept gs gs' locks (suc u) u needs e licensed entries (λ lock need i j _ on. free lock need i j on) (λ same. absurd (omega arith))
