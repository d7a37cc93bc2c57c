-- The search for granules: what waits, what was looked at, and what was found.
use Rattle.std.proofs.Common.{◌≡◌, ℕ, Bool, true, false, ◌&&◌, List, [], ◌∷◌, ◌++◌, map, reverse, refl, sym, ap, ◌∙◌, subst, inl, inr, ◌⊎◌}
use Rattle.std.specs.List.{flat_map, filter}
use Rattle.std.proofs.lemmas.List.{append_assoc, append-nil, reverse-append, reverse-reverse, map-append}
use Rattle.std.proofs.lemmas.List.Elements.{filter-append}
use Rattle.std.proofs.lemmas.Grind.{flat_map-append}
use Rattle.sp_rect.specs.Plane.{Rectangle, IsRectangle, Point, holds}
use Rattle.sp_node.specs.Among.{Among}
use Rattle.sp_node.specs.Look.{look}
use Rattle.sp_node.specs.Table.{Table, body_at, nodes_meeting}
use Rattle.sp_node.proofs.Among.{among_left, among_right, among_split}
use Rattle.sp_node.proofs.Descent.{Spot, IsReady, seen, seen_at}
use Rattle.sp_granule.specs.declared.meeting.Waiting.{Waiting}
use Rattle.sp_granule.specs.Granules.{granules, IsMeeting}
use Rattle.sp_granule.proofs.Covering.{granules_under}

module _ (t : Table) (q : Rectangle) where
  -- the number is that of a granule at or below the spot that meets q
  abbrev pub Below : Spot → ℕ → Type 0
  Below s n = IsMeeting (granules_under s.level s.number s.space (body_at (look t.nodes) s.level s.number)) q n

  abbrev pub AnyBelow : List Spot → ℕ → Type 0
  AnyBelow [] n = ⊥
  AnyBelow (s ∷ ss) n = Below s n ⊎ AnyBelow ss n

  any_left : (ss ts : List Spot) (n : ℕ) → AnyBelow ss n → AnyBelow (ss ++ ts) n
  any_left [] ts n h = absurd h
  any_left (s ∷ ss) ts n (inl h) = inl h
  any_left (s ∷ ss) ts n (inr h) = inr (any_left ss ts n h)

  any_right : (ss ts : List Spot) (n : ℕ) → AnyBelow ts n → AnyBelow (ss ++ ts) n
  any_right [] ts n h = h
  any_right (s ∷ ss) ts n h = inr (any_right ss ts n h)

  any_split : (ss ts : List Spot) (n : ℕ) → AnyBelow (ss ++ ts) n → AnyBelow ss n ⊎ AnyBelow ts n
  any_split [] ts n h = inr h
  any_split (s ∷ ss) ts n (inl h) = inl (inl h)
  any_split (s ∷ ss) ts n (inr h) = elim (any_split ss ts n h) [ inl k ↦ inl (inr k) | inr k ↦ inr k ]

  -- what waits stands at the spot, with the part of q that lies in its space
  pub record IsWaiting (w : Waiting) (s : Spot) : Type 0 where
    pub named : w.node ≡ s.number
    pub valid : IsRectangle w.part
    pub points : (p : Point) → holds w.part p ≡ (holds s.space p && holds q p)
    pub ready : IsReady t q s

  abbrev pub AreWaiting : List Waiting → List Spot → Type 0
  AreWaiting [] [] = Unit {0}
  AreWaiting [] (s ∷ ss) = ⊥
  AreWaiting (w ∷ ws) [] = ⊥
  AreWaiting (w ∷ ws) (s ∷ ss) = IsWaiting w s × AreWaiting ws ss

  waiting_append : (ws vs : List Waiting) (ss ts : List Spot) → AreWaiting ws ss → AreWaiting vs ts → AreWaiting (ws ++ vs) (ss ++ ts)
  waiting_append [] vs [] ts h k = k
  waiting_append [] vs (s ∷ ss) ts h k = absurd h
  waiting_append (w ∷ ws) vs [] ts h k = absurd h
  waiting_append (w ∷ ws) vs (s ∷ ss) ts h k = (h.0, waiting_append ws vs ss ts h.1 k)

  -- the granules at and below a spot are its own, if it counts, and those at and below these spots
  pub record Opens (s : Spot) (Own : Type 0) (inside : List Spot) : Type 0 where
    pub splits : (n : ℕ) → Below s n → ((n ≡ s.number) × Own) ⊎ AnyBelow inside n
    pub own : Own → Below s s.number
    pub from_inside : (n : ℕ) → AnyBelow inside n → Below s n
    pub sees : seen_at t q s ≡ s.number ∷ flat_map (seen_at t q) inside

  -- each number that was looked at, and whether it was found
  abbrev pub looked : List (ℕ × Bool) → List ℕ
  looked pairs = map (λ p. p.0) pairs

  abbrev pub kept : List (ℕ × Bool) → List ℕ
  kept pairs = map (λ p. p.0) (filter (λ p. p.1) pairs)

  pub record Walks (pending : List Waiting) (found : List ℕ) : Type 0 where
    pub spots : List Spot
    pub pairs : List (ℕ × Bool)
    pub waiting : AreWaiting (reverse pending) spots
    pub all_seen : looked pairs ++ flat_map (seen_at t q) spots ≡ nodes_meeting t q
    pub found_is : found ≡ kept pairs
    pub sound : (n : ℕ) → Among n found → IsMeeting (granules t) q n
    pub below : (n : ℕ) → AnyBelow spots n → IsMeeting (granules t) q n
    pub complete : (n : ℕ) → IsMeeting (granules t) q n → Among n found ⊎ AnyBelow spots n

  -- one more number was looked at
  module _ (number : ℕ) (b : Bool) (pairs : List (ℕ × Bool)) where
    looked_more : looked (pairs ++ (number, b) ∷ []) ≡ looked pairs ++ number ∷ []
    looked_more = map-append (λ (p : ℕ × Bool). p.0) pairs ((number, b) ∷ [])

  kept_more : (number : ℕ) (pairs : List (ℕ × Bool)) → kept (pairs ++ (number, true) ∷ []) ≡ kept pairs ++ number ∷ []
  kept_more number pairs = ap (λ (ps : List (ℕ × Bool)). map (λ (p : ℕ × Bool). p.0) ps) (filter-append (λ (p : ℕ × Bool). p.1) pairs ((number, true) ∷ [])) ∙ map-append (λ (p : ℕ × Bool). p.0) (filter (λ p. p.1) pairs) ((number, true) ∷ [])

  kept_less : (number : ℕ) (pairs : List (ℕ × Bool)) → kept (pairs ++ (number, false) ∷ []) ≡ kept pairs
  kept_less number pairs = ap (λ (ps : List (ℕ × Bool)). map (λ (p : ℕ × Bool). p.0) ps) (filter-append (λ (p : ℕ × Bool). p.1) pairs ((number, false) ∷ []) ∙ append-nil (filter (λ p. p.1) pairs))

  -- One turn: the last of those that wait is looked at, and found if it counts; what it opens waits.
  module _ (rest : List Waiting) (w : Waiting) (s : Spot) (ss : List Spot) (Own : Type 0) (inside : List Spot) (parts : List Waiting) (opens : Opens s Own inside) (are_parts : AreWaiting parts inside) where
    later : AreWaiting (reverse rest) ss → AreWaiting (reverse (rest ++ reverse parts)) (inside ++ ss)
    later h = subst (λ (ws : List Waiting). AreWaiting ws (inside ++ ss)) (sym (reverse-append rest (reverse parts) ∙ ap (λ (ws : List Waiting). ws ++ reverse rest) (reverse-reverse parts))) (waiting_append parts (reverse rest) inside ss are_parts h)

    still_seen : (done : List ℕ) → done ++ flat_map (seen_at t q) (s ∷ ss) ≡ nodes_meeting t q → (done ++ s.number ∷ []) ++ flat_map (seen_at t q) (inside ++ ss) ≡ nodes_meeting t q
    still_seen done e =
        append_assoc done (s.number ∷ []) _ ∙ ap (λ (xs : List ℕ). done ++ (s.number ∷ xs)) (flat_map-append (seen_at t q) inside ss)
        ∙ ap (λ (xs : List ℕ). done ++ (xs ++ flat_map (seen_at t q) ss)) (sym opens.sees) ∙ e

    opened : (n : ℕ) → AnyBelow (inside ++ ss) n → AnyBelow (s ∷ ss) n
    opened n h = elim (any_split inside ss n h) [ inl k ↦ inl (opens.from_inside n k) | inr k ↦ inr k ]

    counted : (found found' : List ℕ) → ((n : ℕ) → Among n found → Among n found') → (Own → Among s.number found') → (n : ℕ) → Among n found ⊎ AnyBelow (s ∷ ss) n → Among n found' ⊎ AnyBelow (inside ++ ss) n
    counted found found' more own n (inl a) = inl (more n a)
    counted found found' more own n (inr (inr h)) = inr (any_right inside ss n h)
    counted found found' more own n (inr (inl h)) = elim (opens.splits n h) [
      | inl k ↦ inl (subst (λ (m : ℕ). Among m found') (sym k.0) (own k.1))
      | inr k ↦ inr (any_left inside ss n k)
    ]

    pub turn_yes :
        (found found' : List ℕ) (pairs : List (ℕ × Bool)) → AreWaiting (reverse rest) ss → looked pairs ++ flat_map (seen_at t q) (s ∷ ss) ≡ nodes_meeting t q → found ≡ kept pairs → ((n : ℕ) → Among n found → IsMeeting (granules t) q n) → ((n : ℕ) → AnyBelow (s ∷ ss) n → IsMeeting (granules t) q n)
        → ((n : ℕ) → IsMeeting (granules t) q n → Among n found ⊎ AnyBelow (s ∷ ss) n) → found' ≡ found ++ s.number ∷ [] → Own → Walks (rest ++ reverse parts) found'
    turn_yes found found' pairs h seen is sound below complete e own = record {
      spots = inside ++ ss;
      pairs = pairs ++ (s.number, true) ∷ [];
      waiting = later h;
      all_seen = ap (λ (xs : List ℕ). xs ++ flat_map (seen_at t q) (inside ++ ss)) (looked_more s.number true pairs) ∙ still_seen (looked pairs) seen;
      found_is = e ∙ ap (λ (xs : List ℕ). xs ++ s.number ∷ []) is ∙ sym (kept_more s.number pairs);
      sound = λ n a. elim (among_split n found (s.number ∷ []) (subst (Among n) e a)) [
        | inl k ↦ sound n k
        | inr k ↦ at_own n k
      ];
      below = λ n k. below n (opened n k);
      complete = λ n m. counted found found' (λ k a. subst (Among k) (sym e) (among_left k found (s.number ∷ []) a)) (λ o. subst (Among s.number) (sym e) (among_right s.number found (s.number ∷ []) (inl refl))) n (complete n m);
    }
      where
        at_own : (n : ℕ) → Among n (s.number ∷ []) → IsMeeting (granules t) q n
        at_own n (inl k) = subst (IsMeeting (granules t) q) (sym k) (below s.number (inl (opens.own own)))
        at_own n (inr k) = absurd k

    pub turn_no :
        (found found' : List ℕ) (pairs : List (ℕ × Bool)) → AreWaiting (reverse rest) ss → looked pairs ++ flat_map (seen_at t q) (s ∷ ss) ≡ nodes_meeting t q → found ≡ kept pairs → ((n : ℕ) → Among n found → IsMeeting (granules t) q n) → ((n : ℕ) → AnyBelow (s ∷ ss) n → IsMeeting (granules t) q n)
        → ((n : ℕ) → IsMeeting (granules t) q n → Among n found ⊎ AnyBelow (s ∷ ss) n) → found' ≡ found → (¬ Own) → Walks (rest ++ reverse parts) found'
    turn_no found found' pairs h seen is sound below complete e none = record {
      spots = inside ++ ss;
      pairs = pairs ++ (s.number, false) ∷ [];
      waiting = later h;
      all_seen = ap (λ (xs : List ℕ). xs ++ flat_map (seen_at t q) (inside ++ ss)) (looked_more s.number false pairs) ∙ still_seen (looked pairs) seen;
      found_is = e ∙ is ∙ sym (kept_less s.number pairs);
      sound = λ n a. sound n (subst (Among n) e a);
      below = λ n k. below n (opened n k);
      complete = λ n m. counted found found' (λ k a. subst (Among k) (sym e) a) (λ o. absurd (none o)) n (complete n m);
    }
