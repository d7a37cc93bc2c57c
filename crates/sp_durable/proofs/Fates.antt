-- What a transaction makes of the entries, and what it is to make of the records of one id.
use Rattle.std.proofs.Common.{◌≡◌, ℕ, ◌+◌, ◌≤◌, ◌⊎◌, Bool, true, false, not, ◌&&◌, ◌||◌, cond, nat_eq, nat_lt, List, [], ◌∷◌, ◌++◌, map, filter, length, Option, Some, None, refl, sym, ap, ◌∙◌, subst, inl, inr, true≢false, arith}
use Rattle.std.specs.Option.{option_to_list}
use Rattle.std.specs.List.{sum_by}
use Rattle.std.proofs.lemmas.Bool.Decides.{nat_tests}
use Rattle.std.proofs.lemmas.List.Sums.{sum_by-append}
use Rattle.sp_rect.specs.declared.record.Record.{Record}
use Rattle.sp_rect.specs.Store.{Id, within}
use Rattle.sp_plain.specs.declared.change.Change.{Change}
use Rattle.sp_plain.specs.declared.change.Change.TheVariants.{Put, Drop, Set}
use Rattle.sp_plain.proofs.Order.{valued}
use Rattle.sp_node.specs.declared.node.Entry.{Entry}
use Rattle.sp_node.specs.declared.marks.Made.{Made}
use Rattle.sp_node.specs.declared.marks.Made.TheVariants.{Committed, By as MadeBy}
use Rattle.sp_node.specs.declared.marks.Draft.{Draft}
use Rattle.sp_node.specs.declared.marks.Draft.TheVariants.{None as NoDraft, Of}
use Rattle.sp_node.specs.Among.{Among}
use Rattle.sp_node.specs.Marks.{is_made_by, is_ended_by, is_draft_of, is_committed, is_done, is_marked, drafted}
use Rattle.sp_txn.specs.Changes.{change_by, change_of, changes_of, is_drop, precedes}
use Rattle.sp_txn.specs.Visible.{is_live, is_visible, record_of, record_for}
use Rattle.sp_durable.proofs.InOrder.{AreInOrder, of_id}
use Rattle.sp_durable.proofs.Merging.{LeadsTo, added, puts}

-- what the transaction has marked is committed, or made by it
abbrev pub IsOwn : ℕ → Entry → Type 0
IsOwn t e = is_marked t e ≡ true → is_committed e.marks.made ≡ false → is_made_by t e.marks.made ≡ true

-- what it makes of one entry, by whether that is live, whether it sees it, and the change
data Makes (t : ℕ) (e : Entry) : Bool → Bool → Option Change → Type 0 where
  Hides : Makes t e false false None
  Keeps : record_for t e ≡ record_of e → Makes t e true true None
  Writes : Makes t e true true (Some (Set e.id (drafted t e.marks.draft e.value)))
  Ends : Makes t e true false (Some (Drop e.id))
  Enters : Makes t e false true (Some (Put (record_for t e)))

makes : (t : ℕ) (e : Entry) → IsOwn t e → Makes t e (is_live e) (is_visible t e) (change_of t e)
makes t e own = by (is_committed e.marks.made) (is_made_by t e.marks.made) (is_ended_by t e.marks.ended) (is_done e.marks.ended) (is_draft_of t e.marks.draft) (one_maker e.marks.made) own (undrafted e.marks.draft)
  where
    one_maker : (m : Made) → (is_committed m && is_made_by t m) ≡ false
    one_maker Committed = refl
    one_maker (MadeBy u) = refl

    undrafted : (d : Draft) → is_draft_of t d ≡ false → record { id = e.id; rect = e.rect; value = drafted t d e.value } ≡ record_of e
    undrafted NoDraft h = refl
    undrafted (Of u value) h = rw h refl

    by : (c m x d f : Bool) → (c && m) ≡ false → (((m || x || f) && not d) ≡ true → c ≡ false → m ≡ true) → (f ≡ false → record_for t e ≡ record_of e)
        → Makes t e (c && not d) ((c || m) && not (x || d)) (change_by t e d m x f)
    by true true x d f one own same = absurd (true≢false one)
    by true false true true f one own same = Hides
    by true false false true f one own same = Hides
    by true false true false f one own same = Ends
    by true false false false true one own same = Writes
    by true false false false false one own same = Keeps (same refl)
    by false true true true f one own same = Hides
    by false true false true f one own same = Hides
    by false true true false f one own same = Hides
    by false true false false f one own same = Enters
    by false false x true f one own same = Hides
    by false false true false f one own same = absurd (true≢false (sym (own refl refl)))
    by false false false false true one own same = absurd (true≢false (sym (own refl refl)))
    by false false false false false one own same = Hides

-- what it is to make of the records of an id
pub data Fates (id : ℕ) : List Record → List Record → List Change → Type 0 where
  None_left : Fates id [] [] []
  Stays : (r : Record) (before after : List Record) (cs : List Change) → Fates id before after cs → Fates id (r ∷ before) (r ∷ after) cs
  Turns : (r : Record) (value : List ℕ) (before after : List Record) (cs : List Change) → Fates id before after cs → Fates id (r ∷ before) (valued value r ∷ after) (Set id value ∷ cs)
  Goes : (r : Record) (before after : List Record) (cs : List Change) → Fates id before after cs → Fates id (r ∷ before) after (Drop id ∷ cs)
  Comes : (r : Record) (before after : List Record) (cs : List Change) → r.id ≡ id → Fates id before after cs → Fates id before (r ∷ after) (Put r ∷ cs)

module _ (t id : ℕ) (e : Entry) (xs ys : List Entry) (zs : List Change) (rest : Fates id (within (Id id) (map record_of xs)) (within (Id id) (map (record_for t) ys)) (of_id id zs)) where
  joined : (live seen : Bool) (change : Option Change) → Makes t e live seen change → (b : Bool) → nat_eq e.id id ≡ b
      → Fates id (within (Id id) (map record_of (cond live (e ∷ xs) xs))) (within (Id id) (map (record_for t) (cond seen (e ∷ ys) ys))) (of_id id (option_to_list change ++ zs))
  joined _ _ _ Hides b k = rest
  joined _ _ _ (Keeps same) true k = rw (k, same) (Stays (record_of e) (within (Id id) (map record_of xs)) (within (Id id) (map (record_for t) ys)) (of_id id zs) rest)
  joined _ _ _ (Keeps same) false k = rw k rest
  joined _ _ _ Writes true k =
      let s : e.id ≡ id = grind (arith, nat_tests) in
      rw k (subst (λ (n : ℕ). Fates id (record_of e ∷ within (Id id) (map record_of xs)) (record_for t e ∷ within (Id id) (map (record_for t) ys)) (Set n (drafted t e.marks.draft e.value) ∷ of_id id zs)) (sym s)
      (Turns (record_of e) (drafted t e.marks.draft e.value) (within (Id id) (map record_of xs)) (within (Id id) (map (record_for t) ys)) (of_id id zs) rest))
  joined _ _ _ Writes false k = rw k rest
  joined _ _ _ Ends true k =
      let s : e.id ≡ id = grind (arith, nat_tests) in
      rw k (subst (λ (n : ℕ). Fates id (record_of e ∷ within (Id id) (map record_of xs)) (within (Id id) (map (record_for t) ys)) (Drop n ∷ of_id id zs)) (sym s)
      (Goes (record_of e) (within (Id id) (map record_of xs)) (within (Id id) (map (record_for t) ys)) (of_id id zs) rest))
  joined _ _ _ Ends false k = rw k rest
  joined _ _ _ Enters true k = rw k (Comes (record_for t e) (within (Id id) (map record_of xs)) (within (Id id) (map (record_for t) ys)) (of_id id zs) (grind (arith, nat_tests)) rest)
  joined _ _ _ Enters false k = rw k rest

pub fates : (t id : ℕ) (es : List Entry) → ((e : Entry) → Among e es → IsOwn t e)
    → Fates id (within (Id id) (map record_of (filter is_live es))) (within (Id id) (map (record_for t) (filter (is_visible t) es))) (of_id id (changes_of t es))
fates t id [] own = None_left
fates t id (e ∷ es) own =
    joined t id e (filter is_live es) (filter (is_visible t) es) (changes_of t es) (fates t id es (λ x i. own x (inr i)))
    (is_live e) (is_visible t e) (change_of t e) (makes t e (own e (inl refl))) (nat_eq e.id id) refl

-- the same changes, in another order: as many, as many drops, and from the same
pub record IsShuffled (cs ds : List Change) : Type 0 where
  pub long : length ds ≡ length cs
  pub drops : sum_by (λ c. cond (is_drop c) 1 0) ds ≡ sum_by (λ c. cond (is_drop c) 1 0) cs
  pub from : (c : Change) → Among c ds → Among c cs

nothing_left : (id : ℕ) (before after : List Record) (cs : List Change) → Fates id before after cs → length before ≤ 0 → length after ≤ 0 → (before ≡ []) × (after ≡ []) × (cs ≡ [])
nothing_left id _ _ _ None_left h k = (refl, refl, refl)
nothing_left id _ _ _ (Stays r before after cs f) h k = absurd (omega arith)
nothing_left id _ _ _ (Turns r value before after cs f) h k = absurd (omega arith)
nothing_left id _ _ _ (Goes r before after cs f) h k = absurd (omega arith)
nothing_left id _ _ _ (Comes r before after cs n f) h k = absurd (omega arith)

no_more : {X : Type 0} (xs : List X) → length xs ≡ 0 → xs ≡ []
no_more [] h = refl
no_more (x ∷ xs) h = absurd (omega arith)

alone : (c : Change) (ds : List Change) → IsShuffled (c ∷ []) ds → ds ≡ c ∷ []
alone c [] s = absurd (let l = s.long in omega arith)
alone c (d ∷ []) s = ap (λ (z : Change). z ∷ []) (only (s.from d (inl refl)))
  where
    only : (d ≡ c) ⊎ ⊥ → d ≡ c
    only (inl e) = e
    only (inr n) = absurd n
alone c (d ∷ b ∷ ds) s = absurd (let l = s.long in omega arith)

both : (id : ℕ) (r : Record) (cs ds : List Change) → r.id ≡ id → ((c : Change) → Among c cs → (c ≡ Drop id) ⊎ (c ≡ Put r)) → length cs ≡ 2 → sum_by (λ c. cond (is_drop c) 1 0) cs ≡ 1
    → IsShuffled cs ds → AreInOrder ds → ds ≡ Drop id ∷ Put r ∷ []
both id r cs [] n each two one s o = absurd (let l = s.long in omega arith)
both id r cs (d ∷ []) n each two one s o = absurd (let l = s.long in omega arith)
both id r cs (d ∷ b ∷ a ∷ ds) n each two one s o = absurd (let l = s.long in omega arith)
both id r cs (d ∷ b ∷ []) n each two one s o = go d b (each d (s.from d (inl refl))) (each b (s.from b (inr (inl refl)))) (s.drops ∙ one) (o.0 b (inl refl))
  where
    go : (d b : Change) → (d ≡ Drop id) ⊎ (d ≡ Put r) → (b ≡ Drop id) ⊎ (b ≡ Put r) → sum_by (λ c. cond (is_drop c) 1 0) (d ∷ b ∷ []) ≡ 1 → precedes b d ≡ false → d ∷ b ∷ [] ≡ Drop id ∷ Put r ∷ []
    go d b (inl e) (inl f) h k = absurd (twos (subst (λ (z : Change). sum_by (λ c. cond (is_drop c) 1 0) (z ∷ Drop id ∷ []) ≡ 1) e (subst (λ (z : Change). sum_by (λ c. cond (is_drop c) 1 0) (d ∷ z ∷ []) ≡ 1) f h)))
      where
        twos : sum_by (λ c. cond (is_drop c) 1 0) (Drop id ∷ Drop id ∷ []) ≡ 1 → ⊥
        twos w = omega arith
    go d b (inl e) (inr f) h k = cc
    go d b (inr e) (inl f) h k = absurd (turned (subst (λ (z : Change). precedes (Drop id) z ≡ false) e (subst (λ (z : Change). precedes z d ≡ false) f k)))
      where
        turned : (nat_lt id r.id || (nat_eq id r.id && (true && not false))) ≡ false → ⊥
        turned w = grind (arith, nat_tests, n)
    go d b (inr e) (inr f) h k = absurd (none (subst (λ (z : Change). sum_by (λ c. cond (is_drop c) 1 0) (z ∷ Put r ∷ []) ≡ 1) e (subst (λ (z : Change). sum_by (λ c. cond (is_drop c) 1 0) (d ∷ z ∷ []) ≡ 1) f h)))
      where
        none : sum_by (λ c. cond (is_drop c) 1 0) (Put r ∷ Put r ∷ []) ≡ 1 → ⊥
        none w = omega arith

one_of : (c a b : Change) (rest : List Change) → rest ≡ [] → Among c (a ∷ b ∷ rest) → (c ≡ a) ⊎ (c ≡ b)
one_of c a b rest e (inl h) = inl h
one_of c a b rest e (inr (inl h)) = inr h
one_of c a b rest e (inr (inr h)) = absurd (subst (Among c) e h)

swapped : {A B : Type 0} → A ⊎ B → B ⊎ A
swapped (inl a) = inr a
swapped (inr b) = inl b

same_records : (rs made : List Record) (r s : Record) → r ≡ s → rs ≡ [] → made ≡ [] → r ∷ rs ≡ s ∷ made
same_records rs made r s h k l = cc

-- of an id with one record at most, and one at most after it, the changes lead from the one to the other
pub fates_lead : (id : ℕ) (before after : List Record) (cs ds : List Change) → Fates id before after cs → length before ≤ 1 → length after ≤ 1 → IsShuffled cs ds → AreInOrder ds → LeadsTo ds before after
fates_lead id _ _ _ ds None_left h k s o = subst (λ (z : List Change). LeadsTo z [] []) (sym (no_more ds s.long)) refl
fates_lead id _ _ _ ds (Stays r before after cs f) h k s o =
    let n = nothing_left id before after cs f (omega arith) (omega arith) in
    subst (λ (z : List Change). LeadsTo z (r ∷ before) (r ∷ after)) (sym (no_more ds (s.long ∙ ap length n.2))) (same_records before after r r refl n.0 n.1)
fates_lead id _ _ _ ds (Turns r value before after cs f) h k s o =
    let n = nothing_left id before after cs f (omega arith) (omega arith) in
    subst (λ (z : List Change). LeadsTo z (r ∷ before) (valued value r ∷ after)) (sym (alone (Set id value) ds (subst (λ (z : List Change). IsShuffled (Set id value ∷ z) ds) n.2 s)))
    (refl, same_records (map (valued value) before) after (valued value r) (valued value r) refl (ap (map (valued value)) n.0) n.1)
fates_lead id _ _ _ ds (Goes r _ _ _ None_left) h k s o =
    subst (λ (z : List Change). LeadsTo z (r ∷ []) []) (sym (alone (Drop id) ds s)) (refl, refl)
fates_lead id _ _ _ ds (Goes r _ _ _ (Stays q before after cs f)) h k s o = absurd (omega arith)
fates_lead id _ _ _ ds (Goes r _ _ _ (Turns q value before after cs f)) h k s o = absurd (omega arith)
fates_lead id _ _ _ ds (Goes r _ _ _ (Goes q before after cs f)) h k s o = absurd (omega arith)
fates_lead id _ _ _ ds (Goes r _ _ _ (Comes q before after cs m f)) h k s o =
    let n = nothing_left id before after cs f (omega arith) (omega arith) in
    subst (λ (z : List Change). LeadsTo z (r ∷ before) (q ∷ after))
    (sym (both id q (Drop id ∷ Put q ∷ cs) ds m (λ c i. one_of c (Drop id) (Put q) cs n.2 i) (ap (λ (z : List Change). length (Drop id ∷ Put q ∷ z)) n.2) (ap (λ (z : List Change). sum_by (λ c. cond (is_drop c) 1 0) (Drop id ∷ Put q ∷ z)) n.2) s o))
    (refl, (refl, same_records [] after q q refl refl n.1))
fates_lead id _ _ _ ds (Comes q _ _ _ m None_left) h k s o =
    subst (λ (z : List Change). LeadsTo z [] (q ∷ [])) (sym (alone (Put q) ds s)) (refl, refl)
fates_lead id _ _ _ ds (Comes q _ _ _ m (Stays r before after cs f)) h k s o = absurd (omega arith)
fates_lead id _ _ _ ds (Comes q _ _ _ m (Turns r value before after cs f)) h k s o = absurd (omega arith)
fates_lead id _ _ _ ds (Comes q _ _ _ m (Comes r before after cs w f)) h k s o = absurd (omega arith)
fates_lead id _ _ _ ds (Comes q _ _ _ m (Goes r before after cs f)) h k s o =
    let n = nothing_left id before after cs f (omega arith) (omega arith) in
    subst (λ (z : List Change). LeadsTo z (r ∷ before) (q ∷ after))
    (sym (both id q (Put q ∷ Drop id ∷ cs) ds m (λ c i. swapped (one_of c (Put q) (Drop id) cs n.2 i)) (ap (λ (z : List Change). length (Put q ∷ Drop id ∷ z)) n.2) (ap (λ (z : List Change). sum_by (λ c. cond (is_drop c) 1 0) (Put q ∷ Drop id ∷ z)) n.2) s o))
    (refl, (refl, same_records [] after q q refl refl n.1))

-- each live record and each put is of an entry of its own
made_apart : (t : ℕ) (e : Entry) (live seen : Bool) (change : Option Change) → Makes t e live seen change → cond live 1 0 + puts (option_to_list change) ≤ 1
made_apart t e _ _ _ Hides = omega arith
made_apart t e _ _ _ (Keeps same) = omega arith
made_apart t e _ _ _ Writes = omega arith
made_apart t e _ _ _ Ends = omega arith
made_apart t e _ _ _ Enters = omega arith

pub room_for : (t : ℕ) (es : List Entry) → ((e : Entry) → Among e es → IsOwn t e) → length (filter is_live es) + puts (changes_of t es) ≤ length es
room_for t [] own = omega arith
room_for t (e ∷ es) own =
    let h = room_for t es (λ x i. own x (inr i)) in
    let here = made_apart t e (is_live e) (is_visible t e) (change_of t e) (makes t e (own e (inl refl))) in
    let all = sum_by-append added (option_to_list (change_of t e)) (changes_of t es) in
    let counts = counted (is_live e) in
    omega (arith, h, here, all, counts)
  where
    counted : (b : Bool) → length (cond b (e ∷ filter is_live es) (filter is_live es)) ≡ cond b 1 0 + length (filter is_live es)
    counted true = omega arith
    counted false = omega arith
