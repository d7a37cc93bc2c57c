-- One entry after the other, a transaction ends.
use Rattle.std.proofs.Common.{◌≡◌, ℕ, ◌<◌, ◌≤◌, Bool, true, false, not, ◌&&◌, ◌||◌, cond, List, [], ◌∷◌, ◌++◌, map, filter, length, take, drop, nat_eq, refl, sym, ap, ◌∙◌, subst, inl, inr, true≢false, arith}
use Rattle.std.specs.Cmp.{nat_eq_equiv}
use Rattle.std.specs.List.{list_any}
use Rattle.std.proofs.lemmas.Bool.Decides.{nat_tests}
use Rattle.std.proofs.lemmas.List.{length-append, length-take-le, length-map, take-append-drop}
use Rattle.std.proofs.Math.Seq.{drop-append_seam, take-append_seam}
use Rattle.std.proofs.lemmas.Map.Made.{length-le_from_is_member}
use Rattle.sp_node.specs.declared.node.Entry.{Entry}
use Rattle.sp_node.specs.declared.node.Node.{Node}
use Rattle.sp_node.specs.declared.node.Node.TheVariants.{Leaf, Inner}
use Rattle.sp_node.specs.declared.marks.Made.{Made}
use Rattle.sp_node.specs.declared.marks.Ended.{Ended}
use Rattle.sp_node.specs.declared.marks.Draft.{Draft}
use Rattle.sp_node.specs.Among.{Among}
use Rattle.sp_node.specs.Change.{at_number, node_with, nodes_with, table_with, Keeps}
use Rattle.sp_node.specs.Marked.{IsNextMarked}
use Rattle.sp_node.specs.Marks.{is_done, is_marked, is_made_by, is_ended_by, is_draft_of, made_settled, ended_settled, ended_undone, draft_left, drafted}
use Rattle.sp_node.specs.Table.{Table, IsValid, entries_of}
use Rattle.sp_node.proofs.Changed.{entries_of_with}
use Rattle.sp_node.proofs.Laws.{one_of_number}
use Rattle.sp_protection.proofs.Leaves.{among_map, from_map}
use Rattle.sp_model.specs.Moves.{with_number, dead_among}
use Rattle.sp_model.specs.Soundness.{DeadListed}
use Rattle.sp_model.proofs.Dead.{of_dead, StayDead, stay_dead-map, dead_grows, distinct-cons}
use Rattle.sp_model.proofs.Endings.{same_table}
use Rattle.sp_model.proofs.Holding.{any-among, among-any}
use Rattle.sp_model.proofs.OneByOne.{tree_alike}
use Rattle.sp_model.proofs.Sessions.{number-same, number-tell}
use Rattle.sp_model.proofs.Settling.{undone-keeps, settled-keeps, undone-done, settled-done, undone-unmarked, settled-unmarked}
use Rattle.sp_ending.specs.declared.marks.Ending.{Ending}
use Rattle.sp_ending.specs.declared.marks.Ending.TheVariants.{Commit, Rollback}
use Rattle.sp_ending.specs.Ends.{ended, AreClean, EndsOne}
use Rattle.sp_ending.specs.Tail.{Rises, IsTail}
use Rattle.sp_ending.proofs.Newly.{is_new, newly-changed}
use Rattle.sp_ending.proofs.Rising.{rises-ascending}

-- an end, by cases
pub ended-keeps : (ending : Ending) (t : ℕ) → Keeps (ended ending t)
unfolding ended
ended-keeps Commit t = settled-keeps t
ended-keeps Rollback t = undone-keeps t

pub ended-done : (ending : Ending) (t : ℕ) (e : Entry) → is_done e.marks.ended ≡ true → is_done (ended ending t e).marks.ended ≡ true
unfolding ended
ended-done Commit t e h = settled-done t e h
ended-done Rollback t e h = undone-done t e h

pub ended-unmarked : (ending : Ending) (t : ℕ) (e : Entry) → is_marked t (ended ending t e) ≡ false
unfolding ended
ended-unmarked Commit t e = settled-unmarked t e
ended-unmarked Rollback t e = undone-unmarked t e

made-twice : (t : ℕ) (m : Made) → made_settled t (made_settled t m) ≡ made_settled t m
made-twice t m = grind (arith, nat_tests)

settled-twice : (t : ℕ) (d : Ended) → ended_settled t (ended_settled t d) ≡ ended_settled t d
settled-twice t d = grind (arith, nat_tests)

undone-twice : (t : ℕ) (m : Made) (d : Ended) → ended_undone t m (ended_undone t m d) ≡ ended_undone t m d
undone-twice t m d = grind (arith, nat_tests)

draft-twice : (t : ℕ) (d : Draft) → draft_left t (draft_left t d) ≡ draft_left t d
draft-twice t d = grind (arith, nat_tests)

value-twice : (t : ℕ) (d : Draft) (value : List ℕ) → drafted t (draft_left t d) (drafted t d value) ≡ drafted t d value
value-twice t d value = grind (arith, nat_tests)

-- an end that is made again changes nothing
pub ended-twice : (ending : Ending) (t : ℕ) (e : Entry) → ended ending t (ended ending t e) ≡ ended ending t e
unfolding ended
ended-twice Commit t e = λ i. record {
  number = e.number;
  id = e.id;
  rect = e.rect;
  value = value-twice t e.marks.draft e.value i;
  marks = record { made = made-twice t e.marks.made i; ended = settled-twice t e.marks.ended i; draft = draft-twice t e.marks.draft i };
}
ended-twice Rollback t e = λ i. record {
  number = e.number;
  id = e.id;
  rect = e.rect;
  value = e.value;
  marks = record { made = e.marks.made; ended = undone-twice t e.marks.made e.marks.ended i; draft = draft-twice t e.marks.draft i };
}

-- a change after a change
pub twice : (f g : Entry → Entry) (es : List Entry) → map g (map f es) ≡ map (λ e. g (f e)) es
twice f g [] = refl
twice f g (e ∷ es) = ap (λ (xs : List Entry). g (f e) ∷ xs) (twice f g es)

node-twice : (f g : Entry → Entry) (n : Node) → node_with g (node_with f n) ≡ node_with (λ e. g (f e)) n
node-twice f g (Leaf es) = ap Leaf (twice f g es)
node-twice f g (Inner cs) = refl

nodes-twice : (f g : Entry → Entry) (ns : List (ℕ × Node)) → nodes_with g (nodes_with f ns) ≡ nodes_with (λ e. g (f e)) ns
nodes-twice f g [] = refl
nodes-twice f g (n ∷ ns) = λ i. (n.0, node-twice f g n.1 i) ∷ nodes-twice f g ns i

pub tree-twice : (f g : Entry → Entry) (t : Table) → table_with g (table_with f t) ≡ table_with (λ e. g (f e)) t
tree-twice f g t = ap (λ (ns : List (ℕ × Node)). record { shape = t.shape; root = t.root; next = t.next; nodes = ns }) (nodes-twice f g t.nodes)

module _ (ending : Ending) (txn number : ℕ) where
  abbrev at-one : Entry → Entry
  at-one e = at_number number (ended ending txn) e

  at-keeps : Keeps at-one
  at-keeps = record { number = λ e. number-of e (nat_eq number e.number); id = λ e. id-of e (nat_eq number e.number); rect = λ e. rect-of e (nat_eq number e.number) }
    where
      number-of : (e : Entry) (b : Bool) → (cond b (ended ending txn e) e).number ≡ e.number
      number-of e true = (ended-keeps ending txn).number e
      number-of e false = refl

      id-of : (e : Entry) (b : Bool) → (cond b (ended ending txn e) e).id ≡ e.id
      id-of e true = (ended-keeps ending txn).id e
      id-of e false = refl

      rect-of : (e : Entry) (b : Bool) → (cond b (ended ending txn e) e).rect ≡ e.rect
      rect-of e true = (ended-keeps ending txn).rect e
      rect-of e false = refl

  at-done : (e : Entry) → is_done e.marks.ended ≡ true → is_done (at-one e).marks.ended ≡ true
  at-done e h = go (nat_eq number e.number)
    where
      go : (b : Bool) → is_done (cond b (ended ending txn e) e).marks.ended ≡ true
      go true = ended-done ending txn e h
      go false = h

  -- what the end makes of all is the same after one
  rest-same : (t : Table) → table_with (ended ending txn) (table_with at-one t) ≡ table_with (ended ending txn) t
  rest-same t = tree-twice at-one (ended ending txn) t ∙ (λ i. table_with (λ e. each e (nat_eq number e.number) i) t)
    where
      each : (e : Entry) (b : Bool) → ended ending txn (cond b (ended ending txn e) e) ≡ ended ending txn e
      each e true = ended-twice ending txn e
      each e false = refl

  clean-after : (es : List Entry) → AreClean ending txn es → AreClean ending txn (map at-one es)
  clean-after es clean e i none = let o = from_map at-one e es i in subst (λ (z : Entry). ended ending txn z ≡ z) o.2 (go o.0 o.1 (nat_eq number o.0.number) (subst (λ (z : Entry). is_marked txn z ≡ false) (sym o.2) none))
    where
      go : (o : Entry) → Among o es → (b : Bool) → is_marked txn (cond b (ended ending txn o) o) ≡ false → ended ending txn (cond b (ended ending txn o) o) ≡ cond b (ended ending txn o) o
      go o i true none = ended-twice ending txn o
      go o i false none = clean o i none

  no-more : (es : List Entry) → length (filter (is_marked txn) (map at-one es)) ≤ length (filter (is_marked txn) es)
  no-more [] = omega arith
  no-more (e ∷ es) = go (nat_eq number e.number) (is_marked txn e) refl (no-more es)
    where
      go : (b m : Bool) → is_marked txn e ≡ m → length (filter (is_marked txn) (map at-one es)) ≤ length (filter (is_marked txn) es)
          → length (filter (is_marked txn) (cond b (ended ending txn e) e ∷ map at-one es)) ≤ length (cond m (e ∷ filter (is_marked txn) es) (filter (is_marked txn) es))
      go true true h l = rw (ended-unmarked ending txn e) (omega (arith, l))
      go true false h l = rw (ended-unmarked ending txn e) l
      go false true h l = rw h (omega (arith, l))
      go false false h l = rw h l

  -- one entry less bears a mark
  fewer : (es : List Entry) (e : Entry) → Among e es → e.number ≡ number → is_marked txn e ≡ true → length (filter (is_marked txn) (map at-one es)) < length (filter (is_marked txn) es)
  fewer [] e i named marked = absurd i
  fewer (y ∷ ys) e (inl same) named marked =
      rw (number-tell number y.number (sym (ap (λ (z : Entry). z.number) (sym same) ∙ named)), ended-unmarked ending txn y, ap (is_marked txn) (sym same) ∙ marked) (let l = no-more ys in omega (arith, l))
  fewer (y ∷ ys) e (inr i) named marked = go (nat_eq number y.number) (is_marked txn y) refl (fewer ys e i named marked)
    where
      go : (b m : Bool) → is_marked txn y ≡ m → length (filter (is_marked txn) (map at-one ys)) < length (filter (is_marked txn) ys)
          → length (filter (is_marked txn) (cond b (ended ending txn y) y ∷ map at-one ys)) < length (cond m (y ∷ filter (is_marked txn) ys) (filter (is_marked txn) ys))
      go true true h l = rw (ended-unmarked ending txn y) (omega (arith, l))
      go true false h l = rw (ended-unmarked ending txn y) l
      go false true h l = rw h (omega (arith, l))
      go false false h l = rw h l

-- a list up to a place, with another end
take-front : (from : ℕ) (xs ys : List ℕ) → from ≤ length xs → take from (take from xs ++ ys) ≡ take from xs
take-front from xs ys l = ap (λ (n : ℕ). take n (take from xs ++ ys)) (sym (length-take-le from xs l)) ∙ take-append_seam (take from xs) ys

drop-front : (from : ℕ) (xs ys : List ℕ) → from ≤ length xs → drop from (take from xs ++ ys) ≡ ys
drop-front from xs ys l = ap (λ (n : ℕ). drop n (take from xs ++ ys)) (sym (length-take-le from xs l)) ∙ drop-append_seam (take from xs) ys

length-front : (from : ℕ) (xs ys : List ℕ) → from ≤ length xs → from ≤ length (take from xs ++ ys)
length-front from xs ys l = let a = length-append (take from xs) ys in let b = length-take-le from xs l in omega (arith, a, b)

-- the dead list has room for an entry that is not in it
listed-room : (dead : List ℕ) (es : List Entry) (n : ℕ) (e : Entry) → DeadListed dead es → Among e es → e.number ≡ n → (Among n dead → ⊥) → length dead < length es
listed-room dead es n e h i named out =
    let most = length-le_from_is_member nat_eq_equiv (n ∷ dead) (map (λ (z : Entry). z.number) es) (distinct-cons n dead out h.once) member in
    let size = length-map es (λ (z : Entry). z.number) in
    omega (arith, most, size)
  where
    there : (q : ℕ) → Among q (n ∷ dead) → Among q (map (λ (z : Entry). z.number) es)
    there q (inl s) = subst (λ (m : ℕ). Among m (map (λ (z : Entry). z.number) es)) (named ∙ sym s) (among_map (λ (z : Entry). z.number) e es i)
    there q (inr j) = let b = h.back q j in subst (λ (m : ℕ). Among m (map (λ (z : Entry). z.number) es)) b.2 (among_map (λ (z : Entry). z.number) b.0 es b.1)

    member : (q : ℕ) → list_any (nat_eq q) (n ∷ dead) ≡ true → list_any (nat_eq q) (map (λ (z : Entry). z.number) es) ≡ true
    member q k = let a = any-among (nat_eq q) (n ∷ dead) k in among-any (nat_eq q) q (map (λ (z : Entry). z.number) es) (there q (subst (λ (m : ℕ). Among m (n ∷ dead)) (sym (number-same q a.0 a.2)) a.1)) (number-tell q q refl)

marked-alive : (t : ℕ) (e : Entry) → is_marked t e ≡ true → is_done e.marks.ended ≡ false
marked-alive t e h = go (is_made_by t e.marks.made) (is_ended_by t e.marks.ended) (is_draft_of t e.marks.draft) (is_done e.marks.ended) h
  where
    go : (m x f d : Bool) → ((m || x || f) && not d) ≡ true → d ≡ false
    go m x f d k = grind arith

module _ (dead : List ℕ) (from : ℕ) (before : List Entry) (t : Table) (valid : IsValid t) (tail : IsTail dead from before (entries_of t)) where
  pub tail-rises : Rises (drop from dead)
  tail-rises = subst Rises (sym tail.tail) (rises-ascending (filter (is_new before) (dead_among (entries_of t))))

  -- the whole list has the dead of now
  pub tail-listed : DeadListed dead (entries_of t)
  tail-listed = subst (λ (ns : List ℕ). DeadListed ns (entries_of t)) (ap (λ (ns : List ℕ). take from dead ++ ns) (sym tail.tail) ∙ whole from dead) (dead_grows (take from dead) before (entries_of t) valid.distinct_entries tail.stay tail.listed)
    where
      whole : (n : ℕ) (xs : List ℕ) → take n xs ++ drop n xs ≡ xs
      whole n xs = grind (arith, take-append-drop)

  module _ (txn : ℕ) (e : Entry) (i : Among e (entries_of t)) (marked : is_marked txn e ≡ true) where
    alive-out : (ns : List ℕ) (es : List Entry) → StayDead es (entries_of t) → Among e.number (dead_among es) → ⊥
    alive-out ns es stay j =
        let d = of_dead e.number (entries_of t) (stay e.number j) in
        true≢false (sym (subst (λ (z : Entry). is_done z.marks.ended ≡ true) (one_of_number t valid d.0 e d.1 i d.2) d.3) ∙ marked-alive txn e marked)

    pub tail-room : length dead < length (entries_of t)
    tail-room = listed-room dead (entries_of t) e.number e tail-listed i refl out
      where
        out : Among e.number dead → ⊥
        out j =
            let b = tail-listed.back e.number j in
            true≢false (sym (subst (λ (z : Entry). is_done z.marks.ended ≡ true) (one_of_number t valid b.0 e b.1 i b.2) b.3) ∙ marked-alive txn e marked)

    pub tail-new : is_new before e.number ≡ true
    tail-new = go (list_any (nat_eq e.number) (dead_among before)) refl
      where
        go : (b : Bool) → list_any (nat_eq e.number) (dead_among before) ≡ b → not b ≡ true
        go true k = let a = any-among (nat_eq e.number) (dead_among before) k in absurd (alive-out [] before tail.stay (subst (λ (m : ℕ). Among m (dead_among before)) (sym (number-same e.number a.0 a.2)) a.1))
        go false k = refl

-- the end made on the next entry that bears a mark
module _ (ending : Ending) (txn from number : ℕ) (t : Table) (dead : List ℕ) (valid : IsValid t) (next : IsNextMarked t txn 0 number) (within : from ≤ length dead) (dead' : List ℕ)
    (grows : (e : Entry) → Among e (entries_of (table_with (at-one ending txn number) t)) → e.number ≡ number → dead' ≡ cond (is_done e.marks.ended) (take from dead ++ with_number number (drop from dead)) dead) where
  entries-now : entries_of (table_with (at-one ending txn number) t) ≡ map (at-one ending txn number) (entries_of t)
  entries-now = entries_of_with (at-one ending txn number) (at-keeps ending txn number) t

  at-is : at-one ending txn number next.entry ≡ ended ending txn next.entry
  at-is = ap (λ (b : Bool). cond b (ended ending txn next.entry) next.entry) (number-tell number next.entry.number (sym next.named))

  dies : Bool
  dies = is_done (ended ending txn next.entry).marks.ended

  dead-is : dead' ≡ cond dies (take from dead ++ with_number number (drop from dead)) dead
  unfolding dies
  dead-is =
      grows (ended ending txn next.entry) (subst (Among (ended ending txn next.entry)) (sym entries-now) (subst (λ (z : Entry). Among z (map (at-one ending txn number) (entries_of t))) at-is (among_map (at-one ending txn number) next.entry (entries_of t) next.among)))
      ((ended-keeps ending txn).number next.entry ∙ next.named)

  front-same : take from dead' ≡ take from dead
  front-same = ap (take from) dead-is ∙ go dies
    where
      go : (b : Bool) → take from (cond b (take from dead ++ with_number number (drop from dead)) dead) ≡ take from dead
      go true = take-front from dead (with_number number (drop from dead)) within
      go false = refl

  tail-is : drop from dead' ≡ cond dies (with_number number (drop from dead)) (drop from dead)
  tail-is = ap (drop from) dead-is ∙ go dies
    where
      go : (b : Bool) → drop from (cond b (take from dead ++ with_number number (drop from dead)) dead) ≡ cond b (with_number number (drop from dead)) (drop from dead)
      go true = drop-front from dead (with_number number (drop from dead)) within
      go false = refl

  within-now : from ≤ length dead'
  within-now = subst (λ (ns : List ℕ). from ≤ length ns) (sym dead-is) (go dies)
    where
      go : (b : Bool) → from ≤ length (cond b (take from dead ++ with_number number (drop from dead)) dead)
      go true = length-front from dead (with_number number (drop from dead)) within
      go false = within

  tail-after : (before : List Entry) → IsTail dead from before (entries_of t) → IsTail dead' from before (map (at-one ending txn number) (entries_of t))
  unfolding dies
  tail-after before tail = record {
    within = within-now;
    listed = subst (λ (ns : List ℕ). DeadListed ns before) (sym front-same) tail.listed;
    stay = λ n i. stay_dead-map (at-one ending txn number) (entries_of t) (at-keeps ending txn number).number (at-done ending txn number) n (tail.stay n i);
    tail = tail-is ∙ ap (λ (ns : List ℕ). cond dies (with_number number ns) ns) tail.tail
        ∙ sym (newly-changed number (ended ending txn) (ended-keeps ending txn) before (subst (λ (n : ℕ). is_new before n ≡ true) next.named (tail-new dead from before t valid tail txn next.entry next.among next.marked)) (entries_of t) next.entry valid.distinct_entries next.among next.named (marked-alive txn next.entry next.marked));
  }

  pub turn : EndsOne ending txn from t dead (table_with (at-one ending txn number) t) dead'
  turn = record {
    rest = rest-same ending txn number t;
    clean = λ clean. subst (AreClean ending txn) (sym entries-now) (clean-after ending txn number (entries_of t) clean);
    tail = λ before tail. subst (IsTail dead' from before) (sym entries-now) (tail-after before tail);
    front = front-same;
    fewer = subst (λ (es : List Entry). length (filter (is_marked txn) es) < length (filter (is_marked txn) (entries_of t))) (sym entries-now) (fewer ending txn number (entries_of t) next.entry next.among next.named next.marked);
  }

-- where no mark is left, nothing is left to be done
pub all_ended : (ending : Ending) (txn : ℕ) (t : Table) → IsValid t → AreClean ending txn (entries_of t) → ((e : Entry) → Among e (entries_of t) → is_marked txn e ≡ false) → t ≡ table_with (ended ending txn) t
all_ended ending txn t valid clean none = sym (same_table t) ∙ tree_alike (λ e. e) (ended ending txn) t valid (λ e i. sym (clean e i (none e i)))

-- a change of marks leaves as many entries
pub length-with : (change : Entry → Entry) → Keeps change → (t : Table) → length (entries_of (table_with change t)) ≡ length (entries_of t)
length-with change keeps t = ap length (entries_of_with change keeps t) ∙ length-map (entries_of t) change

pub length-at_one : (ending : Ending) (txn number : ℕ) (t : Table) → length (entries_of (table_with (at_number number (ended ending txn)) t)) ≡ length (entries_of t)
length-at_one ending txn number t = length-with (at-one ending txn number) (at-keeps ending txn number) t
