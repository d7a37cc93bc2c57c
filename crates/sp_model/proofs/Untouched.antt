-- Nothing on a dead entry is of an active transaction, and so the end of a transaction changes just the entries that it marked.
use Rattle.std.proofs.Common.{◌≡◌, ◌≢◌, ℕ, Bool, true, false, not, ◌&&◌, ◌||◌, List, map, length, refl, sym, subst, arith}
use Rattle.std.proofs.lemmas.Bool.Decides.{nat_tests}
use Rattle.sp_locks.specs.declared.mode.Mode.TheVariants.{X}
use Rattle.sp_locks.specs.declared.row.Name.TheVariants.{Object}
use Rattle.sp_node.specs.declared.marks.Made.{Made}
use Rattle.sp_node.specs.declared.marks.Ended.{Ended}
use Rattle.sp_node.specs.declared.marks.Draft.{Draft}
use Rattle.sp_node.specs.declared.node.Entry.{Entry}
use Rattle.sp_node.specs.Among.{Among}
use Rattle.sp_node.specs.Marks.{is_made_by, is_done, is_ended_by, is_draft_of, is_marked, drafted, made_settled, ended_settled, ended_undone, draft_left, settled, undone}
use Rattle.sp_protection.proofs.Clashes.{clash, exclusive-against_exclusive}
use Rattle.sp_protection.proofs.Leaves.{from_map}
use Rattle.sp_model.specs.declared.session.Session.{Session}
use Rattle.sp_model.specs.State.{Kernel, entries_in, is_active, locks_of}
use Rattle.sp_model.specs.Unmarked.{IsUntouched, DeadUntouched}
use Rattle.sp_model.proofs.Bare.{Bare}
use Rattle.sp_model.proofs.Holding.{locks-compatible}
use Rattle.sp_model.proofs.Endings.{numbers-other}

no_made : (t : ℕ) (m : Made) → is_made_by t m ≡ false → made_settled t m ≡ m
no_made t m h = grind (arith, nat_tests)

no_end : (t : ℕ) (d : Ended) → is_ended_by t d ≡ false → ended_settled t d ≡ d
no_end t d h = grind (arith, nat_tests)

none_undone : (t : ℕ) (m : Made) (d : Ended) → is_made_by t m ≡ false → is_ended_by t d ≡ false → ended_undone t m d ≡ d
none_undone t m d h k = grind (arith, nat_tests)

no_draft : (t : ℕ) (d : Draft) → is_draft_of t d ≡ false → draft_left t d ≡ d
no_draft t d h = grind (arith, nat_tests)

no_value : (t : ℕ) (d : Draft) (value : List ℕ) → is_draft_of t d ≡ false → drafted t d value ≡ value
no_value t d value h = grind (arith, nat_tests)

-- an end changes nothing on what is not the transaction's
pub settled-same : (t : ℕ) (e : Entry) → IsUntouched t e → settled t e ≡ e
settled-same t e h = λ i. record {
  number = e.number;
  id = e.id;
  rect = e.rect;
  value = no_value t e.marks.draft e.value h.2 i;
  marks = record { made = no_made t e.marks.made h.0 i; ended = no_end t e.marks.ended h.1 i; draft = no_draft t e.marks.draft h.2 i };
}

pub undone-same : (t : ℕ) (e : Entry) → IsUntouched t e → undone t e ≡ e
undone-same t e h = λ i. record {
  number = e.number;
  id = e.id;
  rect = e.rect;
  value = e.value;
  marks = record { made = e.marks.made; ended = none_undone t e.marks.made e.marks.ended h.0 h.1 i; draft = no_draft t e.marks.draft h.2 i };
}

-- what is not dead and bears no mark is untouched
pub unmarked-untouched : (t : ℕ) (e : Entry) → is_done e.marks.ended ≡ false → is_marked t e ≡ false → IsUntouched t e
unmarked-untouched t e alive none = go (is_made_by t e.marks.made) (is_ended_by t e.marks.ended) (is_draft_of t e.marks.draft) (is_done e.marks.ended) alive none
  where
    go : (m x f d : Bool) → d ≡ false → ((m || x || f) && not d) ≡ false → (m ≡ false) × (x ≡ false) × (f ≡ false)
    go m x f d h k = (grind arith, grind arith, grind arith)

-- of an active transaction what bears no mark is untouched, dead or not
pub untouched : (xs : List Session) (es : List Entry) (x : Session) (e : Entry) → DeadUntouched xs es → Among x xs → is_active x ≡ true → Among e es → is_marked x.txn.number e ≡ false → IsUntouched x.txn.number e
untouched xs es x e dead here active i none = go (is_done e.marks.ended) refl
  where
    go : (b : Bool) → is_done e.marks.ended ≡ b → IsUntouched x.txn.number e
    go true d = dead x e here active i d
    go false d = unmarked-untouched x.txn.number e d none

-- the fact stays where each active transaction was one, and each dead entry was dead and got nothing of a transaction
pub untouched-from : (xs xs' : List Session) (es es' : List Entry) → ((y : Session) → Among y xs' → is_active y ≡ true → (z : Session) × Among z xs × (is_active z ≡ true) × (z.txn.number ≡ y.txn.number))
    → ((e : Entry) → Among e es' → is_done e.marks.ended ≡ true → (o : Entry) × Among o es × (is_done o.marks.ended ≡ true) × ((t : ℕ) → IsUntouched t o → IsUntouched t e))
    → DeadUntouched xs es → DeadUntouched xs' es'
untouched-from xs xs' es es' was stood dead y e i active j d =
    let z = was y i active in
    let o = stood e j d in
    subst (λ (t : ℕ). IsUntouched t e) z.3 (o.3 z.0.txn.number (dead z.0 o.0 z.1 z.2 o.1 o.2))

-- what dies by the end of a transaction, that transaction had marked, and nobody else
module _ (k : Kernel) (x : Session) (change : Entry → Entry) (sound : Bare k) (here : Among x k.sessions) (dead : DeadUntouched k.sessions (entries_in k))
    (free : (t : ℕ) (e : Entry) → IsUntouched t e → IsUntouched t (change e)) (newly : (e : Entry) → is_done (change e).marks.ended ≡ true → is_done e.marks.ended ≡ false → is_marked x.txn.number e ≡ true) where
  pub untouched-ended : (xs' : List Session) → ((y : Session) → Among y xs' → is_active y ≡ true → Among y k.sessions × (y.txn.session ≢ x.txn.session)) → DeadUntouched xs' (map change (entries_in k))
  untouched-ended xs' was y e i active j d =
      let o = was y i active in
      let r = from_map change e (entries_in k) j in
      subst (IsUntouched y.txn.number) r.2 (free y.txn.number r.0 (go o.0 o.1 r.0 r.1 (subst (λ (z : Entry). is_done z.marks.ended ≡ true) (sym r.2) d) (is_done r.0.marks.ended) refl))
    where
      go : Among y k.sessions → y.txn.session ≢ x.txn.session → (o : Entry) → Among o (entries_in k) → is_done (change o).marks.ended ≡ true → (b : Bool) → is_done o.marks.ended ≡ b → IsUntouched y.txn.number o
      go at other o l dies true was = dead y o at active l was
      go at other o l dies false was = unmarked-untouched y.txn.number o was (none (is_marked y.txn.number o) refl)
        where
          none : (b : Bool) → is_marked y.txn.number o ≡ b → b ≡ false
          none false m = refl
          none true m = absurd
              (clash (locks_of k.sessions k.locks) y.txn.number x.txn.number (Object o.id) X X (locks-compatible k.next_txn (length k.commits) k.sessions k.locks sound.sessions sound.locks) (λ s. numbers-other k x y sound here at other (sym s)) exclusive-against_exclusive
              (sound.owned y.txn.number o l m).object (sound.owned x.txn.number o l (newly o dies was)).object)

pub undone-newly : (t : ℕ) (e : Entry) → is_done (undone t e).marks.ended ≡ true → is_done e.marks.ended ≡ false → is_marked t e ≡ true
undone-newly t e h k = go e.marks.made e.marks.ended (is_draft_of t e.marks.draft) h k
  where
    go : (m : Made) (d : Ended) (f : Bool) → is_done (ended_undone t m d) ≡ true → is_done d ≡ false → ((is_made_by t m || is_ended_by t d || f) && not (is_done d)) ≡ true
    go m d f h k = grind (arith, nat_tests)

pub settled-newly : (t : ℕ) (e : Entry) → is_done (settled t e).marks.ended ≡ true → is_done e.marks.ended ≡ false → is_marked t e ≡ true
settled-newly t e h k = go (is_made_by t e.marks.made) e.marks.ended (is_draft_of t e.marks.draft) h k
  where
    go : (m : Bool) (d : Ended) (f : Bool) → is_done (ended_settled t d) ≡ true → is_done d ≡ false → ((m || is_ended_by t d || f) && not (is_done d)) ≡ true
    go m d f h k = grind (arith, nat_tests)
