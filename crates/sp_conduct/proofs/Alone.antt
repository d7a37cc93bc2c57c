-- Where nobody else has a transaction, a session waits for nobody and is answered as by a plain store.
use Rattle.std.proofs.Common.{◌≡◌, ◌≢◌, ℕ, Bool, true, false, cond, nat_eq, List, [], ◌∷◌, ◌++◌, fold, refl, sym, ap, ◌∙◌, subst, inl, inr, append_assoc, append-nil}
use Rattle.sp_rect.specs.declared.record.Record.{Record}
use Rattle.sp_rect.specs.declared.operation.Op.{Op}
use Rattle.sp_locks.specs.declared.mode.Mode.{Mode}
use Rattle.sp_locks.specs.declared.row.Name.{Name}
use Rattle.sp_waits.specs.declared.edge.Edge.{Edge}
use Rattle.sp_node.specs.Among.{Among}
use Rattle.sp_node.proofs.Among.{among_left, among_right}
use Rattle.sp_event.specs.declared.answer.Answer.{Answer}
use Rattle.sp_event.specs.declared.answer.Answer.TheVariants.{Began, Reply, Committed, RolledBack, Waits, Deadlock, Refused, Full}
use Rattle.sp_event.specs.declared.answer.Why.TheVariants.{NoTxn}
use Rattle.sp_text.specs.declared.types.Command.{Command}
use Rattle.sp_text.specs.declared.types.Command.TheVariants.{Begin, Do, Commit, Rollback}
use Rattle.sp_text.specs.declared.types.Item.{Item}
use Rattle.sp_text.specs.declared.types.Item.TheVariants.{Bad, Told, Stepped}
use Rattle.sp_model.proofs.Sessions.{number-apart}
use Rattle.sp_conduct.specs.Standing.{Standing, stands_after, stands_noted, standing}
use Rattle.sp_conduct.specs.Fitting.{Scene, AreInTheWay, IsCircle, OperationFits, IsAnsweredAtOnce, FitsAt, CommandFits, LateFits}
use Rattle.sp_conduct.specs.Transcript.{scene, Fits, IsConducted, IsOf, AreOf, plain_answer, PlainOrFull, AsPlain, IsAsPlain}
use Rattle.sp_conduct.proofs.Items.{standing_more}

-- no operation of the session waits
abbrev pub IsAwake : Standing → Type 0
IsAwake (Standing.Stalled op name mode) = ⊥
IsAwake was = Unit {0}

-- nobody but the session has a transaction
abbrev pub IsAlone : (ℕ → Standing) → ℕ → Type 0
IsAlone at s = (v : ℕ) → v ≢ s → at v ≡ Standing.Out

out_awake : (op : Op) (name : Name) (mode : Mode) → Standing.Out ≡ Standing.Stalled op name mode → ⊥
out_awake op name mode h = cc

module _ (at : ℕ → Standing) (s : ℕ) (alone : IsAlone at s) where
  nobody : (others : List ℕ) → AreInTheWay at s others → ⊥
  nobody [] h = h.0 refl
  nobody (v ∷ others) h = let p = h.1 v (inl refl) in p.1 (alone v p.0)

  no_circle : (circle : List Edge) → IsCircle at s circle → ⊥
  no_circle [] h = h
  no_circle (first ∷ []) h = h.1 refl
  no_circle (first ∷ e ∷ others) h =
      let p = h.2 e (inl refl) in
      out_awake p.1.0 e.name e.wanted (sym (alone e.from p.0) ∙ p.1.1)

-- one who waits is told of others, and a circle goes over others
pub at_once : (sc : Scene) (s : ℕ) (op : Op) (answer : Answer) → IsAlone sc.at s → OperationFits sc s op answer → IsAnsweredAtOnce sc s op answer
at_once sc s op (Reply reply) alone fits = fits
at_once sc s op (Waits name mode others) alone fits = absurd (nobody sc.at s alone others fits)
at_once sc s op (Deadlock circle) alone fits = absurd (no_circle sc.at s alone circle fits)
at_once sc s op (Full kind) alone fits = tt
at_once sc s op answer alone fits = absurd fits

module _ (sc : Scene) (s : ℕ) (alone : IsAlone sc.at s) where
  no_wait : (was : Standing) (op : Op) (name : Name) (mode : Mode) (others : List ℕ) → IsAwake was → FitsAt was sc s (Do op) (Waits name mode others) → ⊥
  no_wait Standing.Out op name mode others awake fits = differ fits
    where
      differ : Waits name mode others ≡ Refused NoTxn → ⊥
      differ h = cc
  no_wait Standing.Open op name mode others awake fits = nobody sc.at s alone others fits
  no_wait (Standing.Stalled other on wanted) op name mode others awake fits = awake

  -- an answer that fits leaves the session awake
  awake_after : (was : Standing) (command : Command) (answer : Answer) → IsAwake was → FitsAt was sc s command answer → IsAwake (stands_after command answer was)
  awake_after was command (Began txn seen) awake fits = tt
  awake_after was command (Committed place) awake fits = tt
  awake_after was command RolledBack awake fits = tt
  awake_after was command (Deadlock cycle) awake fits = tt
  awake_after was (Do op) (Waits name mode others) awake fits = absurd (no_wait was op name mode others awake fits)
  awake_after was (Do op) (Reply reply) awake fits = tt
  awake_after was (Do op) (Full kind) awake fits = tt
  awake_after was command answer awake fits = awake

  late_awake : (command : Command) (answer : Answer) → IsAwake (sc.at s) → LateFits sc s command answer → IsAwake (stands_after command answer (sc.at s))
  late_awake Begin answer awake fits = absurd fits
  late_awake (Do op) answer awake fits = absurd (subst IsAwake fits.stalled awake)
  late_awake Commit answer awake fits = absurd fits
  late_awake Rollback answer awake fits = subst (λ (a : Answer). IsAwake (stands_after Rollback a (sc.at s))) (sym fits.1) tt

  -- a session that is awake is answered as by a plain store
  module _ (was : Standing) (is : sc.at s ≡ was) where
    answered : (command : Command) → plain_answer was (sc.seen s) sc.next sc.committed command ≡ plain_answer (sc.at s) (sc.seen s) sc.next sc.committed command
    answered command = ap (λ (w : Standing). plain_answer w (sc.seen s) sc.next sc.committed command) (sym is)

  at_once_plain : (op : Op) (answer : Answer) → sc.at s ≡ Standing.Open → IsAnsweredAtOnce sc s op answer → PlainOrFull sc s (Do op) answer
  at_once_plain op (Reply reply) is fits = ap Reply fits ∙ answered Standing.Open is (Do op)
  at_once_plain op (Full kind) is fits = tt
  at_once_plain op answer is fits = absurd fits

  plain_at : (was : Standing) → sc.at s ≡ was → IsAwake was → (command : Command) (answer : Answer) → FitsAt was sc s command answer → PlainOrFull sc s command answer
  plain_at Standing.Out is awake Begin answer (inl e) = subst (λ (a : Answer). PlainOrFull sc s Begin a) (sym e) (answered Standing.Out is Begin)
  plain_at Standing.Out is awake Begin answer (inr full) = subst (λ (a : Answer). PlainOrFull sc s Begin a) (sym full.1) tt
  plain_at Standing.Out is awake (Do op) answer e = subst (λ (a : Answer). PlainOrFull sc s (Do op) a) (sym e) (answered Standing.Out is (Do op))
  plain_at Standing.Out is awake Commit answer e = subst (λ (a : Answer). PlainOrFull sc s Commit a) (sym e) (answered Standing.Out is Commit)
  plain_at Standing.Out is awake Rollback answer e = subst (λ (a : Answer). PlainOrFull sc s Rollback a) (sym e) (answered Standing.Out is Rollback)
  plain_at Standing.Open is awake Begin answer e = subst (λ (a : Answer). PlainOrFull sc s Begin a) (sym e) (answered Standing.Open is Begin)
  plain_at Standing.Open is awake (Do op) answer fits = at_once_plain op answer is (at_once sc s op answer alone fits)
  plain_at Standing.Open is awake Commit answer e = subst (λ (a : Answer). PlainOrFull sc s Commit a) (sym e) (answered Standing.Open is Commit)
  plain_at Standing.Open is awake Rollback answer e = subst (λ (a : Answer). PlainOrFull sc s Rollback a) (sym e) (answered Standing.Open is Rollback)
  plain_at (Standing.Stalled other on wanted) is awake command answer fits = absurd awake

either_awake : (b : Bool) (x y : Standing) → IsAwake x → IsAwake y → IsAwake (cond b x y)
either_awake true x y h k = h
either_awake false x y h k = k

-- all answers are told to one session
module _ (base : List Record) (s : ℕ) where
  item_stays : (v : ℕ) → v ≢ s → (item : Item) → IsOf s item → (at : ℕ → Standing) → stands_noted at item v ≡ at v
  item_stays v other (Bad session bad) mine at = refl
  item_stays v other (Told t command answer late) mine at = ap (λ (b : Bool). cond b (stands_after command answer (at t)) (at v)) (number-apart t v (λ e. other (sym e ∙ mine)))
  item_stays v other (Stepped event answer late) mine at = refl

  others_stay : (v : ℕ) → v ≢ s → (items : List Item) → AreOf s items → (at : ℕ → Standing) → fold stands_noted at items v ≡ at v
  others_stay v other [] mine at = refl
  others_stay v other (item ∷ items) mine at = others_stay v other items (λ i a. mine i (inr a)) (stands_noted at item) ∙ item_stays v other item (mine item (inl refl)) at

  others_out : (items : List Item) → AreOf s items → IsAlone (standing items) s
  others_out items mine v other = others_stay v other items mine (λ t. Standing.Out)

  told_awake : (items : List Item) → AreOf s items → (t : ℕ) (command : Command) (answer : Answer) (late : Bool) → t ≡ s → IsAwake (standing items s) → Fits base items (Told t command answer late) → IsAwake (stands_after command answer (standing items t))
  told_awake items mine t command answer late is awake fits =
      subst (λ (v : ℕ). IsAwake (stands_after command answer (standing items v))) (sym is)
      (go late (subst (λ (v : ℕ). Fits base items (Told v command answer late)) is fits))
    where
      go : (late : Bool) → Fits base items (Told s command answer late) → IsAwake (stands_after command answer (standing items s))
      go true h = late_awake (scene base items) s (others_out items mine) command answer awake h
      go false h = awake_after (scene base items) s (others_out items mine) (standing items s) command answer awake h

  item_awake : (items : List Item) → AreOf s items → (item : Item) → IsOf s item → IsAwake (standing items s) → Fits base items item → IsAwake (stands_noted (standing items) item s)
  item_awake items mine (Bad session bad) is awake fits = awake
  item_awake items mine (Told t command answer late) is awake fits =
      either_awake (nat_eq t s) (stands_after command answer (standing items t)) (standing items s) (told_awake items mine t command answer late is awake fits) awake
  item_awake items mine (Stepped event answer late) is awake fits = absurd fits

  -- front by front
  front_awake : (done rest : List Item) → AreOf s (done ++ rest) → IsConducted base (done ++ rest) → IsAwake (standing done s) → IsAwake (standing (done ++ rest) s)
  front_awake done [] mine all awake = subst (λ (xs : List Item). IsAwake (standing xs s)) (sym (append-nil done)) awake
  front_awake done (item ∷ rest) mine all awake =
      let same = append_assoc done (item ∷ []) rest in
      let now = item_awake done (λ i a. mine i (among_left i done (item ∷ rest) a)) item (mine item (among_right item done (item ∷ rest) (inl refl))) awake (all done item rest refl) in
      subst (λ (xs : List Item). IsAwake (standing xs s)) same
      (front_awake (done ++ item ∷ []) rest (subst (AreOf s) (sym same) mine) (subst (IsConducted base) (sym same) all)
      (subst (λ (at : ℕ → Standing). IsAwake (at s)) (sym (standing_more done item)) now))

  pub stays_awake : (items : List Item) → AreOf s items → IsConducted base items → IsAwake (standing items s)
  stays_awake items mine all = front_awake [] items mine all tt

  late_plain : (items : List Item) (t : ℕ) (command : Command) (answer : Answer) → IsAwake (standing items t) → LateFits (scene base items) t command answer → AsPlain base items (Told t command answer true)
  late_plain items t Begin answer awake fits = absurd fits
  late_plain items t (Do op) answer awake fits = absurd (subst IsAwake fits.stalled awake)
  late_plain items t Commit answer awake fits = absurd fits
  late_plain items t Rollback answer awake fits = fits.1

  item_plain : (items : List Item) → AreOf s items → IsAwake (standing items s) → (item : Item) → IsOf s item → Fits base items item → AsPlain base items item
  item_plain items mine awake (Bad session bad) is fits = tt
  item_plain items mine awake (Told t command answer true) is fits = late_plain items t command answer (subst (λ (v : ℕ). IsAwake (standing items v)) (sym is) awake) fits
  item_plain items mine awake (Told t command answer false) is fits =
      subst (λ (v : ℕ). PlainOrFull (scene base items) v command answer) (sym is)
      (plain_at (scene base items) s (others_out items mine) (standing items s) refl awake command answer (subst (λ (v : ℕ). CommandFits (scene base items) v command answer) is fits))
  item_plain items mine awake (Stepped event answer late) is fits = absurd fits

  conducted_front : (items before : List Item) (item : Item) (behind : List Item) → items ≡ before ++ item ∷ behind → IsConducted base items → IsConducted base before
  conducted_front items before item behind e all first other rest h =
      all first other (rest ++ item ∷ behind) (e ∙ ap (λ (xs : List Item). xs ++ item ∷ behind) h ∙ append_assoc first (other ∷ rest) (item ∷ behind))

  pub as_plain : (items : List Item) → IsConducted base items → AreOf s items → IsAsPlain base items
  as_plain items all mine before item behind e =
      let of_all = λ (i : Item) (a : Among i (before ++ item ∷ behind)). mine i (subst (Among i) (sym e) a) in
      let of_front = λ (i : Item) (a : Among i before). of_all i (among_left i before (item ∷ behind) a) in
      item_plain before of_front (stays_awake before of_front (conducted_front items before item behind e all)) item (of_all item (among_right item before (item ∷ behind) (inl refl))) (all before item behind e)
