-- A put that adds its entry.
use Rattle.std.proofs.Common.{◌≡◌, ◌≢◌, ℕ, ◌+◌, ◌<◌, true, List, [], ◌∷◌, ◌++◌, length, Option, Some, None, refl, sym, ap, ◌∙◌, subst, true≢false, arith}
use Rattle.std.specs.Option.{MatchOption}
use Rattle.sp_list.specs.Emptiness.{is_empty}
use Rattle.sp_rect.specs.declared.operation.Op.TheVariants.{Put}
use Rattle.sp_rect.specs.declared.operation.Reply.{Reply as Told}
use Rattle.sp_rect.specs.declared.operation.Reply.TheVariants.{Done}
use Rattle.sp_rect.specs.declared.record.Record.{Record}
use Rattle.sp_rect.specs.Store.{Id, within, reply_to}
use Rattle.sp_locks.specs.declared.needs.Need.{Need}
use Rattle.sp_locks.specs.declared.row.Row.{Row}
use Rattle.sp_locks.specs.declared.row.Duration.TheVariants.{Commit}
use Rattle.sp_locks.specs.declared.row.Scope.TheVariants.{ShortLocks}
use Rattle.sp_locks.specs.Table.{released, given, AreFree}
use Rattle.sp_node.specs.declared.node.Entry.{Entry}
use Rattle.sp_node.specs.declared.node.Shape.{Shape}
use Rattle.sp_node.specs.declared.plan.Plan.{Plan}
use Rattle.sp_node.specs.Among.{Among}
use Rattle.sp_node.specs.Index.{leaf_with}
use Rattle.sp_node.specs.Look.{look}
use Rattle.sp_node.specs.Nested.{Body}
use Rattle.sp_node.specs.Plan.{planned}
use Rattle.sp_node.specs.Standing.{HasNoEntry, IsLeafOf}
use Rattle.sp_node.specs.Table.{Table, IsValid, places_of, entries_of, level_of, body_at}
use Rattle.sp_node.proofs.Among.{among_flat_map}
use Rattle.sp_node.proofs.Single.{own}
use Rattle.sp_node.proofs.Standing.{own_all, leaf_stands}
use Rattle.sp_grow.specs.Chosen.{Reaches, ReachesOf}
use Rattle.sp_grow.specs.Grown.{IsGrown}
use Rattle.sp_grow.specs.Insertion.{Outcome, Grows}
use Rattle.sp_granule.specs.Granules.{granules}
use Rattle.sp_txn.specs.Visible.{view}
use Rattle.sp_protection.specs.Effects.{fresh}
use Rattle.sp_protection.specs.Needs.{AreNeedsOf}
use Rattle.sp_event.specs.declared.answer.Answer.TheVariants.{Reply, Full}
use Rattle.sp_event.specs.declared.answer.Kind.TheVariants.{Numbers}
use Rattle.sp_event.specs.declared.event.Event.TheVariants.{Apply}
use Rattle.sp_model.specs.declared.session.Session.{Session}
use Rattle.sp_model.specs.declared.session.Stage.TheVariants.{Idle}
use Rattle.sp_model.specs.State.{Kernel, entries_in, staged, with_change}
use Rattle.sp_model.specs.Moves.{finished, lengthened, inserted}
use Rattle.sp_model.specs.Plans.{is_adding, IsInserted, Inserts, GiftWant}
use Rattle.sp_model.specs.Removal.{IsTakenOut}
use Rattle.sp_model.specs.Stepped.{reply_of, PassesEntries, PassesNumbers, Does}
use Rattle.sp_model.specs.Soundness.{Sound}
use Rattle.sp_model.proofs.Giving.{gifts_free}
use Rattle.sp_model.proofs.Growing.{grown_numbers, entered_length}
use Rattle.sp_model.proofs.Sessions.{found-among}
use Rattle.sp_apply.specs.Acting.{IsReady, IsGoing}

-- an insertion reaches a leaf
reaches : (shape : Shape) (e : Entry) (level number next : ℕ) (body : Body level) (outcome : Outcome (Body level)) (next' : ℕ) → Grows shape 0 e level number next body outcome next' → (leaf : ℕ) × Reaches level number body e.rect leaf
reaches shape e _ number next _ _ _ (Grows.here settles) = (number, refl)
reaches shape e _ _ next _ _ _ (Grows.below {level = level} front b back under mid is chosen grows settles) =
    let more = reaches shape e level b.number next b.body under mid grows in
    (more.0, (front, b, back, is, chosen, more.1))

pub chosen_leaf : (t : Table) (e : Entry) (t' : Table) → IsGrown t e t' → (leaf : ℕ) × ReachesOf t e.rect leaf
chosen_leaf t e t' grown = reaches t.shape e (level_of t) t.root t.next (body_at (look t.nodes) (level_of t) t.root) grown.outcome grown.next grown.grows

-- a number that no entry has is in no leaf
unheld : (t : Table) (q : ℕ) → IsValid t → ((e : Entry) → Among e (entries_of t) → e.number ≢ q) → leaf_with t.nodes q ≡ None
unheld t q valid none = go (leaf_with t.nodes q) (leaf_stands t valid q)
  where
    go : (o : Option ℕ) → MatchOption o (HasNoEntry t q) (IsLeafOf t q) → o ≡ None
    go None h = refl
    go (Some leaf) h = absurd (none h.entry (subst (Among h.entry) (own_all t valid) (among_flat_map own h.entry h.place (places_of t) h.among h.has)) h.is)

apart : (m n : ℕ) → m < n → m ≡ n → ⊥
apart m n l e = omega arith

pub next_free : (k : Kernel) → Sound k → leaf_with k.tree.nodes k.next_entry ≡ None
next_free k sound = unheld k.tree k.next_entry sound.valid (λ f i. apart f.number k.next_entry (sound.entry_numbers f i))

pub longer : (k : Kernel) (x : Session) (r : Record) (after : Table) → Sound k → IsInserted k.tree (fresh x.txn.number k.next_entry r) after → length (entries_of after) ≡ length (entries_in k) + 1
longer k x r after sound inserts = entered_length k.tree (fresh x.txn.number k.next_entry r) after sound.valid inserts (λ f i. apart f.number k.next_entry (sound.entry_numbers f i))

inserts_chosen : (k : Kernel) (x : Session) (r : Record) (after : Table) → IsInserted k.tree (fresh x.txn.number k.next_entry r) after → (chosen : ℕ) × Inserts k x r after chosen
inserts_chosen k x r after inserts = let leaf = chosen_leaf k.tree (fresh x.txn.number k.next_entry r) after inserts.grown in (leaf.0, record { inserted = inserts; reaches = leaf.1 })

pub full_of_numbers : (k : Kernel) (n at : ℕ) (x : Session) (r : Record) (after : Table) (k' : Kernel) → IsReady k n at x (Put r) → is_adding k x (Put r) ≡ true → (PassesEntries k → ⊥)
    → IsInserted k.tree (fresh x.txn.number k.next_entry r) after → PassesNumbers k after → k' ≡ finished x k → Does IsTakenOut k (Apply n) (Full Numbers) k'
full_of_numbers k n at x r after k' ready adding few inserts passes over =
    let chosen = inserts_chosen k x r after inserts in
    subst (λ (z : Kernel). Does IsTakenOut k (Apply n) (Full Numbers) z) (sym over) (Does.FullOfNumbers n x r after chosen.0 ready.found ready.planned adding few chosen.1 passes)

-- the gifts are free
pub free_gifts : (k : Kernel) (x y : Session) (r : Record) (after : Table) (gifts : List Need) → Sound k → IsInserted k.tree (fresh x.txn.number k.next_entry r) after
    → AreNeedsOf (GiftWant (granules k.tree) (granules after) (entries_of after) y.txn.number y.txn.searches) Commit gifts → AreFree k.locks gifts
free_gifts k x y r after gifts sound inserts are =
    gifts_free (granules k.tree) (granules after) (entries_of after) y.txn.number k.tree.next y.txn.searches gifts are
    (grown_numbers k.tree (fresh x.txn.number k.next_entry r) after sound.valid.shape inserts.grown) k.locks sound.names

-- a put that adds an entry is done
done_is : (k : Kernel) (x : Session) (r : Record) → is_adding k x (Put r) ≡ true → Done ≡ reply_of k x (Put r)
done_is k x r adding = go (within (Id r.id) (view (entries_in k) x.txn.number)) adding
  where
    go : (found : List Record) → is_empty found ≡ true → Done ≡ reply_to (Put r) found
    go [] e = refl
    go (y ∷ ys) e = absurd (true≢false (sym e))

pub inserted_entry : (k : Kernel) (n at : ℕ) (x y : Session) (r : Record) (plan : Plan) (gifts : List Need) (tree : Table) (next : ℕ) (xs : List Session) (dead : List ℕ) (rows rows' : List Row) → IsReady k n at x (Put r) → IsGoing k x r plan → y ≡ x
    → AreNeedsOf (GiftWant (granules k.tree) (granules (planned k.tree plan)) (entries_of (planned k.tree plan)) y.txn.number y.txn.searches) Commit gifts
    → tree ≡ planned k.tree plan → next ≡ k.next_entry + 1 → xs ≡ staged x.txn.session Idle (with_change x.txn.session (lengthened (Put r) Done) k.sessions)
    → dead ≡ k.dead → rows ≡ k.locks ++ given n gifts → rows' ≡ released ShortLocks n rows
    → Does IsTakenOut k (Apply n) (Reply Done) (record k { tree = tree; next_entry = next; sessions = xs; dead = dead; locks = rows' })
inserted_entry k n at x y r plan gifts tree next xs dead rows rows' ready going same are trees nexts sessions buried handed gone =
    subst (λ (told : Told). Does IsTakenOut k (Apply n) (Reply told) (record k { tree = tree; next_entry = next; sessions = xs; dead = dead; locks = rows' })) (sym done)
    (subst (λ (z : Kernel). Does IsTakenOut k (Apply n) (Reply (reply_of k x (Put r))) z) (sym whole)
    (Does.Inserts_entry n x r after chosen.0 gifts ready.found ready.planned going.adding going.entries chosen.1 going.numbers
    (subst (λ (z : Session). AreNeedsOf (GiftWant (granules k.tree) (granules after) (entries_of after) z.txn.number z.txn.searches) Commit gifts) same are)))
  where
    after : Table
    after = planned k.tree plan

    chosen : (leaf : ℕ) × Inserts k x r after leaf
    chosen = inserts_chosen k x r after going.inserted

    done : Done ≡ reply_of k x (Put r)
    done = done_is k x r going.adding

    kept : xs ≡ staged x.txn.session Idle (with_change x.txn.session (lengthened (Put r) (reply_of k x (Put r))) k.sessions)
    kept = sessions ∙ ap (λ (told : Told). staged x.txn.session Idle (with_change x.txn.session (lengthened (Put r) told) k.sessions)) done

    let_go : rows' ≡ released ShortLocks x.txn.session (k.locks ++ given x.txn.session gifts)
    let_go = gone ∙ ap (released ShortLocks n) handed ∙ ap (λ (m : ℕ). released ShortLocks m (k.locks ++ given m gifts)) (sym (found-among n k.sessions x ready.found).1)

    whole : record k { tree = tree; next_entry = next; sessions = xs; dead = dead; locks = rows' } ≡ inserted x (Put r) after gifts k
    whole = λ i. record k { tree = trees i; next_entry = nexts i; sessions = kept i; dead = buried i; locks = let_go i }
