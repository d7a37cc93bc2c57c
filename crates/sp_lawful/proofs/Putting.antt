-- A put under its own needs keeps all.
use Rattle.std.proofs.Common.{ℕ, List, ◌++◌, inr}
use Rattle.sp_rect.specs.Plane.{Rectangle, IsRectangle}
use Rattle.sp_locks.specs.declared.needs.Need.{Need}
use Rattle.sp_node.specs.declared.node.Entry.{Entry}
use Rattle.sp_node.specs.Among.{Among}
use Rattle.sp_node.specs.Table.{Table}
use Rattle.sp_granule.specs.Granules.{standing, granules}
use Rattle.sp_protection.specs.Holding.{Lock}
use Rattle.sp_protection.specs.Guarding.{Guarded}
use Rattle.sp_protection.specs.Reshape.{Licensed}
use Rattle.sp_protection.specs.Insertion.{KeepsAll}
use Rattle.sp_protection.specs.Asking.{granule_needs, held_needs}
use Rattle.sp_protection.proofs.Insertions.{insertion_keeps_all}
use Rattle.sp_protection.proofs.Rules.{put_licensed, put_keeps_searched, put_holds_own}
use Rattle.sp_protection.proofs.Wanted.{unopposed_among}
use Rattle.sp_lawful.specs.Put.{IsPutInto, HoldsPutNeeds, AreGiven}
use Rattle.sp_lawful.proofs.Inserting.{is_new, inserts, enters_or_gives}

pub put_keeps_all : (t t' : Table) (e : Entry) (leaf txn : ℕ) (searches : List Rectangle) (es : List Entry) (locks all gifts : List Lock) (commit short asked : List Need)
    → IsPutInto t t' e leaf → HoldsPutNeeds t t' leaf searches locks all txn commit short asked → AreGiven t t' e searches es locks gifts txn → KeepsAll es (granules t) (granules t') locks (locks ++ gifts) txn (standing e)
put_keeps_all t t' e leaf txn searches es locks all gifts commit short asked put needs given =
    insertion_keeps_all es t t' locks gifts txn t.next (granule_needs asked ++ held_needs locks txn) (standing e) licensed
    (unopposed_among locks all txn asked needs.compatible needs.among_all needs.holds_asked)
    (λ a b i j apart on. needs.compatible a b (needs.among_all a i) (needs.among_all b j) apart on)
    given.below given.on_new (inserts t t' e put.valid put.valid_after put.same_entries put.grown put.new)
    (put_holds_own t t' searches locks gifts txn commit es (standing e) needs.are_commit needs.holds_commit given.given (is_new t e put.valid put.new) given.object)
  where
    licensed : Licensed (granules t) (granules t') (granule_needs asked ++ held_needs locks txn)
    licensed =
        put_licensed (granules t) (granules t') searches leaf (standing e) locks txn commit short asked needs.are_commit needs.are_short
        (λ need i. inr (needs.holds_commit need i)) needs.asked_short (is_new t e put.valid put.new) (enters_or_gives t t' e leaf put.valid put.grown put.reaches)

pub put_still_guards : (t t' : Table) (e : Entry) (leaf txn : ℕ) (searches : List Rectangle) (es : List Entry) (locks all gifts : List Lock) (commit short asked : List Need) (rect : Rectangle)
    → HoldsPutNeeds t t' leaf searches locks all txn commit short asked → AreGiven t t' e searches es locks gifts txn → Among rect searches → IsRectangle rect → Guarded (granules t) locks txn rect → Guarded (granules t') (locks ++ gifts) txn rect
put_still_guards t t' e leaf txn searches es locks all gifts commit short asked rect needs given = put_keeps_searched t t' searches locks gifts txn commit es (standing e) rect needs.are_commit needs.holds_commit given.given
