-- An insertion with its gifts keeps what every transaction guards and owns.
use Rattle.std.proofs.Common.{◌≡◌, ◌⊎◌, ℕ, Bool, true, false, List, ◌++◌, refl, sym, ◌∙◌, subst, inl, inr, true≢false, nat_eq, arith}
use Rattle.sp_rect.specs.Plane.{Rectangle, IsRectangle}
use Rattle.sp_locks.specs.declared.mode.Mode.{Mode}
use Rattle.sp_locks.specs.declared.mode.Mode.TheVariants.{IX, S, X}
use Rattle.sp_locks.specs.declared.row.Name.{Name}
use Rattle.sp_locks.specs.declared.row.Name.TheVariants.{Granule as OnGranule, Object}
use Rattle.sp_locks.specs.Modes.{compatible}
use Rattle.sp_node.specs.declared.node.Entry.{Entry}
use Rattle.sp_node.specs.Among.{Among}
use Rattle.sp_node.specs.Table.{Table}
use Rattle.sp_node.proofs.Among.{among_left, among_split}
use Rattle.sp_granule.specs.Granules.{Granule, Standing, granules}
use Rattle.sp_protection.specs.Holding.{Lock, GranuleNeed, HoldsMode, Unopposed, AllCompatible, AreBelow, AreGifts}
use Rattle.sp_protection.specs.Guarding.{Guarded, Owned, HoldsMeeting, AreSame}
use Rattle.sp_protection.specs.Reshape.{StillHas, Licensed}
use Rattle.sp_protection.specs.Insertion.{IsMarkedEntry, Inserts, HoldsOwn, KeepsAll}
use Rattle.sp_protection.proofs.Choice.{some_or_none, same, tells}
use Rattle.sp_protection.proofs.Reshapes.{guarded_kept, owned_kept}
use Rattle.sp_protection.proofs.Leaves.{search_guards, same_guards}

pub holds-more : (locks gifts : List Lock) (s : ℕ) (name : Name) (mode : Mode) → HoldsMode locks s name mode → HoldsMode (locks ++ gifts) s name mode
holds-more locks gifts s name mode h = record { lock = h.lock; held = among_left h.lock locks gifts h.held; by_txn = h.by_txn; on_name = h.on_name; enough = h.enough }

pub guarded-more : (gs : List Granule) (locks gifts : List Lock) (s : ℕ) (rect : Rectangle) → Guarded gs locks s rect → Guarded gs (locks ++ gifts) s rect
guarded-more gs locks gifts s rect h = record {
  leaves = λ g p i l k q. holds-more locks gifts s (OnGranule g.number) S (h.leaves g p i l k q);
  points = λ p q. let k = h.points p q in (k.0, k.1, k.2, holds-more locks gifts s (OnGranule k.0.number) S k.3);
}

pub owned-more : (gs : List Granule) (locks gifts : List Lock) (s : ℕ) (e : Standing) → Owned gs locks s e → Owned gs (locks ++ gifts) s e
owned-more gs locks gifts s e h = record {
  leaf = h.leaf;
  among = h.among;
  is_leaf = h.is_leaf;
  entry = h.entry;
  intent = holds-more locks gifts s (OnGranule h.leaf.number) IX h.intent;
  object = holds-more locks gifts s (Object e.id) X h.object;
}

-- new numbers are in nobody's way
gifts_compatible : (next t : ℕ) (locks gifts : List Lock) → AllCompatible locks → AreBelow next locks → AreGifts next t gifts → AllCompatible (locks ++ gifts)
gifts_compatible next t locks gifts all below new a b i j apart one = go (among_split a locks gifts i) (among_split b locks gifts j)
  where
    numbers : (m n : ℕ) → OnGranule m ≡ OnGranule n → m ≡ n
    numbers m n e = cc

    never : (x y : Lock) → Among x locks → Among y gifts → x.name ≡ y.name → ⊥
    never x y k l e = let g = new y l in let lt = below x g.1.0 k (e ∙ g.1.1) in let le = g.1.2 in omega arith

    go : Among a locks ⊎ Among a gifts → Among b locks ⊎ Among b gifts → compatible a.mode b.mode ≡ true
    go (inl k) (inl l) = all a b k l apart one
    go (inl k) (inr l) = absurd (never a b k l one)
    go (inr k) (inl l) = absurd (never b a l k (sym one))
    go (inr k) (inr l) = absurd (apart ((new a k).0 ∙ sym (new b l).0))

pub insertion_keeps_all : (es : List Entry) (before after : Table) (locks gifts : List Lock) (t next : ℕ) (needs : List GranuleNeed) (e : Standing)
    → Licensed (granules before) (granules after) needs → Unopposed locks t needs → AllCompatible locks → AreBelow next locks → AreGifts next t gifts
    → Inserts (granules before) (granules after) e → HoldsOwn es (granules before) (granules after) locks (locks ++ gifts) t e
    → KeepsAll es (granules before) (granules after) locks (locks ++ gifts) t e
insertion_keeps_all es before after locks gifts t next needs e licensed free all below new inserts own = record {
  compatible = gifts_compatible next t locks gifts all below new;
  guarded = λ u rect apart h. guarded-more gs' locks gifts u rect (guarded_kept gs gs' locks t u needs rect licensed free apart h);
  owned = λ u x apart h. owned-more gs' locks gifts u x (owned_kept gs gs' locks t u needs x licensed inserts.same_standings free apart h (inserts.keeps h.leaf x h.among h.entry));
  own_guarded = guards;
  own_owned = λ x m h. owns x m h (inserts.keeps h.leaf x h.among h.entry);
  own_new = record {
    leaf = inserts.enters.after;
    among = inserts.enters.among;
    is_leaf = inserts.enters.is_leaf;
    entry = entered;
    intent = own.new_entry inserts.enters.after inserts.enters.among inserts.enters.is_leaf entered;
    object = own.object;
  };
}
  where
    gs : List Granule
    gs = granules before

    gs' : List Granule
    gs' = granules after

    entered : Among e inserts.enters.after.entries
    entered =
        subst (λ x. Among x inserts.enters.after.entries) (inserts.only inserts.enters.after inserts.enters.entry inserts.enters.among inserts.enters.stands inserts.enters.same) inserts.enters.stands

    guards : (rect : Rectangle) → IsRectangle rect → AreSame gs gs' ⊎ HoldsMeeting gs' (locks ++ gifts) t rect → Guarded gs locks t rect → Guarded gs' (locks ++ gifts) t rect
    guards rect inside (inl alike) h = guarded-more gs' locks gifts t rect (same_guards gs gs' locks t rect alike.0 alike.1 h)
    guards rect inside (inr meeting) h = search_guards after (locks ++ gifts) t rect inside meeting

    owns : (x : Standing) → IsMarkedEntry es t x → Owned gs locks t x → StillHas gs' x.number → Owned gs' (locks ++ gifts) t x
    owns x m h still = record {
      leaf = still.after;
      among = still.among;
      is_leaf = still.is_leaf;
      entry = there;
      intent = intent (nat_eq still.after.number h.leaf.number) refl (some_or_none (λ (g : Granule). nat_eq g.number still.after.number) gs);
      object = holds-more locks gifts t (Object x.id) X h.object;
    }
      where
        there : Among x still.after.entries
        there = subst (λ y. Among y still.after.entries) (inserts.same_standings h.leaf still.after x still.entry h.among h.entry still.among still.stands still.same) still.stands

        intent : (b : Bool) → nat_eq still.after.number h.leaf.number ≡ b → ((g : Granule) × Among g gs × (nat_eq g.number still.after.number ≡ true)) ⊎ ((g : Granule) → Among g gs → nat_eq g.number still.after.number ≡ false) → HoldsMode (locks ++ gifts) t (OnGranule still.after.number) IX
        intent true k found = subst (λ n. HoldsMode (locks ++ gifts) t (OnGranule n) IX) (sym (same _ _ k)) (holds-more locks gifts t (OnGranule h.leaf.number) IX h.intent)
        intent false k (inl g) = absurd (inserts.moves_to_new h.leaf still.after x h.among h.entry still.among there (λ s. true≢false (sym (tells _ _ s) ∙ k)) (g.0, g.1, same _ _ g.2))
        intent false k (inr none) = own.new_leaves still.after x still.among still.is_leaf (λ g. true≢false (sym (tells _ _ g.2) ∙ none g.0 g.1)) there m h
