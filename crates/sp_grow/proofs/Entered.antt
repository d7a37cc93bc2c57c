-- An entry that is inserted into a tree without changes.
use Rattle.std.proofs.Common.{◌≡◌, ◌+◌, ◌^◌, ◌<◌, true, false, None, refl, sym, ◌∙◌, subst}
use Rattle.sp_rect.specs.Plane.{IsRectangle}
use Rattle.sp_node.specs.declared.node.Entry.{Entry as EntryOf}
use Rattle.sp_node.specs.declared.plan.Plan.{Plan}
use Rattle.sp_node.specs.Index.{leaf_with}
use Rattle.sp_node.specs.Look.{IsAscending}
use Rattle.sp_node.specs.Table.{Table, level_of, IsValid}
use Rattle.sp_grow.specs.Grown.{IsDone}
use Rattle.sp_grow.specs.Overlay.{Overlay, table_of, unchanged}
use Rattle.sp_grow.specs.Below.{Aims, IsInsertion}
use Rattle.sp_grow.specs.declared.member.Member.{Member as Item}
use Rattle.sp_grow.specs.declared.member.Member.TheVariants.{Entry}
use Rattle.sp_grow.proofs.Spots.{root_spot}
use Rattle.sp_grow.proofs.Root.{done}

same_entry : (e f : EntryOf) → Entry e ≡ Entry f → e ≡ f
same_entry e f s = cc

pub nothing : false ≡ true → ⊥
nothing h = cc

module _ (t : Table) (v : IsValid t) (numbers_free : t.next < 2 ^ 63 + 2 ^ 32) (e : EntryOf) where
  -- it goes to a leaf below the root
  abbrev pub entry_aims : Aims t (Entry e) 0 t.root
  entry_aims = record {
    level = level_of t;
    spot = root_spot t v numbers_free;
    k = 0;
    x = e;
    inserted = record { member = refl; free = λ j h. absurd (nothing h) };
  }

  pub aims_at : (item : Item) (o : Overlay) → item ≡ Entry e → o ≡ unchanged t → Aims (table_of o) item 0 o.plan.root
  aims_at item o is same = subst (λ (i : Item). Aims (table_of o) i 0 o.plan.root) (sym is) (subst (λ (p : Overlay). Aims (table_of p) (Entry e) 0 p.plan.root) (sym same) entry_aims)

  pub entered :
      (rising : IsAscending t.nodes) → leaf_with t.nodes e.number ≡ None → IsRectangle e.rect → (item : Item) (o : Overlay) (plan : Plan) → item ≡ Entry e → o ≡ unchanged t → ((a : Aims (table_of o) item 0 o.plan.root) → IsInsertion (table_of o) a.k a.x a.level plan) → (f : EntryOf)
      → item ≡ Entry f → IsDone t f plan
  entered rising fresh space item o plan is same h f is_f =
      let at = subst (λ (i : Item). (a : Aims (table_of o) i 0 o.plan.root) → IsInsertion (table_of o) a.k a.x a.level plan) is h in
      let here = subst (λ (p : Overlay). (a : Aims (table_of p) (Entry e) 0 p.plan.root) → IsInsertion (table_of p) a.k a.x a.level plan) same at entry_aims in
      subst (λ (g : EntryOf). IsDone t g plan) (same_entry e f (sym is ∙ is_f)) (done t v rising e fresh space numbers_free here.step.left here.step.draft plan here.grown here.raised)
