-- Where nothing is heard.
use Rattle.std.proofs.Common.{◌≡◌, ℕ, List, [], Option, None, IfSome, refl, sym, subst}
use Rattle.sp_text.specs.declared.types.Item.{Item}
use Rattle.sp_text.specs.declared.types.End.{End}
use Rattle.sp_text.specs.declared.types.End.TheVariants.{Memory}
use Rattle.sp_stress.specs.Stressing.{HearsScript}

pub if_none : {A : Type 0} (o : Option A) (P : A → Type 0) → o ≡ None → IfSome o P
if_none o P is = subst (λ x. IfSome x P) (sym is) tt

-- where there was no memory nothing of a script is heard
pub hears_none : (script : List ℕ) (end : End) (items : List Item) → end ≡ Memory → items ≡ [] → HearsScript end script items
hears_none script end items e none = subst (λ (x : End). HearsScript x script items) (sym e) (subst (λ (x : List Item). HearsScript Memory script x) (sym none) nothing)
  where
    nothing : HearsScript Memory script []
    nothing = (script, record { bytes = []; read = refl; unanswered = []; heard_as = refl })
