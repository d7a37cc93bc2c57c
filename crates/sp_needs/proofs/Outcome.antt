-- What follows from what holds of a value, where there is one.
use Rattle.std.proofs.Common.{◌≡◌, List, [], ◌∷◌, ◌++◌}
use Rattle.std.specs.Prelude.{IfOk, OnOk, is_ok, if◌then◌else◌}
use Rattle.std.specs.declared.result.Result.{Result}
use Rattle.std.specs.declared.result.Result.TheVariants.{Ok, Err}

pub on_ok : {T E : Type 0} {A B : Type 0} (r : Result T E) → (A → B) → OnOk r A → OnOk r B
on_ok (Ok x) f h = f h
on_ok (Err e) f h = h

pub if_ok : {T E : Type 0} {P Q : T → Type 0} (r : Result T E) → ((x : T) → P x → Q x) → IfOk r P → IfOk r Q
if_ok (Ok x) f h = f x h
if_ok (Err e) f h = h

-- a list to which a member was added, if there was memory
pub pushed_ok : {X T E : Type 0} {B : Type 0} (r : Result T E) (old new : List X) (x : X) → new ≡ (if is_ok r then old ++ x ∷ [] else old) → (new ≡ old ++ x ∷ [] → B) → OnOk r B
pushed_ok (Ok y) old new x h f = f h
pushed_ok (Err e) old new x h f = tt
