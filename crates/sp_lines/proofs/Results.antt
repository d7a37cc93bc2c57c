-- Clauses of results that follow from others.
use Rattle.std.proofs.Common.{◌≡◌, true, cond, List, Result, Ok, Err, is_ok, is_err}
use Rattle.std.specs.Prelude.{IfErr, OnOk}

-- what follows where a call succeeded
pub ok_along : {A : Type 0} {E : Type 0} (r : Result A E) (P Q : Type 0) → (P → Q) → OnOk r P → OnOk r Q
ok_along (Ok a) P Q f h = f h
ok_along (Err e) P Q f h = tt

-- what follows of an error, whatever it is
pub err_along : {A : Type 0} {E : Type 0} (r : Result A E) (P Q : E → Type 0) → ((e : E) → P e → Q e) → IfErr r P → IfErr r Q
err_along (Ok a) P Q f h = tt
err_along (Err e) P Q f h = f e h

-- where there was no memory, the list is the old one
pub left_at_err : {A E T : Type 0} (r : Result A E) (x y z : List T) → x ≡ cond (is_ok r) y z → is_err r ≡ true → x ≡ z
left_at_err (Ok a) x y z e h = cc
left_at_err (Err a) x y z e h = e
