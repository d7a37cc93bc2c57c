use Rattle.std.proofs.Common.{◌≡◌, ◌+◌, ℕ, zero, suc, Bool, true, false, cond, ◌||◌, nat_eq, List, [], ◌∷◌, ◌++◌, length, take, slice_get, Option, None, Some, is_some, sym, ap, ◌∙◌, refl, arith, true≢false}
use Rattle.std.specs.Map.{keys_of, lookup}
use Rattle.sp_locks.specs.declared.row.Name.{Name}
use Rattle.sp_locks.specs.declared.row.Row.{Row}
use Rattle.sp_locks.specs.Blocking.{member}
use Rattle.sp_locks.specs.Soundness.{name_of}
use Rattle.sp_locks.specs.Rows.{waiting_in}
use Rattle.sp_locks.proofs.table.Table.waiters.Goals as goal
use Rattle.sp_locks.proofs.table.Table.waiters.Goals.{in-Some+in_ok-push, in_default}

take-key : (es : List (ℕ × Name)) (i k : ℕ) (n : Name) → Some (k, n) ≡ slice_get es i → take i (keys_of es) ++ k ∷ [] ≡ take (suc i) (keys_of es)
take-key [] i k n at = absurd (let h : Some (k, n) ≡ None = at in cc)
take-key (e ∷ es) zero k n at = let h : Some (k, n) ≡ Some e = at in ap (λ (p : ℕ × Name). p.0 ∷ []) (let g : (k, n) ≡ e = cc in g)
take-key (e ∷ es) (suc i) k n at = ap (λ (ks : List ℕ). e.0 ∷ ks) (take-key es i k n at)

key-there : (es : List (ℕ × Name)) (s : ℕ) → member s (keys_of es) ≡ is_some (lookup (nat_eq s) es)
key-there [] s = refl
key-there (e ∷ es) s = go (nat_eq s e.0) (key-there es s)
  where
    go : (b : Bool) → member s (keys_of es) ≡ is_some (lookup (nat_eq s) es) → (b || member s (keys_of es)) ≡ is_some (cond b (Some e.1) (lookup (nat_eq s) es))
    go true rest = refl
    go false rest = rest

name-there : (o : Option Row) → is_some (name_of o) ≡ is_some o
name-there None = refl
name-there (Some r) = refl

all-taken : (es : List (ℕ × Name)) (i : ℕ) → length es ≡ i → take i (keys_of es) ≡ keys_of es
all-taken [] zero h = refl
all-taken [] (suc i) h = refl
all-taken (e ∷ es) zero h = absurd (omega arith)
all-taken (e ∷ es) (suc i) h = ap (λ (ks : List ℕ). e.0 ∷ ks) (all-taken es i (omega arith))

pub loop-i-preserved : goal.loop-i-preserved
loop-i-preserved c = elim c.match-get_index.branch [
  | in-Some+in_ok-push w ↦ w.found-is ∙ w.in_ok-push.ensures ∙ ap (λ ks. ks ++ w.in-Some.session.now ∷ []) c.loop-i.invariant ∙ take-key c.as_slice-waits.result c.loop-i.i w.in-Some.session.now w.in-Some.field-0-1.now w.in-Some.ensures.entry
      ∙ (let e : suc c.loop-i.i ≡ c.loop-i.i + 1 = omega arith in ap (λ n. take n (keys_of c.as_slice-waits.result)) e)
  | in_default w ↦ absurd (true≢false (sym (w.in_default.ensures.found.1 (omega arith))))
]

pub returns : goal.returns
returns c s =
    ap (member s) (c.loop-i.invariant ∙ all-taken c.as_slice-waits.result c.loop-i.i (omega arith) ∙ ap keys_of c.as_slice-waits.ensures.entries)
    ∙ key-there c.self.inside.waits.entries s ∙ ap is_some (c.self.invariant.1 s) ∙ name-there (waiting_in s c.self.inside.rows) ∙ ap (λ rows. is_some (waiting_in s rows)) c.self.view_is
