-- The answers, the audit's line, and then the line of a fault.
use Rattle.std.proofs.Common.{◌≡◌, ◌⊎◌, ℕ, ◌≤◌, inl, inr, List, [], ◌++◌, Option, Result, Ok, Err, refl, sym, ap, ◌∙◌, subst, append_assoc, arith}
use Rattle.std.specs.Prelude.{OnErr}
use Rattle.std.specs.Io.KnownBytes.{Appends}
use Rattle.sp_io.specs.Faults.{Rose}
use Rattle.sp_io.specs.Streams.{AppendsFront}
use Rattle.sp_io.proofs.Known.{Appends-more}
use Rattle.sp_text.specs.declared.types.End.{End}
use Rattle.sp_text.specs.declared.types.End.TheVariants.{Input, Usage, ReadFault, WriteFault, DiskFault, Foreign, Damaged, Memory, Long}
use Rattle.sp_lines.specs.Reading.{WritesTo}
use Rattle.sp_runs.specs.Running.{IsCutShort}
use Rattle.sp_runs.specs.Writing.{last_line, Writes, WritesOrFails}

-- a front of what goes on
pub front_of : (a b : Option (List ℕ)) (x y : List ℕ) → AppendsFront a b x → AppendsFront a b (x ++ y)
front_of a b x y p = (p.0, p.1 ++ y, ap (λ l. l ++ y) p.2 ∙ append_assoc p.0 p.1 y, p.3)

-- a front of the second piece behind the first
pub front_after : (a b c : Option (List ℕ)) (x y : List ℕ) → Appends a b x → AppendsFront b c y → AppendsFront a c (x ++ y)
front_after a b c x y p q = (x ++ q.0, q.1, ap (λ l. x ++ l) q.2 ∙ sym (append_assoc x q.0 q.1), Appends-more a b c x q.0 p q.3)

-- what follows at every error
pub at_error : {A E : Type 0} (r : Result A E) (P : Type 0) → P → OnErr r P
at_error (Ok a) P h = tt
at_error (Err e) P h = h

pub error_along : {A E : Type 0} (r : Result A E) (P Q : Type 0) → (P → Q) → OnErr r P → OnErr r Q
error_along (Ok a) P Q f h = tt
error_along (Err e) P Q f h = f h

-- a count that had risen from a later number has risen from an earlier one, and to a later one
pub rose_before : (k m n : ℕ) → k ≤ m → Rose m n → Rose k n
rose_before k m n h r = omega (arith, r, h)

pub rose_after : (k m n : ℕ) → Rose k m → m ≤ n → Rose k n
rose_after k m n r h = omega (arith, r, h)

then_last : (a b c : Option (List ℕ)) (k m n : ℕ) (x y : List ℕ) → Appends a b x → WritesOrFails b c m n y → k ≤ m → WritesOrFails a c k n (x ++ y)
then_last a b c k m n x y p (inl q) h = inl (Appends-more a b c x y p q)
then_last a b c k m n x y p (inr q) h = inr (front_after a b c x y p q.0, rose_before k m n h q.1)

module _ (a b c d : Option (List ℕ)) (k m n : ℕ) (answers line : List ℕ) where
  -- the run ended where its script had ended
  at_same : (end : End) → WritesTo end a b answers → (end ≡ Input → Appends b c line) → ((end ≡ Input → ⊥) → c ≡ b) → WritesOrFails c d m n (last_line end) → (last_line end ≡ [] → d ≡ c) → k ≤ m → Writes end a d k n answers line
  at_same Input p whole other q e h = subst (λ (x : Option (List ℕ)). Appends a x (answers ++ line)) (sym (e refl)) (Appends-more a b c answers line p (whole refl))
  at_same WriteFault p whole other q e h = subst (λ (x : Option (List ℕ)). AppendsFront a x (answers ++ line)) (sym (e refl ∙ other (λ is. cc))) (front_of a b answers line p)
  at_same Usage p whole other q e h = then_last a c d k m n answers _ (subst (λ (x : Option (List ℕ)). Appends a x answers) (sym (other (λ is. cc))) p) q h
  at_same ReadFault p whole other q e h = then_last a c d k m n answers _ (subst (λ (x : Option (List ℕ)). Appends a x answers) (sym (other (λ is. cc))) p) q h
  at_same Memory p whole other q e h = then_last a c d k m n answers _ (subst (λ (x : Option (List ℕ)). Appends a x answers) (sym (other (λ is. cc))) p) q h
  at_same Long p whole other q e h = then_last a c d k m n answers _ (subst (λ (x : Option (List ℕ)). Appends a x answers) (sym (other (λ is. cc))) p) q h
  at_same DiskFault p whole other q e h = then_last a c d k m n answers _ (subst (λ (x : Option (List ℕ)). Appends a x answers) (sym (other (λ is. cc))) p) q h
  at_same Foreign p whole other q e h = then_last a c d k m n answers _ (subst (λ (x : Option (List ℕ)). Appends a x answers) (sym (other (λ is. cc))) p) q h
  at_same (Damaged offset) p whole other q e h = then_last a c d k m n answers _ (subst (λ (x : Option (List ℕ)). Appends a x answers) (sym (other (λ is. cc))) p) q h

  -- the audit's line was cut short, or was not written
  at_cut : (end : End) → Appends a b answers → (end ≡ WriteFault → AppendsFront b c line) → (end ≡ Memory → c ≡ b) → WritesOrFails c d m n (last_line end) → (last_line end ≡ [] → d ≡ c) → k ≤ m
      → (end ≡ WriteFault) ⊎ (end ≡ Memory) → Writes end a d k n answers line
  at_cut end p front none q e h (inl is) =
      subst (λ (x : End). Writes x a d k n answers line) (sym is)
      (subst (λ (x : Option (List ℕ)). AppendsFront a x (answers ++ line)) (sym (e (ap last_line is))) (front_after a b c answers line p (front is)))
  at_cut end p front none q e h (inr is) =
      subst (λ (x : End). Writes x a d k n answers line) (sym is)
      (then_last a c d k m n answers _ (subst (λ (x : Option (List ℕ)). Appends a x answers) (sym (none is)) p) (subst (λ (x : End). WritesOrFails c d m n (last_line x)) is q) h)

  pub writes_all : (before end : End) → IsCutShort before end → WritesTo before a b answers → (end ≡ Input → Appends b c line) → (before ≡ Input → end ≡ WriteFault → AppendsFront b c line) → (before ≡ Input → end ≡ Memory → c ≡ b)
      → ((before ≡ Input → ⊥) → c ≡ b) → WritesOrFails c d m n (last_line end) → (last_line end ≡ [] → d ≡ c) → k ≤ m → Writes end a d k n answers line
  writes_all before end (inl is) p whole front none other q e h =
      at_same end (subst (λ (x : End). WritesTo x a b answers) (sym is) p) whole (λ apart. other (λ was. apart (is ∙ was))) q e h
  writes_all before end (inr (was, ends)) p whole front none other q e h =
      at_cut end (subst (λ (x : End). WritesTo x a b answers) was p) (front was) (none was) q e h ends
