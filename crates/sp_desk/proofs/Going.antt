-- How what a desk has heard goes on, line after line.
use Rattle.std.proofs.Common.{rules, ◌≡◌, ℕ, Bool, true, false, List, [], ◌∷◌, ◌++◌, Option, subst}
use Rattle.sp_lines.specs.declared.fault.Fault.{Fault}
use Rattle.std.specs.Io.KnownBytes.{Appends}
use Rattle.sp_lines.specs.declared.fault.Fault.TheVariants.{Write, Memory}
use Rattle.sp_kernel.specs.Whole.{Whole}
use Rattle.sp_desk.specs.Hearing.{Place, place, Went, Halted, script_sessions}
use Rattle.sp_desk.proofs.Joining.{course_none, course_join}
use Rattle.sp_desk.proofs.Laws.{lines_none, lines_flushed, lines_join, halts_none, halts_unwritten, halts_later, halts_more}

append-nil : {A : Type 0} (x : List A) → x ++ [] ≡ x
append-nil x = search rules

module _ {D : Type 0} (tells takes : D → Bool) (faults moment : D → ℕ) (images : D → ℕ → List ℕ → Type 0) where
  pub went_none : (p : Place) (w : Whole D) → Went tells takes faults moment images false [] p w p w
  went_none p w = record { answers = lines_none script_sessions p; course = course_none tells takes faults moment images w }

  pub went_join : (ended : Bool) (l m : List (List ℕ)) (p q z : Place) (u v w : Whole D)
      → Went tells takes faults moment images false l p u q v → Went tells takes faults moment images ended m q v z w → Went tells takes faults moment images ended (l ++ m) p u z w
  went_join ended l m p q z u v w a b = record {
    answers = lines_join script_sessions ended l m p q z a.answers b.answers;
    course = course_join tells takes faults moment images u v w a.course b.course;
  }

  pub halted_join : (fault : Fault) (l m : List (List ℕ)) (p q z : Place) (u v w : Whole D)
      → Went tells takes faults moment images false l p u q v → Halted tells takes faults moment images fault m q v z w → Halted tells takes faults moment images fault (l ++ m) p u z w
  halted_join fault l m p q z u v w a b = record {
    stops = halts_later fault script_sessions l m p q z a.answers b.stops;
    course = course_join tells takes faults moment images u v w a.course b.course;
  }

  -- further lines are left
  pub halted_more : (fault : Fault) (l m : List (List ℕ)) (p z : Place) (u w : Whole D)
      → Halted tells takes faults moment images fault l p u z w → Halted tells takes faults moment images fault (l ++ m) p u z w
  halted_more fault l m p z u w a = record { stops = halts_more fault l m p z a.stops; course = a.course }

  -- one line more, which a reader told
  pub went_line : (ended : Bool) (l : List (List ℕ)) (told line : List ℕ) (p q z : Place) (u v w : Whole D) → told ≡ line
      → Went tells takes faults moment images false l p u q v → Went tells takes faults moment images ended (told ∷ []) q v z w → Went tells takes faults moment images ended (l ++ line ∷ []) p u z w
  went_line ended l told line p q z u v w e a b = subst (λ (x : List ℕ). Went tells takes faults moment images ended (l ++ x ∷ []) p u z w) e (went_join ended l (told ∷ []) p q z u v w a b)

  pub halted_line : (fault : Fault) (l : List (List ℕ)) (told line : List ℕ) (p q z : Place) (u v w : Whole D) → told ≡ line
      → Went tells takes faults moment images false l p u q v → Halted tells takes faults moment images fault (told ∷ []) q v z w → Halted tells takes faults moment images fault (l ++ line ∷ []) p u z w
  halted_line fault l told line p q z u v w e a b = subst (λ (x : List ℕ). Halted tells takes faults moment images fault (l ++ x ∷ []) p u z w) e (halted_join fault l (told ∷ []) p q z u v w a b)

  -- the end behind lines that were answered
  pub went_end : (l : List (List ℕ)) (p q z : Place) (u v w : Whole D)
      → Went tells takes faults moment images false l p u q v → Went tells takes faults moment images true [] q v z w → Went tells takes faults moment images true l p u z w
  went_end l p q z u v w a b = subst (λ (x : List (List ℕ)). Went tells takes faults moment images true x p u z w) (append-nil l) (went_join true l [] p q z u v w a b)

  pub halted_end : (fault : Fault) (l : List (List ℕ)) (p q z : Place) (u v w : Whole D)
      → Went tells takes faults moment images false l p u q v → Halted tells takes faults moment images fault [] q v z w → Halted tells takes faults moment images fault l p u z w
  halted_end fault l p q z u v w a b = subst (λ (x : List (List ℕ)). Halted tells takes faults moment images fault x p u z w) (append-nil l) (halted_join fault l [] p q z u v w a b)

  -- there was no memory for the next line
  pub halted_nothing : (l others : List (List ℕ)) (p z : Place) (u w : Whole D) → Went tells takes faults moment images false l p u z w → Halted tells takes faults moment images Memory (l ++ others) p u z w
  halted_nothing l others p z u w a =
      halted_more Memory l others p z u w (halted_end Memory l p z z u w w a (record { stops = halts_none z; course = course_none tells takes faults moment images w }))

  -- the sink was flushed
  pub went_flushed : (l : List (List ℕ)) (p z : Place) (u w : Whole D) (t : Option (List ℕ)) → Appends z.taken t []
      → Went tells takes faults moment images false l p u z w → Went tells takes faults moment images false l p u (place z.items z.waiting z.kernel t) w
  went_flushed l p z u w t f a =
      let q = place z.items z.waiting z.kernel t in
      subst (λ (x : List (List ℕ)). Went tells takes faults moment images false x p u q w) (append-nil l)
      (went_join false l [] p z q u w w a (record { answers = lines_flushed script_sessions z t f; course = course_none tells takes faults moment images w }))

  -- it could not be
  pub halted_unwritten : (l others : List (List ℕ)) (p z : Place) (u w : Whole D) (t : Option (List ℕ)) → Appends z.taken t []
      → Went tells takes faults moment images false l p u z w → Halted tells takes faults moment images Write (l ++ others) p u (place z.items z.waiting z.kernel t) w
  halted_unwritten l others p z u w t f a =
      let q = place z.items z.waiting z.kernel t in
      halted_more Write l others p q u w (halted_end Write l p z q u w w a (record { stops = halts_unwritten z t f; course = course_none tells takes faults moment images w }))
