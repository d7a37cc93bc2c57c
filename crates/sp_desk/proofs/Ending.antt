-- The end of the input.
use Rattle.std.proofs.Common.{true, Bool, rules, ◌≡◌, ℕ, List, [], ◌++◌, Some, refl, sym, subst, arith}
use Rattle.sp_io.proofs.Known.{Appends-none}
use Rattle.sp_lines.specs.declared.fault.Fault.{Fault}
use Rattle.sp_model.specs.State.{Kernel}
use Rattle.sp_kernel.specs.Whole.{Whole}
use Rattle.sp_desk.specs.Course.{StopsAt, Course}
use Rattle.sp_desk.specs.Playing.{Turn, Plays, AreOver}
use Rattle.sp_desk.specs.Hearing.{Place, Passes, Stops, AnswersLines, StopsInLines, Went, Halted, script_sessions}
use Rattle.sp_desk.proofs.Laws.{passes_join, stops_later}

append-nil : {A : Type 0} (x : List A) → x ++ [] ≡ x
append-nil x = search rules

-- no session is below the first
pub over_none : (k : Kernel) → AreOver k 0
over_none k s low = absurd (omega (arith, low))

-- the input has ended
ends_now : (p : Place) → Passes Turn.Hearing Turn.Closing [] p p
ends_now p = record { items = []; kept = sym (append-nil p.items); heard_as = refl; plays = Plays.Ends Plays.Stays; written = Appends-none p.taken }

-- what is left was rolled back
pub lines_end : (p z : Place) → Passes Turn.Closing Turn.Closing [] p z → AreOver z.kernel script_sessions → AnswersLines script_sessions true [] p z
lines_end p z a over = record { passes = passes_join Turn.Hearing Turn.Closing Turn.Closing [] [] p p z (ends_now p) a; closed = λ e. over }

-- some of what is left was rolled back
pub halts_end : (fault : Fault) (p z : Place) → Stops fault Turn.Closing [] p z → StopsAt (Some fault) z.kernel → StopsInLines fault [] p z
halts_end fault p z a stopped = record {
  stops = stops_later fault Turn.Hearing Turn.Closing [] [] p p z (ends_now p) a;
  stopped = λ e. subst (λ (f : Fault). StopsAt (Some f) z.kernel) e stopped;
}

module _ {D : Type 0} (tells takes : D → Bool) (faults moment : D → ℕ) (images : D → ℕ → List ℕ → Type 0) (p z : Place) (u w : Whole D) (course : Course tells takes faults moment images u w) where
  pub went_closed : Passes Turn.Closing Turn.Closing [] p z → AreOver z.kernel script_sessions → Went tells takes faults moment images true [] p u z w
  went_closed a over = record { answers = lines_end p z a over; course = course }

  pub halted_closing : (fault : Fault) → Stops fault Turn.Closing [] p z → StopsAt (Some fault) z.kernel → Halted tells takes faults moment images fault [] p u z w
  halted_closing fault a stopped = record { stops = halts_end fault p z a stopped; course = course }
