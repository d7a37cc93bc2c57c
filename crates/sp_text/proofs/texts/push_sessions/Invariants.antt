use Rattle.std.proofs.Common.{◌≡◌, ◌++◌, take}
use Rattle.std.specs.List.{flat_map}
use Rattle.sp_text.specs.Names.{session_word}
use Rattle.sp_text.specs.Texts.{spaced}
use Rattle.sp_text.proofs.texts.push_sessions.Given as goal

abbrev pub invariant-loop-session : goal.invariant-loop-session
invariant-loop-session l = l.text ≡ l.initial.text ++ flat_map (λ s. spaced (session_word l.form s)) (take l.session-index l.session-items)
