use Rattle.std.proofs.Common.{sym, ◌∙◌}
use Rattle.std.proofs.lemmas.List.{take_rest}
use Rattle.std.specs.Cmp.Lexicographic.{other_text}
use Rattle.sp_journal.proofs.Heads.{read_numbers, same_header, header_here}
use Rattle.sp_journal.proofs.kind.read_header.Goals as goal
use Rattle.sp_journal.proofs.kind.read_header.Goals.{else-is_header-via-then-is_header+else-eq, else-is_header-via-else-is_header}

pub returns-else-is_header-clause-none : goal.returns-else-is_header-clause-none
returns-else-is_header-clause-none c = λ version generation is stands.
    let same = read_numbers version generation c.read_u32-version.result c.read_u64-generation.result c.args.front.now _ _ is stands (take_rest c.args.front.now 4) c.read_u32-version.ensures (take_rest c.args.front.now 8) c.read_u64-generation.ensures in
    elim c.else-is_header.branch [
      | else-is_header-via-then-is_header+else-eq w ↦ other_text _ _ (sym w.if-eq.false ∙ w.eq.ensures) (stands ∙ same_header _ _ _ _ same.0 same.1 ∙ sym w.write_header.ensures)
      | else-is_header-via-else-is_header w ↦ c.is_header.ensures.no w.if-is_header.false (header_here _ _ _ _ same.0 same.1 is)
    ]
