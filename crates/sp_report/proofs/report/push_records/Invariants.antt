use Rattle.std.proofs.Common.{◌≡◌, [], ◌++◌, take, map}
use Rattle.std.specs.List.{flat_map}
use Rattle.sp_text.specs.Texts.{line_text, record_words}
use Rattle.sp_report.proofs.report.push_records.Given as goal

abbrev pub invariant-loop-record : goal.invariant-loop-record
invariant-loop-record l = l.text ≡ l.initial.text ++ flat_map (line_text []) (map record_words (take l.record-index l.records))
