use Rattle.std.proofs.Common.{◌≡◌, take}
use Rattle.sp_rect.specs.Store.{Area, within}
use Rattle.sp_plain.proofs.keep.meeting.Given as goal

abbrev pub invariant-loop-record : goal.invariant-loop-record
invariant-loop-record l = l.found ≡ within (Area l.rect) (take l.record-index l.records)
