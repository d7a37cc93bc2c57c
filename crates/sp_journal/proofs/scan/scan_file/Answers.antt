use Rattle.std.proofs.Common.{◌≡◌, ap, subst, sym, ◌∙◌, true, length}
use Rattle.sp_journal.specs.Recovery.{Recovers, Foreign}
use Rattle.sp_journal.proofs.Scans.{foreign_is}
use Rattle.sp_journal.proofs.scan.scan_file.Goals as goal

pub returns-in-Foreign-clause-foreign : goal.returns-in-Foreign-clause-foreign
returns-in-Foreign-clause-foreign g c = λ told so.
    let told' = subst (λ b. b ≡ true) (sym c.len.ensures.tells) told in
    let same = c.len.ensures.bytes told in
    let kind = rw c.in-Foreign.is at (c.in_ok-kind.ensures.kind told' (ap length same ∙ sym (c.in_ok-len.ensures.length told))) in
    subst (λ f. Recovers f Foreign) same (foreign_is (g.D.Disk.reads c.len.new.self) kind)
