-- Runs for which no kernel was started.
use Rattle.std.proofs.Common.{◌≡◌, ℕ, List, [], Option, Some, None, refl, sym, subst}
use Rattle.std.specs.Io.KnownBytes.{Keeps}
use Rattle.sp_io.proofs.Known.{Consumes-none}
use Rattle.sp_text.specs.Texts.{render}
use Rattle.sp_text.specs.declared.form.Form.{Form}
use Rattle.sp_text.specs.declared.types.Item.{Item}
use Rattle.sp_text.specs.declared.types.End.{End}
use Rattle.sp_text.specs.declared.types.End.TheVariants.{Input, Usage, ReadFault, WriteFault, DiskFault, Foreign, Damaged, Memory, Long}
use Rattle.sp_lines.specs.Reading.{ReadsPart, ReadsTo}
use Rattle.sp_disk.specs.declared.shelf.ShelfFault.{ShelfFault}
use Rattle.sp_disk.specs.declared.shelf.ShelfFault.TheVariants.{Fault as ShelfFailed, Memory as ShelfMemory}
use Rattle.sp_journal.specs.declared.types.JournalError.{JournalError}
use Rattle.sp_journal.specs.declared.types.JournalError.TheVariants.{Foreign as SaysForeign, Damaged as SaysDamaged, Worn as SaysWorn, Fault as SaysFault, Memory as NoMemory}
use Rattle.sp_runs.specs.Opening.{IsUnstarted, end_unfetched, end_unopened}
use Rattle.sp_runs.specs.Writing.{last_line, Writes, WritesOrFails}

keeps : (a : Option (List ℕ)) → Keeps a a
keeps None = tt
keeps (Some x) = refl

nothing_read : (form : Form) (a : Option (List ℕ)) → ReadsPart form a a []
nothing_read form a = record { bytes = []; read = Consumes-none a; unanswered = []; heard_as = refl }

no_items : (form : Form) (a : Option (List ℕ)) (end : End) → IsUnstarted end → ReadsTo form end a a []
no_items form a DiskFault h = nothing_read form a
no_items form a Memory h = nothing_read form a
no_items form a Foreign h = (keeps a, refl)
no_items form a (Damaged offset) h = (keeps a, refl)
no_items form a Input h = absurd h
no_items form a Usage h = absurd h
no_items form a ReadFault h = absurd h
no_items form a WriteFault h = absurd h
no_items form a Long h = absurd h

-- nothing is read
pub reads_none : (form : Form) (a : Option (List ℕ)) (end was : End) (items : List Item) → end ≡ was → IsUnstarted was → items ≡ [] → ReadsTo form end a a items
reads_none form a end was items e h is = subst (λ (x : End). ReadsTo form x a a items) (sym e) (subst (λ (x : List Item). ReadsTo form was a a x) (sym is) (no_items form a was h))

alone : (a b : Option (List ℕ)) (k n : ℕ) (form : Form) (line : List ℕ) (end : End) → IsUnstarted end → WritesOrFails a b k n (last_line end) → Writes end a b k n (render form []) line
alone a b k n form line DiskFault h w = w
alone a b k n form line Memory h w = w
alone a b k n form line Foreign h w = w
alone a b k n form line (Damaged offset) h w = w
alone a b k n form line Input h w = absurd h
alone a b k n form line Usage h w = absurd h
alone a b k n form line ReadFault h w = absurd h
alone a b k n form line WriteFault h w = absurd h
alone a b k n form line Long h w = absurd h

-- the line of the fault alone is written
pub writes_alone : (a b : Option (List ℕ)) (k n : ℕ) (form : Form) (line : List ℕ) (end was : End) (items : List Item) → end ≡ was → IsUnstarted was → items ≡ [] → WritesOrFails a b k n (last_line was) → Writes end a b k n (render form items) line
writes_alone a b k n form line end was items e h is w =
    subst (λ (x : End). Writes x a b k n (render form items) line) (sym e) (subst (λ (x : List Item). Writes was a b k n (render form x) line) (sym is) (alone a b k n form line was h w))

-- the ends of runs whose files were not fetched, and of those whose kernel was not started
pub unfetched : (fault : ShelfFault) (end : End) → end ≡ end_unfetched fault → IsUnstarted end
unfetched ShelfFailed end e = subst IsUnstarted (sym e) tt
unfetched ShelfMemory end e = subst IsUnstarted (sym e) tt

pub unopened : (error : JournalError) (end : End) → end ≡ end_unopened error → IsUnstarted end
unopened SaysForeign end e = subst IsUnstarted (sym e) tt
unopened (SaysDamaged offset) end e = subst IsUnstarted (sym e) tt
unopened SaysWorn end e = subst IsUnstarted (sym e) tt
unopened SaysFault end e = subst IsUnstarted (sym e) tt
unopened NoMemory end e = subst IsUnstarted (sym e) tt
