use Rattle.std.proofs.Common.{◌≡◌, false, List, ℕ, [], ◌∷◌, Ok, subst}
use Rattle.std.proofs.lemmas.Result.{err_from_is_err_and}
use Rattle.sp_text.specs.Grammar.{said}
use Rattle.sp_text.specs.declared.form.Form.TheVariants.{Drill}
use Rattle.sp_text.specs.declared.types.Said.TheVariants.{Step}
use Rattle.sp_lines.specs.declared.fault.Fault.{Fault}
use Rattle.sp_lines.proofs.Results.{ok_along, err_along}
use Rattle.sp_drill.specs.declared.due.Due.{Due}
use Rattle.sp_drill.specs.Drilling.{Next}
use Rattle.sp_drill.specs.Hearing.{Does, Goes, Stops, placed_from}
use Rattle.sp_drill.proofs.Joining.{goes_more, stops_later}
use Rattle.sp_drill.proofs.Going.{goes_line, goes_places, are_placed}
use Rattle.sp_drill.proofs.Stopping.{stops_event, stops_disk}
use Rattle.sp_drill.proofs.driller.Driller.hear_event.Goals as goal

pub returns-in_err-step-clause-stops : goal.returns-in_err-step-clause-stops
returns-in_err-step-clause-stops g c =
    let p = err_from_is_err_and c.from_residual.result c.from_residual.ensures.1 in
    rw (p.1, p.2) (λ line says. stops_event g.D.Disk.tells g.D.Disk.takes_memory g.D.Disk.faults g.D.Disk.moment g.D.Disk.images c.args.self.now.scribe c.step.new.self.scribe c.args.kernel.now c.step.new.kernel (g.K.Sink.taken c.args.sink.now) (g.K.Sink.taken c.step.new.sink) c.step.ensures.leads c.in_err-step.field-0.0 line c.args.event c.in_err-step.ensures.until says)

pub returns-in-Line-clause-goes : goal.returns-in-Line-clause-goes
returns-in-Line-clause-goes g c = λ line says. goes_line g.D.Disk.tells g.D.Disk.takes_memory g.D.Disk.faults g.D.Disk.moment g.D.Disk.images c.args.self.now.scribe c.step.new.self.scribe c.args.kernel.now c.step.new.kernel (g.K.Sink.taken c.args.sink.now) (g.K.Sink.taken c.step.new.sink) c.step.ensures.leads line c.args.event
    (subst (λ (d : Due). Does c.args.event false d c.args.kernel.now.kernel c.args.self.now.scribe (g.K.Sink.taken c.args.sink.now) c.step.new.kernel.kernel c.step.new.self.scribe (g.K.Sink.taken c.step.new.sink)) c.in-Line.is c.in_ok-step.ensures.does) says

pub tell_places-requires-clause-place : goal.tell_places-requires-clause-place
tell_places-requires-clause-place g c = λ κs bounds.
    (are_placed c.args.self.now.scribe c.step.new.self.scribe c.args.kernel.now.kernel c.step.new.kernel.kernel (g.K.Sink.taken c.args.sink.now) (g.K.Sink.taken c.step.new.sink) c.in-Places.first c.args.event
    (subst (λ (d : Due). Does c.args.event false d c.args.kernel.now.kernel c.args.self.now.scribe (g.K.Sink.taken c.args.sink.now) c.step.new.kernel.kernel c.step.new.self.scribe (g.K.Sink.taken c.step.new.sink)) c.in-Places.is c.in_ok-step.ensures.does) c.requires.sound).place

pub tell_places-requires-clause-within : goal.tell_places-requires-clause-within
tell_places-requires-clause-within g c = λ κs bounds.
    (are_placed c.args.self.now.scribe c.step.new.self.scribe c.args.kernel.now.kernel c.step.new.kernel.kernel (g.K.Sink.taken c.args.sink.now) (g.K.Sink.taken c.step.new.sink) c.in-Places.first c.args.event
    (subst (λ (d : Due). Does c.args.event false d c.args.kernel.now.kernel c.args.self.now.scribe (g.K.Sink.taken c.args.sink.now) c.step.new.kernel.kernel c.step.new.self.scribe (g.K.Sink.taken c.step.new.sink)) c.in-Places.is c.in_ok-step.ensures.does) c.requires.sound).within

pub returns-in-Places-clause-goes : goal.returns-in-Places-clause-goes
returns-in-Places-clause-goes g c =
    let placed = Next.Tells (placed_from c.in-Places.first c.step.new.kernel.kernel) in
    let P : Type 0 = Goes g.D.Disk.tells g.D.Disk.takes_memory g.D.Disk.faults g.D.Disk.moment g.D.Disk.images placed (Next.Tells []) [] c.step.new.self.scribe c.step.new.kernel (g.K.Sink.taken c.step.new.sink) c.tell_places.new.self.scribe c.tell_places.new.kernel (g.K.Sink.taken c.tell_places.new.sink) in
    let Q : Type 0 = (line : List ℕ) → said Drill line ≡ Ok (Step c.args.event) → Goes g.D.Disk.tells g.D.Disk.takes_memory g.D.Disk.faults g.D.Disk.moment g.D.Disk.images (Next.Tells []) (Next.Tells []) (line ∷ []) c.args.self.now.scribe c.args.kernel.now (g.K.Sink.taken c.args.sink.now) c.tell_places.new.self.scribe c.tell_places.new.kernel (g.K.Sink.taken c.tell_places.new.sink) in
    ok_along c.tell_places.result P Q (λ told line says.
    goes_more g.D.Disk.tells g.D.Disk.takes_memory g.D.Disk.faults g.D.Disk.moment g.D.Disk.images (Next.Tells []) placed (Next.Tells []) (line ∷ []) [] c.args.self.now.scribe c.step.new.self.scribe c.tell_places.new.self.scribe c.args.kernel.now c.step.new.kernel c.tell_places.new.kernel (g.K.Sink.taken c.args.sink.now) (g.K.Sink.taken c.step.new.sink) (g.K.Sink.taken c.tell_places.new.sink)
    (goes_places g.D.Disk.tells g.D.Disk.takes_memory g.D.Disk.faults g.D.Disk.moment g.D.Disk.images c.args.self.now.scribe c.step.new.self.scribe c.args.kernel.now c.step.new.kernel (g.K.Sink.taken c.args.sink.now) (g.K.Sink.taken c.step.new.sink) c.step.ensures.leads c.in-Places.first line c.args.event
    (subst (λ (d : Due). Does c.args.event false d c.args.kernel.now.kernel c.args.self.now.scribe (g.K.Sink.taken c.args.sink.now) c.step.new.kernel.kernel c.step.new.self.scribe (g.K.Sink.taken c.step.new.sink)) c.in-Places.is c.in_ok-step.ensures.does) c.requires.sound says) told) c.tell_places.ensures.goes

pub returns-in-Places-clause-stops : goal.returns-in-Places-clause-stops
returns-in-Places-clause-stops g c =
    let placed = Next.Tells (placed_from c.in-Places.first c.step.new.kernel.kernel) in
    let P : Fault → Type 0 = λ fault. Stops g.D.Disk.tells g.D.Disk.takes_memory g.D.Disk.faults g.D.Disk.moment g.D.Disk.images placed fault [] c.step.new.self.scribe c.step.new.kernel (g.K.Sink.taken c.step.new.sink) c.tell_places.new.self.scribe c.tell_places.new.kernel (g.K.Sink.taken c.tell_places.new.sink) in
    let Q : Fault → Type 0 = λ fault. (line : List ℕ) → said Drill line ≡ Ok (Step c.args.event) → Stops g.D.Disk.tells g.D.Disk.takes_memory g.D.Disk.faults g.D.Disk.moment g.D.Disk.images (Next.Tells []) fault (line ∷ []) c.args.self.now.scribe c.args.kernel.now (g.K.Sink.taken c.args.sink.now) c.tell_places.new.self.scribe c.tell_places.new.kernel (g.K.Sink.taken c.tell_places.new.sink) in
    err_along c.tell_places.result P Q (λ fault told line says.
    stops_later g.D.Disk.tells g.D.Disk.takes_memory g.D.Disk.faults g.D.Disk.moment g.D.Disk.images (Next.Tells []) placed fault (line ∷ []) [] c.args.self.now.scribe c.step.new.self.scribe c.tell_places.new.self.scribe c.args.kernel.now c.step.new.kernel c.tell_places.new.kernel (g.K.Sink.taken c.args.sink.now) (g.K.Sink.taken c.step.new.sink) (g.K.Sink.taken c.tell_places.new.sink)
    (goes_places g.D.Disk.tells g.D.Disk.takes_memory g.D.Disk.faults g.D.Disk.moment g.D.Disk.images c.args.self.now.scribe c.step.new.self.scribe c.args.kernel.now c.step.new.kernel (g.K.Sink.taken c.args.sink.now) (g.K.Sink.taken c.step.new.sink) c.step.ensures.leads c.in-Places.first line c.args.event
    (subst (λ (d : Due). Does c.args.event false d c.args.kernel.now.kernel c.args.self.now.scribe (g.K.Sink.taken c.args.sink.now) c.step.new.kernel.kernel c.step.new.self.scribe (g.K.Sink.taken c.step.new.sink)) c.in-Places.is c.in_ok-step.ensures.does) c.requires.sound says) told) c.tell_places.ensures.stops

pub returns-in-End-clause-stops : goal.returns-in-End-clause-stops
returns-in-End-clause-stops g c = λ line says. stops_disk g.D.Disk.tells g.D.Disk.takes_memory g.D.Disk.faults g.D.Disk.moment g.D.Disk.images c.args.self.now.scribe c.step.new.self.scribe c.args.kernel.now c.step.new.kernel (g.K.Sink.taken c.args.sink.now) (g.K.Sink.taken c.step.new.sink) c.step.ensures.leads line c.args.event
    (subst (λ (d : Due). Does c.args.event false d c.args.kernel.now.kernel c.args.self.now.scribe (g.K.Sink.taken c.args.sink.now) c.step.new.kernel.kernel c.step.new.self.scribe (g.K.Sink.taken c.step.new.sink)) c.in-End.is c.in_ok-step.ensures.does) says (c.in_ok-step.ensures.cause c.in-End.is)
