use Rattle.std.proofs.Common.{◌≡◌, ℕ, List}
use Rattle.sp_journal.specs.Opening.{RecoversAs, IsReady}
use Rattle.sp_journal.specs.Recovery.{NeedsMaking, new_file}
use Rattle.sp_journal.proofs.Opened.{needs_making, held_nothing, made_ready, on_ok_more, leaves_weaker, holds_as}
use Rattle.sp_journal.specs.Kinds.{KeepsKind}
use Rattle.sp_journal.proofs.Kinding.{unmade_keeps, keeps_same}
use Rattle.sp_journal.proofs.Making.{file_holds}
use Rattle.sp_journal.proofs.Passing.{no_call}
use Rattle.sp_journal.proofs.attach.prepare.Goals as goal

pub returns-in-Empty-clause-ready : goal.returns-in-Empty-clause-ready
returns-in-Empty-clause-ready g c = λ end found told kind held only.
    let was = g.D.Disk.reads c.args.disk.now in
    let reads = g.D.Disk.reads c.create.new.disk in
    let leaves = g.D.Disk.images c.create.new.disk (g.D.Disk.moment c.create.new.disk) in
    on_ok_more ((reads ≡ new_file) × ((file : List ℕ) → leaves file → file ≡ new_file)) (IsReady was reads leaves end found) c.create.result
    (λ made. made_ready was reads leaves end found (needs_making was c.args.kind kind c.in-Empty.is) (held_nothing was c.args.kind end found c.in-Empty.is held) made) (c.create.ensures.settled told)

pub returns-in-Empty-clause-crash : goal.returns-in-Empty-clause-crash
returns-in-Empty-clause-crash g c = λ told kind only.
    let was = g.D.Disk.reads c.args.disk.now in
    let needs = needs_making was c.args.kind kind c.in-Empty.is in
    leaves_weaker (g.D.Disk.moment c.args.disk.now) (g.D.Disk.moment c.create.new.disk) (g.D.Disk.images c.args.disk.now) (g.D.Disk.images c.create.new.disk) NeedsMaking (RecoversAs was)
    (λ file still. holds_as was file needs (file_holds file still)) (c.create.ensures.crash told needs only)

pub returns-in-Empty-clause-kinds : goal.returns-in-Empty-clause-kinds
returns-in-Empty-clause-kinds g c = λ told kind only.
    let was = g.D.Disk.reads c.args.disk.now in
    let needs = needs_making was c.args.kind kind c.in-Empty.is in
    leaves_weaker (g.D.Disk.moment c.args.disk.now) (g.D.Disk.moment c.create.new.disk) (g.D.Disk.images c.args.disk.now) (g.D.Disk.images c.create.new.disk) NeedsMaking (KeepsKind was)
    (λ file still. unmade_keeps was file needs still) (c.create.ensures.crash told needs only)

pub returns-in-Foreign-clause-kinds : goal.returns-in-Foreign-clause-kinds
returns-in-Foreign-clause-kinds g c = λ told kind only.
    let was = g.D.Disk.reads c.args.disk.now in
    no_call (g.D.Disk.moment c.args.disk.now) (g.D.Disk.images c.args.disk.now) (KeepsKind was) (λ file left. keeps_same was file (only file left))
