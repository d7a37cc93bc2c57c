use Rattle.std.proofs.Common.{◌∙◌, length, ap, sym, subst, arith}
use Rattle.sp_node.specs.Among.{Among}
use Rattle.sp_node.specs.Table.{Table, entries_of}
use Rattle.sp_ending.specs.Ends.{EndsOne}
use Rattle.sp_ending.proofs.Turns.{tail-rises, tail-room, turn, length-at_one}
use Rattle.sp_ending.proofs.marks.end_next.Goals as goal

pub end_one-requires-clause-rises : goal.end_one-requires-clause-rises
end_one-requires-clause-rises c = let tail = c.requires.tail in tail-rises c.args.dead.now.items c.args.from tail.0 c.args.tree.now.table c.root-valid.ensures.valid tail.1

pub end_one-requires-clause-room : goal.end_one-requires-clause-room
end_one-requires-clause-room c =
    let tail = c.requires.tail in
    let next = c.in-Some.ensures in
    let less = tail-room c.args.dead.now.items c.args.from tail.0 c.args.tree.now.table c.root-valid.ensures.valid tail.1 c.args.txn next.entry next.among next.marked in
    let room = c.requires.room in
    omega (arith, less, room)

pub returns-in-Some-clause-one : goal.returns-in-Some-clause-one
returns-in-Some-clause-one c =
    let t = c.args.tree.now.table in
    let dead = c.args.dead.now.items in
    let next = c.in-Some.ensures in
    subst (λ (t' : Table). EndsOne c.args.ending c.args.txn c.args.from t dead t' c.end_one.new.dead.items) (sym c.end_one.ensures.table)
    (turn c.args.ending c.args.txn c.args.from c.in-Some.number t dead c.root-valid.ensures.valid next c.requires.tail.1.within c.end_one.new.dead.items
    (λ e i named. c.end_one.ensures.dead e (subst (λ (t' : Table). Among e (entries_of t')) (sym c.end_one.ensures.table) i) named))

pub returns-in-Some-clause-room : goal.returns-in-Some-clause-room
returns-in-Some-clause-room c =
    let same = ap (λ (t : Table). length (entries_of t)) c.end_one.ensures.table ∙ length-at_one c.args.ending c.args.txn c.in-Some.number c.args.tree.now.table in
    let room = c.requires.room in
    let more = c.end_one.ensures.room in
    omega (arith, same, room, more)
