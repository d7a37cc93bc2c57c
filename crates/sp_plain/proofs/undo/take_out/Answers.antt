use Rattle.std.proofs.Common.{◌≡◌, [], ◌∙◌}
use Rattle.sp_rect.specs.Store.{Id, within}
use Rattle.sp_plain.proofs.Order.{without_none}
use Rattle.sp_plain.proofs.Leading.{put_back, emptied}
use Rattle.sp_plain.proofs.undo.take_out.Goals as goal

pub returns-in-Some-clause-back : goal.returns-in-Some-clause-back
returns-in-Some-clause-back c =
    let back = put_back 0 c.args.id c.in-Some.member c.args.records.now.items c.requires c.in-Some.ensures.some in
    let free : within (Id c.in-Some.member.id) c.remove.new.records.items ≡ [] = rw (back.named, c.remove.ensures.after) (emptied c.args.id c.args.records.now.items) in
    record { can = ((free, c.in-Some.ensures.spare), tt); back = rw c.remove.ensures.after back.same }

pub returns-in-None-clause-after : goal.returns-in-None-clause-after
returns-in-None-clause-after c = c.remove.ensures.after ∙ without_none (Id c.args.id) c.args.records.now.items c.in-None.ensures.none
