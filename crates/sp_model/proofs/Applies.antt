-- An operation that is applied keeps a kernel sound, whatever it is answered.
use Rattle.std.proofs.Common.{ℕ, []}
use Rattle.sp_node.specs.Table.{Table}
use Rattle.sp_event.specs.declared.event.Event.TheVariants.{Apply}
use Rattle.sp_event.specs.declared.answer.Answer.{Answer}
use Rattle.sp_model.specs.State.{Kernel}
use Rattle.sp_model.specs.Stepped.{Does}
use Rattle.sp_model.proofs.Bare.{Bare}
use Rattle.sp_model.proofs.Sessions.{found-among}
use Rattle.sp_model.proofs.Finishing.{finished-sound}
use Rattle.sp_model.proofs.Marking.{marked-sound}
use Rattle.sp_model.proofs.Adding.{inserted-sound}

pub apply_keeps : (IsRemoved : Table → ℕ → Table → Type 0) (k : Kernel) (s : ℕ) (answer : Answer) (after : Kernel) → Bare k → Does IsRemoved k (Apply s) answer after → Bare after
apply_keeps IsRemoved k s _ _ sound (Does.FullOfEntries _ x op found planned adds passes) = finished-sound k x op [] sound (found-among s k.sessions x found).0 planned
apply_keeps IsRemoved k s _ _ sound (Does.FullOfNumbers _ x r after chosen found planned adds few inserts passes) = finished-sound k x _ [] sound (found-among s k.sessions x found).0 planned
apply_keeps IsRemoved k s _ _ sound (Does.FullOfReplies _ x op found planned passes) = finished-sound k x op [] sound (found-among s k.sessions x found).0 planned
apply_keeps IsRemoved k s _ _ sound (Does.Applies _ x op found planned plain few) = marked-sound k x op sound (found-among s k.sessions x found).0 planned plain few
apply_keeps IsRemoved k s _ _ sound (Does.Inserts_entry _ x r after chosen gifts found planned adds few inserts numbers given) =
    inserted-sound k x r after chosen gifts sound (found-among s k.sessions x found).0 planned adds few inserts numbers given
