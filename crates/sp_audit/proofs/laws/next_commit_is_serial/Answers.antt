use Rattle.sp_audit.proofs.Serial.{Serial-push}
use Rattle.sp_audit.proofs.laws.next_commit_is_serial.Goals as goal

pub returns : goal.returns
returns c = Serial-push
