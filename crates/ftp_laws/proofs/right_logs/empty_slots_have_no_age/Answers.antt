use Rattle.ftp_laws.proofs.AgeLemmas.{session-aged}
use Rattle.ftp_laws.proofs.right_logs.empty_slots_have_no_age.Goals as goal

pub returns : goal.returns
returns c = record { empty = session-aged }
