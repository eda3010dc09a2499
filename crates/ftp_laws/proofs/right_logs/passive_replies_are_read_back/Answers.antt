use Rattle.ftp_events.proofs.PortTexts.{port-read}
use Rattle.ftp_laws.proofs.right_logs.passive_replies_are_read_back.Goals as goal

pub returns : goal.returns
returns c = record { read_back = port-read }
