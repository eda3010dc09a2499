use Rattle.ftp_script_run.proofs.Reading.{one_script}
use Rattle.ftp_script_run.proofs.text_laws.bytes_are_one_script.Goals as goal

pub returns : goal.returns
returns c = one_script
