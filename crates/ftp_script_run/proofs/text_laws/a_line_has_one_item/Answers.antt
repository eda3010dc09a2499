use Rattle.ftp_script_run.proofs.Reading.{one_item}
use Rattle.ftp_script_run.proofs.text_laws.a_line_has_one_item.Goals as goal

pub returns : goal.returns
returns c = one_item
