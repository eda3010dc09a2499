use Rattle.std.proofs.Common.{Some, refl}
use Rattle.ftp_script_run.proofs.text_script.ScriptReader.new.Goals as goal

pub returns-clause-start : goal.returns-clause-start
returns-clause-start c = λ buffer bytes. c.behind.ensures.start buffer bytes (Some bytes) refl
