use Rattle.std.proofs.Common.{refl}
use Rattle.ftp_script_run.proofs.ScriptLemmas.{start_told}
use Rattle.ftp_script_run.proofs.text_script.ScriptReader.behind.Goals as goal

pub returns-clause-start : goal.returns-clause-start
returns-clause-start c = λ buffer bytes left rest. start_told (record { admission = c.new.result; held = c.args.held; taken = 0; number = 0 }) buffer bytes left refl refl rest c.new.ensures
