use Rattle.std.proofs.Common.{◌∙◌}
use Rattle.ftp_script_run.specs.Stress.{stress_options}
use Rattle.ftp_text.proofs.SettingsLemmas.{options-once}
use Rattle.ftp_script_run.proofs.stress_run.Run.new.Goals as goal

pub returns : goal.returns
returns c = record {
  options = c.new.ensures.options ∙ options-once c.options.result stress_options c.options.ensures;
  stands = c.new.ensures.stands;
  counts = c.new-2.ensures;
  events = c.new.ensures.count;
}
