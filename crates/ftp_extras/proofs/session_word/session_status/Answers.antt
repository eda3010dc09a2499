use Rattle.std.proofs.Common.{◌∙◌}
use Rattle.ftp_extras.specs.Extra.{seen}
use Rattle.ftp_extras.specs.Plan.{status_lines}
use Rattle.ftp_extras.proofs.session_word.session_status.Goals as goal

pub returns : goal.returns
returns c = c.in_ok-reply.ensures (status_lines (seen c.args.asker.now)) (c.as_slice.ensures.value ∙ c.in_ok-lines.ensures)
