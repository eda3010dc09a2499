use Rattle.std.proofs.Common.{◌∙◌}
use Rattle.ftp_extras.specs.Plan.{features}
use Rattle.ftp_extras.proofs.session_word.feature_reply.Goals as goal

pub returns : goal.returns
returns c = c.in_ok-reply.ensures (features c.args.offers) (c.as_slice.ensures.value ∙ c.in_ok-lines.ensures)
