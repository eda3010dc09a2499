use Rattle.ftp_text.proofs.HaveLines.{walk-has}
use Rattle.ftp_text.proofs.state_laws.lists_in_order_have_lines.Goals as goal

pub returns : goal.returns
returns c = walk-has
