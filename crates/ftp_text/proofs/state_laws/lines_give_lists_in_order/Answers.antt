use Rattle.ftp_text.proofs.ListLemmas.{lists-in-order}
use Rattle.ftp_text.proofs.state_laws.lines_give_lists_in_order.Goals as goal

pub returns : goal.returns
returns c = lists-in-order
