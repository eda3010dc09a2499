use Rattle.ftp_laws.proofs.PieceLemmas.{marked-aborted, pieces-counted}
use Rattle.ftp_laws.proofs.right_logs.pieces_add_up.Goals as goal

pub returns : goal.returns
returns c = record { counted = pieces-counted; marked = marked-aborted }
