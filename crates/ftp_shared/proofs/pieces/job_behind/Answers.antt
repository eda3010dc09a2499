use Rattle.ftp_shared.proofs.PieceLemmas.{can_move-within}
use Rattle.ftp_shared.proofs.pieces.job_behind.Goals as goal

pub behind-requires : goal.behind-requires
behind-requires c = can_move-within c.args.job c.args.bytes c.requires
