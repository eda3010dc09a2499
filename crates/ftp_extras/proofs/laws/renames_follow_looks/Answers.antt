use Rattle.ftp_extras.proofs.RenameLemmas.{renames}
use Rattle.ftp_extras.proofs.laws.renames_follow_looks.Goals as goal

pub returns : goal.returns
returns c = record { renames = renames }
