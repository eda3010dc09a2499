use Rattle.ftp_laws.proofs.OffsetLemmas.{ends-offset, offset-lasts}
use Rattle.ftp_laws.proofs.right_logs.ends_set_offset.Goals as goal

pub returns : goal.returns
returns c = record { offset = ends-offset; kept = offset-lasts }
