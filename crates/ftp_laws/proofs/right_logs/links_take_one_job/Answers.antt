use Rattle.ftp_laws.proofs.LinkLemmas.{taken-once}
use Rattle.ftp_laws.proofs.right_logs.links_take_one_job.Goals as goal

pub returns : goal.returns
returns c = record { links = λ o log n r a. (taken-once o log n r a).once }
