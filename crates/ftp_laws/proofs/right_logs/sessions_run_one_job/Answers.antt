use Rattle.ftp_laws.proofs.LinkOriginLemmas.{starts-on-own}
use Rattle.ftp_laws.proofs.JobLemmas.{runs-one}
use Rattle.ftp_laws.proofs.right_logs.sessions_run_one_job.Goals as goal

pub returns : goal.returns
returns c = record { jobs = runs-one; links = starts-on-own }
