use Rattle.ftp_audit.proofs.HeardLemmas.{heard-sums}
use Rattle.ftp_audit.proofs.laws.notices_tell_what_was_decided.Goals as goal

pub returns : goal.returns
returns c = heard-sums
