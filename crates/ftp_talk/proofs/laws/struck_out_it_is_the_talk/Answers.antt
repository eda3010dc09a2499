use Rattle.ftp_talk.proofs.MergeLemmas.{says-merged}
use Rattle.ftp_talk.proofs.laws.struck_out_it_is_the_talk.Goals as goal

pub returns : goal.returns
returns c = record { struck_out = says-merged }
