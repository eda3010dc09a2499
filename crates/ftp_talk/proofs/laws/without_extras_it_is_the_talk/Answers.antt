use Rattle.ftp_talk.proofs.PlainLemmas.{plain-talk, plain-front}
use Rattle.ftp_talk.proofs.laws.without_extras_it_is_the_talk.Goals as goal

pub returns : goal.returns
returns c = record { without_extras = λ g edge desk sent hs plain. (plain-talk g edge desk sent hs plain, plain-front g edge desk sent hs plain) }
