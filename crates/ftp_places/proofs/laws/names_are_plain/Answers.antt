use Rattle.ftp_places.proofs.PlainLemmas.{names_of-plain}
use Rattle.ftp_places.proofs.laws.names_are_plain.Goals as goal

pub returns : goal.returns
returns c = record { plain = names_of-plain }
