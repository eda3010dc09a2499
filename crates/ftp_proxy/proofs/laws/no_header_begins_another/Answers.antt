use Rattle.ftp_proxy.proofs.HeaderLaws.{one_header}
use Rattle.ftp_proxy.proofs.laws.no_header_begins_another.Goals as goal

pub returns : goal.returns
returns c = λ a b x y h k p q same. one_header a b x y h k p q same
