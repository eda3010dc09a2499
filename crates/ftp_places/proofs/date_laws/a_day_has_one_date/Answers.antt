use Rattle.ftp_places.proofs.DateLemmas.{one_date}
use Rattle.ftp_places.proofs.date_laws.a_day_has_one_date.Goals as goal

pub returns : goal.returns
returns c = record { unique = one_date }
