use Rattle.std.proofs.Common.{◌≡◌, ◌+◌}
use Rattle.ftp_places.specs.Date.{days_before_year}
use Rattle.ftp_places.proofs.date.year_of.Given as goal

abbrev pub invariant-loop-rest : goal.invariant-loop-rest
invariant-loop-rest l = days_before_year l.year + l.rest ≡ l.number

abbrev pub decreases-loop-rest : goal.decreases-loop-rest
decreases-loop-rest l = l.rest
