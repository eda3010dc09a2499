use Rattle.std.proofs.Common.{◌≡◌, ◌+◌, ◌-◌, ◌≤◌}
use Rattle.ftp_places.specs.Date.{days_of_months}
use Rattle.ftp_places.proofs.date.month_of.Given as goal

abbrev pub invariant-loop-rest : goal.invariant-loop-rest
invariant-loop-rest l = (days_of_months l.year (l.month - 1) + l.rest ≡ l.place) × (1 ≤ l.month) × (l.month ≤ 12)

abbrev pub decreases-loop-rest : goal.decreases-loop-rest
decreases-loop-rest l = l.rest
