use Rattle.std.proofs.Common.{◌≡◌, ◌+◌, ◌-◌, arith}
use Rattle.ftp_places.proofs.DateLemmas.{days_of_months-0, days_of_months-suc, month-next}
use Rattle.ftp_places.proofs.date.month_of.Goals as goal

pub loop-rest-init : goal.loop-rest-init
loop-rest-init c = (omega (arith, days_of_months-0 c.args.year), omega arith, omega arith)

pub loop-rest-preserved : goal.loop-rest-preserved
loop-rest-preserved c =
    let year = c.args.year in
    let month = c.loop-rest.month in
    let same : month - 1 + 1 ≡ month = omega arith in
    let next : month + 1 - 1 ≡ month = omega arith in
    let days = rw same at (days_of_months-suc year (month - 1)) in (
      rw next (omega arith),
      omega arith,
      month-next year month c.args.place (omega arith) (omega arith) (omega arith),
    )
