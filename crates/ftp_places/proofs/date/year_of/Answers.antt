use Rattle.std.proofs.Common.{◌/◌, arith}
use Rattle.ftp_places.proofs.DateLemmas.{days_before_year-suc, days_before_year-cycles, days_before_year-least, days_before_year-four_digits}
use Rattle.ftp_places.proofs.date.year_of.Goals as goal

pub loop-rest-init : goal.loop-rest-init
loop-rest-init c = omega (arith, days_before_year-cycles (c.args.number / 146097))

pub overflow_add-year : goal.overflow_add-year
overflow_add-year c = omega (arith, days_before_year-least c.loop-rest.year)

pub loop-rest-preserved : goal.loop-rest-preserved
loop-rest-preserved c = omega (arith, days_before_year-suc c.loop-rest.year)

pub returns-clause-year : goal.returns-clause-year
returns-clause-year c = days_before_year-four_digits c.loop-rest.year (omega arith)
