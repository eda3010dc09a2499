use Rattle.std.proofs.Common.{◌≡◌, ap, ◌+◌, ◌*◌, arith}
use Rattle.std.specs.Prelude.{◌/◌, ◌%◌}
use Rattle.ftp_places.specs.declared.date.Date.{Date}
use Rattle.ftp_audit.specs.Calendar.{date_in}
use Rattle.ftp_audit.proofs.CalendarLemmas.{is-date_in}
use Rattle.ftp_audit.proofs.calendar.date_of.Goals as goal

pub returns : goal.returns
returns c =
    let r = c.args.days % 146097 in
    let number : (719528 + r) * 86400 / 86400 ≡ 719528 + r = omega arith in
    let same = c.a_day_has_one_date.ensures.unique (719528 + r) c.date_at-date.result (date_in r) (rw number at c.date_at-date.ensures.date) (is-date_in r (omega arith)) in
    ap (λ (date : Date). record date { year = date.year + 400 * (c.args.days / 146097) }) same
