use Rattle.std.proofs.Common.{◌≡◌, ◌∙◌, ap, sym, refl, ℕ, List, [], ◌∷◌, ◌++◌, arith}
use Rattle.ftp_places.specs.Moment.{hour, minute}
use Rattle.ftp_places.proofs.DigitLemmas.{in_digits-2, in_digits-4}
use Rattle.ftp_places.proofs.moment.list_date.Goals as goal

pub returns-then-is_recent : goal.returns-then-is_recent
returns-then-is_recent c =
    let date = c.args.date in
    let moment = c.args.moment in
    let recent = sym c.is_recent.ensures ∙ c.if-is_recent.true in
    record {
      text = rw (
        ← c.month_name-first.ensures,
        recent,
        in_digits-2 date.day c.requires.day,
        in_digits-2 (hour moment) (omega arith),
        in_digits-2 (minute moment) (omega arith),
        c.digit-tens.ensures,
        c.digit-ones.ensures,
        c.digit.ensures,
        c.digit-then-is_recent.ensures,
        c.digit-then-is_recent-2.ensures,
        c.digit-then-is_recent-3.ensures,
        c.hour-hour.ensures,
        c.minute-minute.ensures,
      ) refl;
    }

pub returns-else-is_recent : goal.returns-else-is_recent
returns-else-is_recent c =
    let date = c.args.date in
    let old = sym c.is_recent.ensures ∙ c.if-is_recent.false in
    record {
      text = rw (
        ← c.month_name-first.ensures,
        old,
        in_digits-2 date.day c.requires.day,
        in_digits-4 date.year c.requires.year,
        c.digit-tens.ensures,
        c.digit-ones.ensures,
        c.digit-else-is_recent.ensures,
        c.digit-else-is_recent-2.ensures,
        c.digit-else-is_recent-3.ensures,
        c.digit-else-is_recent-4.ensures,
      ) refl;
    }
