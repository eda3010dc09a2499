use Rattle.std.proofs.Common.{◌/◌, ◌%◌, refl, arith}
use Rattle.ftp_places.specs.Moment.{hour, minute}
use Rattle.ftp_places.proofs.DigitLemmas.{in_digits-2, in_digits-4}
use Rattle.ftp_places.proofs.moment.time_val.Goals as goal

pub returns : goal.returns
returns c =
    let moment = c.args.moment in
    record {
      text = rw (
        in_digits-4 c.args.date.year c.requires.year,
        in_digits-2 c.args.date.month c.requires.month,
        in_digits-2 c.args.date.day c.requires.day,
        in_digits-2 (hour moment) (omega arith),
        in_digits-2 (minute moment) (omega arith),
        in_digits-2 (moment % 60) (omega arith),
        c.digit.ensures,
        c.digit-2.ensures,
        c.digit-3.ensures,
        c.digit-4.ensures,
        c.digit-5.ensures,
        c.digit-6.ensures,
        c.digit-7.ensures,
        c.digit-8.ensures,
        c.digit-9.ensures,
        c.digit-10.ensures,
        c.digit-11.ensures,
        c.digit-12.ensures,
        c.digit-13.ensures,
        c.digit-14.ensures,
        c.hour-hour.ensures,
        c.minute-minute.ensures,
      ) refl;
    }
