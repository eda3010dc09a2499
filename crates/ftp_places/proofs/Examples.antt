-- Worked examples of dates and moments. The days are those that Python's `datetime` counts.
use Rattle.std.proofs.Common.{◌≡◌, ◌+◌, ◌-◌, ◌*◌, refl, codes, pos, negsuc}
use Rattle.std.specs.Fmt.{digits}
use Rattle.ftp_places.specs.Date.{day_number, days_before_year, days_of_months}
use Rattle.ftp_places.specs.Moment.{day_1970, day_10000, moment_of, time_val, list_date}

first_of_1970 : day_number (record { year = 1970; month = 1; day = 1 }) ≡ day_1970
unfolding days_before_year days_of_months
first_of_1970 = refl

-- a leap day at the end of a century
last_of_february_2000 : day_number (record { year = 2000; month = 2; day = 29 }) ≡ day_1970 + 11016
unfolding days_before_year days_of_months
last_of_february_2000 = refl

before_1970 : moment_of (negsuc 0) ≡ day_1970 * 86400 - 1
before_1970 = refl

-- 2020-11-28 13:57:00
time_in_2020 : time_val (record { year = 2020; month = 11; day = 28 }) (moment_of (pos 1606571820)) ≡ codes "20201128135700"
unfolding digits
time_in_2020 = refl

-- on the same day, and five years later
date_in_2020 : list_date (record { year = 2020; month = 11; day = 28 }) (moment_of (pos 1606571820)) (moment_of (pos 1606571820)) ≡ codes "Nov 28 13:57"
unfolding digits
date_in_2020 = refl

date_of_2020 : list_date (record { year = 2020; month = 11; day = 28 }) (moment_of (pos 1606571820)) (moment_of (pos 1764338220)) ≡ codes "Nov 28  2020"
unfolding digits
date_of_2020 = refl
