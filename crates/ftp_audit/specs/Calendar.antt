-- Days and times of day, UTC, in the calendar that leaves out three leap years in four hundred.
use Rattle.std.specs.Prelude.{ℕ, zero, suc, ◌+◌, ◌-◌, ◌*◌, ◌/◌, ◌%◌, ◌==◌, nat_lt, List, [], ◌∷◌, ◌++◌, codes, decimal, if◌then◌else◌}
use Rattle.ftp_places.specs.declared.date.Date.{Date}
use Rattle.ftp_places.specs.Date.{days_of_year, days_of_month}

-- the year in which a day lies, counted from the first day of a year on, and how many days of it lie before; so many years are tried
unfoldable pub year_at : ℕ → ℕ → ℕ → ℕ × ℕ
year_at zero year days = (year, days)
year_at (suc n) year days = if nat_lt days (days_of_year year) then (year, days) else year_at n (year + 1) (days - days_of_year year)

-- the month of a year in which a day lies, counted from the first day of a month on, and how many days of it lie before; so many
-- months are tried
unfoldable pub month_at : ℕ → ℕ → ℕ → ℕ → ℕ × ℕ
month_at zero year month days = (month, days)
month_at (suc n) year month days =
    if nat_lt days (days_of_month year month) then (month, days) else month_at n year (month + 1) (days - days_of_month year month)

-- the date of a day of the 400 years from 1970 on
abbrev pub date_in : ℕ → Date
date_in days =
    let in_year = year_at 400 1970 days in
    let in_month = month_at 12 in_year.0 1 in_year.1 in
    record { year = in_year.0; month = in_month.0; day = in_month.1 + 1 }

-- the date of a day that is counted from the first day of 1970: each 400 years have 146,097 days
abbrev pub date_of : ℕ → Date
date_of days = let date = date_in (days % 146097) in record date { year = date.year + 400 * (days / 146097) }

-- the last two digits of a number
abbrev pub two : ℕ → List ℕ
two n = (48 + n / 10 % 10) ∷ (48 + n % 10) ∷ []

-- the hour, the minute and the second of a moment, which is in milliseconds since the first day of 1970
abbrev pub clock_text : ℕ → List ℕ
clock_text moment = two (moment / 3600000 % 24) ++ 58 ∷ two (moment / 60000 % 60) ++ 58 ∷ two (moment / 1000 % 60)

-- the day of a moment
abbrev pub day_of : ℕ → ℕ
day_of moment = moment / 86400000

-- a date with hyphens (ISO 8601)
abbrev pub date_text : Date → List ℕ
date_text date = decimal date.year ++ 45 ∷ two date.month ++ 45 ∷ two date.day

-- a moment with its milliseconds (ISO 8601)
unfoldable pub iso_text : ℕ → List ℕ
iso_text moment =
    date_text (date_of (day_of moment)) ++ 84 ∷ clock_text moment ++ 46 ∷ (48 + moment / 100 % 10) ∷ two (moment % 100) ++ 90 ∷ []

-- the names of the days of the week, of which the first day of 1970 was a Thursday
abbrev pub weekday_text : ℕ → List ℕ
weekday_text days = weekday (days % 7)
  where
    weekday : ℕ → List ℕ
    weekday n =
        if n == 0 then codes "Thu" else if n == 1 then codes "Fri" else if n == 2 then codes "Sat" else if n == 3 then codes "Sun"
        else if n == 4 then codes "Mon" else if n == 5 then codes "Tue" else codes "Wed"

-- the names of the months
abbrev pub month_text : ℕ → List ℕ
month_text n =
    if n == 1 then codes "Jan" else if n == 2 then codes "Feb" else if n == 3 then codes "Mar" else if n == 4 then codes "Apr"
    else if n == 5 then codes "May" else if n == 6 then codes "Jun" else if n == 7 then codes "Jul" else if n == 8 then codes "Aug"
    else if n == 9 then codes "Sep" else if n == 10 then codes "Oct" else if n == 11 then codes "Nov" else codes "Dec"

-- the number of a day in two places
abbrev pub padded_day : ℕ → List ℕ
padded_day n = if nat_lt n 10 then 32 ∷ (48 + n) ∷ [] else two n

-- a moment as C's ctime writes it
unfoldable pub ctime_text : ℕ → List ℕ
ctime_text moment =
    let date = date_of (day_of moment) in
    weekday_text (day_of moment) ++ 32 ∷ month_text date.month ++ 32 ∷ padded_day date.day ++ 32 ∷ clock_text moment ++ 32 ∷ decimal date.year
