-- The moments at which files were changed, as listings tell them: seconds from the beginning of the year 0, in UTC.
use Rattle.std.specs.Prelude.{◌≡◌, ℕ, suc, ◌+◌, ◌-◌, ◌*◌, ◌/◌, ◌%◌, Bool, ◌&&◌, nat_le, List, [], ◌∷◌, ◌++◌, length, get_or, replicate, min, codes, decimal, ℤ, pos, negsuc, if◌then◌else◌}
use Rattle.ftp_places.specs.declared.date.Date.{Date}
use Rattle.ftp_places.specs.Date.{IsDateOf}

-- the seconds of a day
abbrev pub day_seconds : ℕ
day_seconds = 86400

-- the number of the first of January of 1970
abbrev pub day_1970 : ℕ
day_1970 = 719528

-- the number of the first of January of the year 10000
abbrev pub day_10000 : ℕ
day_10000 = 3652425

-- the moment so many seconds after 1970 or before it, or the nearest of the years 0 to 9999
abbrev pub moment_of : ℤ → ℕ
moment_of (pos n) = min (day_1970 * day_seconds + n) (day_10000 * day_seconds - 1)
moment_of (negsuc n) = day_1970 * day_seconds - suc n

-- the date of a moment
abbrev pub IsDateAt : ℕ → Date → Type 0
IsDateAt moment date = IsDateOf (moment / day_seconds) date

-- the hour of a moment
abbrev pub hour : ℕ → ℕ
hour moment = moment / 3600 % 24

-- the minute of a moment
abbrev pub minute : ℕ → ℕ
minute moment = moment / 60 % 60

-- the moment lies in the half year before now
abbrev pub is_recent : ℕ → ℕ → Bool
is_recent moment now = nat_le moment now && nat_le (now - moment) (182 * day_seconds)

-- a number in so many digits
abbrev pub in_digits : ℕ → ℕ → List ℕ
in_digits width n = replicate (width - length (decimal n)) 48 ++ decimal n

-- the short names of months
abbrev pub month_names : List (List ℕ)
month_names =
    codes "Jan" ∷ codes "Feb" ∷ codes "Mar" ∷ codes "Apr" ∷ codes "May" ∷ codes "Jun"
    ∷ codes "Jul" ∷ codes "Aug" ∷ codes "Sep" ∷ codes "Oct" ∷ codes "Nov" ∷ codes "Dec" ∷ []

-- the short name of a month
abbrev pub month_name : ℕ → List ℕ
month_name month = get_or month_names (month - 1) []

-- a moment of this date as `YYYYMMDDHHMMSS` (RFC 3659, section 2.3)
abbrev pub time_val : Date → ℕ → List ℕ
time_val date moment =
    in_digits 4 date.year ++ in_digits 2 date.month ++ in_digits 2 date.day
    ++ in_digits 2 (hour moment) ++ in_digits 2 (minute moment) ++ in_digits 2 (moment % 60)

-- a moment of this date as LIST shows it: month and day, and the time of day if it is recent, else the year
abbrev pub list_date : Date → ℕ → ℕ → List ℕ
list_date date moment now =
    month_name date.month ++ codes " " ++ in_digits 2 date.day ++ codes " "
    ++ (if is_recent moment now then in_digits 2 (hour moment) ++ codes ":" ++ in_digits 2 (minute moment) else codes " " ++ in_digits 4 date.year)
