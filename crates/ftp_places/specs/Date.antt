-- Dates of the Gregorian calendar, whose days are counted from the year 0 on.
use Rattle.std.specs.Prelude.{◌≡◌, ℕ, zero, suc, ◌+◌, ◌-◌, ◌%◌, ◌<◌, ◌≤◌, Bool, not, ◌&&◌, ◌||◌, ◌==◌, if◌then◌else◌}
use Rattle.ftp_places.specs.declared.date.Date.{Date}

-- one year in four, but of those that end a century one in four
abbrev pub is_leap_year : ℕ → Bool
is_leap_year year = (year % 4 == 0) && (not (year % 100 == 0) || (year % 400 == 0))

-- how many days a year has
abbrev pub days_of_year : ℕ → ℕ
days_of_year year = if is_leap_year year then 366 else 365

-- how many days a month of a year has
abbrev pub days_of_month : ℕ → ℕ → ℕ
days_of_month year month =
    if month == 2 then (if is_leap_year year then 29 else 28)
    else (if (month == 4) || (month == 6) || (month == 9) || (month == 11) then 30 else 31)

-- how many days the years before this one have
unfoldable pub days_before_year : ℕ → ℕ
days_before_year zero = 0
days_before_year (suc year) = days_before_year year + days_of_year year

-- how many days the first n months of a year have
unfoldable pub days_of_months : ℕ → ℕ → ℕ
days_of_months year zero = 0
days_of_months year (suc n) = days_of_months year n + days_of_month year (suc n)

-- the number of a date's day, which is 0 for the first of January of the year 0
abbrev pub day_number : Date → ℕ
day_number date = days_before_year date.year + days_of_months date.year (date.month - 1) + (date.day - 1)

-- the calendar has this date
pub record IsDate (date : Date) : Type 0 where
  pub from_january : 1 ≤ date.month
  pub to_december : date.month ≤ 12
  pub from_first : 1 ≤ date.day
  pub to_last : date.day ≤ days_of_month date.year date.month

-- the date of the day with this number
pub record IsDateOf (number : ℕ) (date : Date) : Type 0 where
  pub is_date : IsDate date
  pub numbered : day_number date ≡ number

-- each day has one date
abbrev pub HasOneDate : Type 0
HasOneDate = (number : ℕ) (a b : Date) → IsDateOf number a → IsDateOf number b → a ≡ b
