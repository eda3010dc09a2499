-- Days before years and months.
use Rattle.std.proofs.Common.{◌≡◌, ◌∙◌, ap, sym, refl, subst, ℕ, zero, suc, ◌+◌, ◌-◌, ◌*◌, ◌/◌, ◌%◌, ◌<◌, ◌≤◌, Bool, true, false, if◌then◌else◌, inl, inr, arith}
use Rattle.std.proofs.lemmas.Bool.{cases_lt}
use Rattle.ftp_places.specs.declared.date.Date.{Date}
use Rattle.ftp_places.specs.Date.{is_leap_year, days_of_year, days_of_month, days_before_year, days_of_months, day_number, IsDate, IsDateOf, HasOneDate}

-- the days of one more year
pub days_before_year-suc : (year : ℕ) → days_before_year (year + 1) ≡ days_before_year year + days_of_year year
unfolding days_before_year
days_before_year-suc year = let next : year + 1 ≡ suc year = omega arith in rw next refl

-- the days of one more month
pub days_of_months-suc : (year n : ℕ) → days_of_months year (n + 1) ≡ days_of_months year n + days_of_month year (n + 1)
unfolding days_of_months
days_of_months-suc year n = let next : n + 1 ≡ suc n = omega arith in rw next refl

-- the days of no month
pub days_of_months-0 : (year : ℕ) → days_of_months year 0 ≡ 0
unfolding days_of_months
days_of_months-0 year = refl

if_leap : (leap : Bool) → 365 ≤ (if leap then 366 else 365)
if_leap true = omega arith
if_leap false = omega arith

-- a year is not short
pub days_of_year-least : (year : ℕ) → 365 ≤ days_of_year year
days_of_year-least year = if_leap (is_leap_year year)

-- the months make up the year
pub days_of_months-12 : (year : ℕ) → days_of_months year 12 ≡ days_of_year year
unfolding days_of_months
days_of_months-12 year = by (is_leap_year year) refl
  where
    by : (leap : Bool) → is_leap_year year ≡ leap → days_of_months year 12 ≡ days_of_year year
    by true is = rw is refl
    by false is = rw is refl

-- the calendar of four hundred years comes again
is_leap_year-400 : (year : ℕ) → is_leap_year (400 + year) ≡ is_leap_year year
is_leap_year-400 year =
    let by_4 : (400 + year) % 4 ≡ year % 4 = omega arith in
    let by_100 : (400 + year) % 100 ≡ year % 100 = omega arith in
    let by_400 : (400 + year) % 400 ≡ year % 400 = omega arith in
    rw (by_4, by_100, by_400) refl

days_before_year-400 : days_before_year 400 ≡ 146097
unfolding days_before_year
days_before_year-400 = refl

-- the days of four hundred years and some more
pub days_before_year-later : (year : ℕ) → days_before_year (400 + year) ≡ 146097 + days_before_year year
unfolding days_before_year
days_before_year-later zero = days_before_year-400
days_before_year-later (suc year) =
    let next : 400 + suc year ≡ suc (400 + year) = omega arith in
    let days : days_before_year (400 + year) ≡ 146097 + days_before_year year = days_before_year-later year in
    let same : days_of_year (400 + year) ≡ days_of_year year = ap (λ (leap : Bool). if leap then 366 else 365) (is_leap_year-400 year) in
    rw (next, days, same) (omega arith)

-- the days of some four hundreds of years
pub days_before_year-cycles : (n : ℕ) → days_before_year (400 * n) ≡ 146097 * n
unfolding days_before_year
days_before_year-cycles zero = refl
days_before_year-cycles (suc n) =
    let next : 400 * suc n ≡ 400 + 400 * n = omega arith in
    let days : days_before_year (400 * n) ≡ 146097 * n = days_before_year-cycles n in
    rw next (days_before_year-later (400 * n) ∙ rw days (omega arith))

-- more years have more days
pub days_before_year-more : (year n : ℕ) → days_before_year year + 365 * n ≤ days_before_year (year + n)
unfolding days_before_year
days_before_year-more year zero = let same : year + zero ≡ year = omega arith in rw same (omega arith)
days_before_year-more year (suc n) =
    let next : year + suc n ≡ suc (year + n) = omega arith in
    let least = days_of_year-least (year + n) in
    let more = days_before_year-more year n in
    rw next (omega arith)

-- no year is short
pub days_before_year-least : (year : ℕ) → 365 * year ≤ days_before_year year
days_before_year-least year =
    let same : 0 + year ≡ year = omega arith in
    let more = rw same at (days_before_year-more 0 year) in
    omega arith

-- a year with fewer days before it has at most four digits
pub days_before_year-four_digits : (year : ℕ) → days_before_year year < 3652425 → year < 10000
days_before_year-four_digits year few = elim (cases_lt year 10000) [
  | inl low ↦ low
  | inr late ↦
      let same : 10000 + (year - 10000) ≡ year = omega arith in
      let more = rw same at (days_before_year-more 10000 (year - 10000)) in
      let first : days_before_year 10000 ≡ 3652425 = days_before_year-cycles 25 in
      absurd (omega arith)
]

-- a month that ends before a day of the year is not the last
pub month-next : (year month place : ℕ) → days_of_months year month ≤ place → place < days_of_year year → month ≤ 12 → month + 1 ≤ 12
month-next year month place before within real = elim (cases_lt month 12) [
  | inl low ↦ omega arith
  | inr late ↦
      let december : month ≡ 12 = omega arith in
      let whole = rw december at before in
      absurd (omega (arith, days_of_months-12 year))
]

-- more months have more days
days_of_months-more : (year n k : ℕ) → days_of_months year n ≤ days_of_months year (n + k)
unfolding days_of_months
days_of_months-more year n zero = let same : n + zero ≡ n = omega arith in rw same (omega arith)
days_of_months-more year n (suc k) =
    let next : n + suc k ≡ suc (n + k) = omega arith in
    let more = days_of_months-more year n k in
    rw next (omega arith)

-- the days of the year before a date of it
abbrev place : Date → ℕ
place date = days_of_months date.year (date.month - 1) + (date.day - 1)

-- a date lies within its month
place-month : (date : Date) → IsDate date → place date < days_of_months date.year date.month
place-month date real =
    let same : date.month - 1 + 1 ≡ date.month = omega arith in
    let days = rw same at (days_of_months-suc date.year (date.month - 1)) in
    omega arith

-- a date lies within its year
place-year : (date : Date) → IsDate date → place date < days_of_year date.year
place-year date real =
    let same : date.month + (12 - date.month) ≡ 12 = omega arith in
    let more = rw same at (days_of_months-more date.year date.month (12 - date.month)) in
    omega (arith, place-month date real, days_of_months-12 date.year)

-- a date of an earlier year has an earlier day
before-year : (a b : Date) → IsDate a → a.year < b.year → day_number a < day_number b
before-year a b real earlier =
    let same : a.year + 1 + (b.year - (a.year + 1)) ≡ b.year = omega arith in
    let more = rw same at (days_before_year-more (a.year + 1) (b.year - (a.year + 1))) in
    omega (arith, days_before_year-suc a.year, place-year a real)

-- a date of an earlier month has an earlier place
before-month : (year m n d e : ℕ) → d < days_of_month year m → 1 ≤ m → m < n → days_of_months year (m - 1) + d < days_of_months year (n - 1) + e
before-month year m n d e within real earlier =
    let same : m + (n - 1 - m) ≡ n - 1 = omega arith in
    let more = rw same at (days_of_months-more year m (n - 1 - m)) in
    let next : m - 1 + 1 ≡ m = omega arith in
    let days = rw next at (days_of_months-suc year (m - 1)) in
    omega arith

same_year : (a b : Date) → IsDate a → IsDate b → day_number a ≡ day_number b → a.year ≡ b.year
same_year a b real also same = elim (cases_lt a.year b.year) [
  | inl earlier ↦ absurd (omega (arith, before-year a b real earlier))
  | inr up ↦ elim (cases_lt b.year a.year) [
    | inl later ↦ absurd (omega (arith, before-year b a also later))
    | inr down ↦ omega arith
  ]
]

-- two dates of one year with the same place have the same month and day
same_day : (year m d n e : ℕ) → IsDate (record { year = year; month = m; day = d }) → IsDate (record { year = year; month = n; day = e }) →
    days_of_months year (m - 1) + (d - 1) ≡ days_of_months year (n - 1) + (e - 1) → (m ≡ n) × (d ≡ e)
same_day year m d n e real also same = elim (cases_lt m n) [
  | inl earlier ↦ absurd (omega (arith, before-month year m n (d - 1) (e - 1) (omega arith) (omega arith) earlier))
  | inr up ↦ elim (cases_lt n m) [
    | inl later ↦ absurd (omega (arith, before-month year n m (e - 1) (d - 1) (omega arith) (omega arith) later))
    | inr down ↦ let month : m ≡ n = omega arith in let days = rw month at same in (month, omega arith)
  ]
]

-- each day has one date
pub one_date : HasOneDate
one_date number a b of_a of_b =
    let same : day_number a ≡ day_number b = of_a.numbered ∙ sym of_b.numbered in
    let year : a.year ≡ b.year = same_year a b of_a.is_date of_b.is_date same in
    let also : IsDate (record { year = a.year; month = b.month; day = b.day }) =
    subst (λ (y : ℕ). IsDate (record { year = y; month = b.month; day = b.day })) (sym year) of_b.is_date
    in
    let places = rw (← year) at same in
    let parts = same_day a.year a.month a.day b.month b.day of_a.is_date also (omega arith) in
    λ i. record { year = year i; month = parts.0 i; day = parts.1 i }
