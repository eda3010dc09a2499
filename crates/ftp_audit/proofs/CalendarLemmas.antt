-- The date of a day is the one that the calendar has.
use Rattle.std.proofs.Common.{◌≡◌, refl, ◌∙◌, ap, ℕ, zero, suc, ◌+◌, ◌-◌, ◌<◌, ◌≤◌, true, false, inl, inr, add-one, arith}
use Rattle.std.specs.Prelude.{nat_lt}
use Rattle.std.proofs.lemmas.Bool.{cases_lt}
use Rattle.std.proofs.lemmas.Bool.Decides.{nat_tests}
use Rattle.ftp_places.specs.Date.{is_leap_year, days_of_year, days_of_month, days_before_year, days_of_months, IsDateOf}
use Rattle.ftp_audit.specs.Calendar.{year_at, month_at, date_in}

-- as many days lie before a day by the year that is found as before it was sought
year_at-found :
    (n year days : ℕ) → days_before_year year + days < days_before_year (year + n) →
    (days_before_year (year_at n year days).0 + (year_at n year days).1 ≡ days_before_year year + days)
    × ((year_at n year days).1 < days_of_year (year_at n year days).0)
unfolding year_at days_before_year
year_at-found zero year days within = let same : year + zero ≡ year = omega arith in absurd (omega (arith, rw same at within))
year_at-found (suc n) year days within = elim (cases_lt days (days_of_year year)) [
  | inl here ↦ let first : nat_lt days (days_of_year year) ≡ true = grind (arith, nat_tests, here) in rw first (refl, here)
  | inr later ↦
      let first : nat_lt days (days_of_year year) ≡ false = grind (arith, nat_tests, later) in
      let next : days_before_year (year + 1) ≡ days_before_year year + days_of_year year = rw add-one refl in
      let same : year + suc n ≡ year + 1 + n = omega arith in
      let found = year_at-found n (year + 1) (days - days_of_year year) (omega (arith, next, rw same at within)) in
      rw first (found.0 ∙ omega (arith, next), found.1)
]

-- so it is by the month
month_at-found :
    (n year before days : ℕ) → days_of_months year before + days < days_of_months year (before + n) →
    (days_of_months year ((month_at n year (before + 1) days).0 - 1) + (month_at n year (before + 1) days).1 ≡ days_of_months year before + days)
    × ((month_at n year (before + 1) days).1 < days_of_month year (month_at n year (before + 1) days).0)
    × (before < (month_at n year (before + 1) days).0)
    × ((month_at n year (before + 1) days).0 ≤ before + n)
unfolding month_at days_of_months
month_at-found zero year before days within = let same : before + zero ≡ before = omega arith in absurd (omega (arith, rw same at within))
month_at-found (suc n) year before days within = elim (cases_lt days (days_of_month year (before + 1))) [
  | inl here ↦
      let first : nat_lt days (days_of_month year (before + 1)) ≡ true = grind (arith, nat_tests, here) in
      let same : before + 1 - 1 ≡ before = omega arith in
      rw first (ap (λ (m : ℕ). days_of_months year m + days) same, here, omega arith, omega arith)
  | inr later ↦
      let first : nat_lt days (days_of_month year (before + 1)) ≡ false = grind (arith, nat_tests, later) in
      let next : days_of_months year (before + 1) ≡ days_of_months year before + days_of_month year (before + 1) = rw add-one refl in
      let same : before + suc n ≡ before + 1 + n = omega arith in
      let found = month_at-found n year (before + 1) (days - days_of_month year (before + 1)) (omega (arith, next, rw same at within)) in
      rw first (found.0 ∙ omega (arith, next), found.1, omega (arith, found.2), omega (arith, found.3))
]

-- the days before the first of these years, and before the next 400
cycle : (days_before_year 1970 ≡ 719528) × (days_before_year 2370 ≡ 719528 + 146097)
unfolding days_before_year
cycle = (refl, refl)

-- the months make up the year
all_months : (year : ℕ) → days_of_months year 12 ≡ days_of_year year
unfolding days_of_months
all_months year =
    elim (is_leap_year year) as (λ leap. is_leap_year year ≡ leap → days_of_months year 12 ≡ days_of_year year) [ true ↦ λ is. rw is refl | false ↦ λ is. rw is refl ] refl

pub is-date_in : (days : ℕ) → days < 146097 → IsDateOf (719528 + days) (date_in days)
unfolding days_of_months
is-date_in days few =
    let year = (year_at 400 1970 days).0 in
    let in_year = year_at-found 400 1970 days (omega (arith, cycle.0, cycle.1)) in
    let in_month = month_at-found 12 year 0 (year_at 400 1970 days).1 (omega (arith, all_months year, in_year.1)) in
    record {
      is_date = record {
        from_january = omega (arith, in_month.2);
        to_december = in_month.3;
        from_first = omega arith;
        to_last = omega (arith, in_month.1);
      };
      numbered = omega (arith, in_year.0, in_month.0, cycle.0);
    }
