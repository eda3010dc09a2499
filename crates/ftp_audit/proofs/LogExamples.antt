-- Worked days.
use Rattle.std.proofs.Common.{◌≡◌, refl, ℕ, [], ◌∷◌, map}
use Rattle.ftp_places.specs.declared.date.Date.{Date}
use Rattle.ftp_audit.specs.Calendar.{date_of, month_at, year_at}

date : ℕ → ℕ → ℕ → Date
date year month day = record { year = year; month = month; day = day }

-- the first day, the last one of a leap year, the 29th of February of 2000, the day behind the 28th of 2100, and 400 years after the first day
days : map date_of (0 ∷ 1095 ∷ 11016 ∷ 47541 ∷ 146097 ∷ []) ≡ date 1970 1 1 ∷ date 1972 12 31 ∷ date 2000 2 29 ∷ date 2100 3 1 ∷ date 2370 1 1 ∷ []
unfolding year_at month_at date
days = refl
