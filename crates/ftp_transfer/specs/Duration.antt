-- Durations for people.
use Rattle.std.specs.Prelude.{ℕ, ◌/◌, ◌%◌, ◌==◌, List, ◌++◌, codes, decimal, if◌then◌else◌}

-- milliseconds
abbrev pub millis : ℕ → List ℕ
millis l = decimal l ++ codes "ms"

-- seconds, where there are any, and what is less
abbrev pub seconds : ℕ → ℕ → List ℕ
seconds s l = if s == 0 then millis l else decimal s ++ codes "s " ++ millis l

-- minutes, where there are any, and what is less
abbrev pub minutes : ℕ → ℕ → ℕ → List ℕ
minutes m s l = if m == 0 then seconds s l else decimal m ++ codes "m " ++ decimal s ++ codes "s " ++ millis l

-- hours, minutes, seconds and milliseconds, without the leading ones that are zero
abbrev pub duration_text : ℕ → List ℕ
duration_text n =
    let h = n / 3600000 in
    let m = n / 60000 % 60 in
    let s = n / 1000 % 60 in
    let l = n % 1000 in
    if h == 0 then minutes m s l else decimal h ++ codes "h " ++ decimal m ++ codes "m " ++ decimal s ++ codes "s " ++ millis l
