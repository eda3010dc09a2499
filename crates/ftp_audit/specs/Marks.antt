-- Running sums, each at the place of the entry that led to them, the oldest first.
use Rattle.std.specs.Prelude.{ℕ, ◌≤◌, nat_lt, List, [], ◌∷◌, filter, Option, Some, None}
use Rattle.std.specs.List.{AllByRecursion}
use Rattle.ftp_audit.specs.declared.account.Mark.{Mark}
use Rattle.ftp_audit.specs.declared.total.Total.{Total}
use Rattle.ftp_audit.specs.Totals.{nothing, plus}

-- the sums of the newest mark, or these where there is none
abbrev pub newest : Total → List Mark → Total
newest sums [] = sums
newest sums (m ∷ marks) = newest m.sums marks

-- the marks of entries below a place
abbrev pub below : ℕ → List Mark → List Mark
below place marks = filter (λ m. nat_lt m.place place) marks

-- what the marks below a place have come to
abbrev pub reached : List Mark → ℕ → Total
reached marks place = newest nothing (below place marks)

-- no mark is above a place
abbrev pub UpTo : ℕ → List Mark → Type 0
UpTo place marks = AllByRecursion (λ m. m.place ≤ place) marks

-- one mark more, for what was told at a place
abbrev pub next : List Mark → ℕ → Total → Mark
next marks place more = record { place = place; sums = plus (newest nothing marks) more }

-- all that marks tell, or nothing where there are none
abbrev pub total_of : List Mark → Option Total
total_of [] = None
total_of (m ∷ marks) = Some (newest m.sums marks)
