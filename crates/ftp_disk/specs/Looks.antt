-- How what stands at a place looks in a listing.
use Rattle.std.specs.Prelude.{◌≡◌, ℕ, ◌==◌, List, [], ◌∷◌, map, Option, Ok, Err, IsSomeAnd, codes, ℤ, if◌then◌else◌}
use Rattle.std.specs.Fs.{metadata_mode}
use Rattle.std.specs.Int.{bit_at}
use Rattle.std.specs.List.{zip}
use Rattle.ftp_base.specs.declared.storage.Looks.{Looks}
use Rattle.ftp_places.specs.declared.date.Date.{Date}
use Rattle.ftp_places.specs.Moment.{IsDateAt, moment_of, list_date, time_val}
use Rattle.ftp_disk.specs.FileSystem.{Answer}

-- who may do what by a mode: the letter of each right whose bit is set
abbrev pub rights_text : ℕ → List ℕ
rights_text mode =
    map (λ right. if bit_at mode right.0 == 1 then right.1 else 45)
    (zip (8 ∷ 7 ∷ 6 ∷ 5 ∷ 4 ∷ 3 ∷ 2 ∷ 1 ∷ 0 ∷ []) (codes "rwxrwxrwx"))

-- the looks of what has this mode and was changed at this moment, now
pub record AreLooks (mode changed now : ℕ) (looks : Looks) : Type 0 where
  pub date : Date
  pub dated : IsDateAt changed date
  pub rights : looks.mode ≡ rights_text mode
  pub shown : looks.shown ≡ list_date date changed now
  pub modify : looks.modify ≡ time_val date changed

-- the looks are those of the mode that the system tells, and of two moments, of which no clause of the system speaks
abbrev pub ShowsLooks : Answer → Option Looks → Type 0
ShowsLooks (Ok found) looks =
    (changed now : ℤ) × IsSomeAnd looks (AreLooks (metadata_mode found) (moment_of changed) (moment_of now))
ShowsLooks (Err error) looks = Unit {0}
