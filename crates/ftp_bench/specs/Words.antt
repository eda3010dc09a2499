-- The words of the program.
use Rattle.std.specs.Prelude.{◌≡◌, ℕ, ◌^◌, ◌<◌, IsTrue, List, [], ◌∷◌, Option, Some, codes}
use Rattle.std.specs.Map.{lookup}
use Rattle.std.specs.Str.{bytes_eq}
use Rattle.ftp_base.specs.Decimal.{decimal_below}
use Rattle.ftp_bench.specs.declared.command.Kind.{Kind}
use Rattle.ftp_bench.specs.declared.command.Kind.TheVariants.{Retr, Stor, Quota, Copy}
use Rattle.ftp_bench.specs.declared.command.Command.{Command}
use Rattle.ftp_bench.specs.declared.command.Search.{Search}
use Rattle.ftp_bench.specs.declared.command.Appends.{Appends}
use Rattle.ftp_bench.specs.declared.command.Crew.TheVariants.{One, Two, Four}
use Rattle.ftp_bench.specs.declared.command.Way.{Way}
use Rattle.ftp_bench.specs.declared.command.Way.TheVariants.{Run, Log, Shared}
use Rattle.ftp_bench.specs.declared.command.Command.TheVariants.{Help, Version, Talk, Move, Reserve, Append}

-- what a word says is moved
unfoldable pub kind_of : List ℕ → Option Kind
kind_of word =
    lookup (λ name. bytes_eq name word) ((codes "retr", Retr) ∷ (codes "stor", Stor) ∷ (codes "quota", Quota) ∷ (codes "copy", Copy) ∷ [])

-- whose hub a word says takes the events
unfoldable pub way_of : List ℕ → Option Way
way_of word =
    lookup (λ name. bytes_eq name word)
    ((codes "run", Run) ∷ (codes "log", Log) ∷ (codes "one", Shared One) ∷ (codes "two", Shared Two) ∷ (codes "four", Shared Four) ∷ [])

-- what a word by itself asks for
unfoldable pub command_of : List ℕ → Option Command
command_of word = lookup (λ name. bytes_eq name word) ((codes "--help", Help) ∷ (codes "--version", Version) ∷ [])

-- a word is a number below a limit in decimal digits, without a sign or a leading zero
unfoldable pub IsNumber : ℕ → List ℕ → ℕ → Type 0
IsNumber limit word n = (decimal_below (2 ^ 64) word ≡ Some n) × (n < limit)

-- the words ask for the held ports from one on and below another, the word, and so many rounds
abbrev pub AsksSearch : List ℕ → List ℕ → List ℕ → List ℕ → Search → Type 0
AsksSearch first end word rounds search =
    IsNumber (2 ^ 16) first search.first × IsNumber (2 ^ 16) end search.end × IsNumber (2 ^ 16) word search.word × IsNumber (2 ^ 16) rounds search.rounds

-- the words ask for this way, so many sessions, and so many rounds
abbrev pub AsksAppends : List ℕ → List ℕ → List ℕ → Appends → Type 0
AsksAppends way sessions rounds appends =
    (way_of way ≡ Some appends.way) × IsNumber (2 ^ 24) sessions appends.sessions × IsNumber (2 ^ 24) rounds appends.rounds

-- the words behind the program's name ask for the command
abbrev pub Asks : List (List ℕ) → Command → Type 0
Asks (word ∷ []) command = command_of word ≡ Some command
Asks (name ∷ packets ∷ []) (Talk n) = IsTrue (bytes_eq name (codes "talk")) × IsNumber (2 ^ 16) packets n
Asks (kind ∷ mebibytes ∷ rounds ∷ []) (Move load) =
    (kind_of kind ≡ Some load.kind) × IsNumber (2 ^ 8) mebibytes load.mebibytes × IsNumber (2 ^ 16) rounds load.rounds
Asks (name ∷ way ∷ sessions ∷ rounds ∷ []) (Append appends) = IsTrue (bytes_eq name (codes "append")) × AsksAppends way sessions rounds appends
Asks (name ∷ first ∷ end ∷ word ∷ rounds ∷ []) (Reserve search) = IsTrue (bytes_eq name (codes "reserve")) × AsksSearch first end word rounds search
Asks _ _ = ⊥
