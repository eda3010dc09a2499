-- The commands of the checker, and the words that ask for them.
use Rattle.std.specs.Prelude.{◌≡◌, ℕ, ◌^◌, ◌-◌, ◌<◌, List, [], ◌∷◌, length, min, slice_index, codes, Option, Some, None}
use Rattle.std.specs.Str.Parse.{AllDigits, digits_value}
use Rattle.ftp_check_log.specs.declared.telling.TheConstants.{CHECK_HELP, CHECK_VERSION}
use Rattle.ftp_check_log.specs.declared.command.CheckCommand.{CheckCommand}
use Rattle.ftp_check_log.specs.declared.command.CheckCommand.TheVariants as command

-- decimal digits without a sign or a leading zero
abbrev pub IsDecimal : List ℕ → Type 0
IsDecimal word = AllDigits 10 word × (0 < length word) × (slice_index word 0 ≡ 48 → length word ≡ 1)

-- the word spells this place; the greatest number of 64 bits stands for those above it too, as no log has so many entries
abbrev pub SpellsPlace : List ℕ → ℕ → Type 0
SpellsPlace word k = IsDecimal word × (k ≡ min (digits_value 10 word) (2 ^ 64 - 1))

-- these words are the command
abbrev pub AsksFor : List (List ℕ) → CheckCommand → Type 0
AsksFor words command.Check = words ≡ codes "check" ∷ []
AsksFor words (command.Why k) = (place : List ℕ) × (words ≡ codes "why" ∷ place ∷ []) × SpellsPlace place k
AsksFor words command.Help = words ≡ codes "--help" ∷ []
AsksFor words command.Version = words ≡ codes "--version" ∷ []

-- what is told where nothing is read
abbrev pub text_told : CheckCommand → Option (List ℕ)
text_told command.Check = None
text_told (command.Why k) = None
text_told command.Help = Some CHECK_HELP.now
text_told command.Version = Some CHECK_VERSION.now
