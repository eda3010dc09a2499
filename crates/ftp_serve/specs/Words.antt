-- The words of the program.
--   IsMode word mode       the word names the mode
--   Asks words command     the words behind the program's name ask for the command
use Rattle.std.specs.Prelude.{◌≡◌, ℕ, ◌^◌, ◌≤◌, IsSomeAnd, List, [], ◌∷◌, ◌++◌, Option, Some, None, codes}
use Rattle.std.specs.Map.{lookup}
use Rattle.std.specs.Str.{bytes_eq}
use Rattle.ftp_options.specs.declared.options.ListenerMode.{ListenerMode}
use Rattle.ftp_options.specs.declared.options.ListenerMode.TheVariants.{Legacy, Pooled, Proxy}
use Rattle.ftp_base.specs.Decimal.{decimal_below}
use Rattle.ftp_serve.specs.declared.command.Command.{Command}
use Rattle.ftp_serve.specs.declared.service.Service.{Service}
use Rattle.ftp_serve.specs.declared.command.Command.TheVariants.{Help, Version, Serve}

-- what a word by itself asks for
unfoldable pub command_of : List ℕ → Option Command
command_of word = lookup (λ name. bytes_eq name word) ((codes "--help", Help) ∷ (codes "--version", Version) ∷ [])

-- a word is a port in decimal digits, of which a zero leads no other
abbrev pub IsPort : List ℕ → ℕ → Type 0
IsPort word port = decimal_below 65536 word ≡ Some port

-- a word names a mode; behind a proxy it has the control port behind a colon
abbrev pub IsMode : List ℕ → ListenerMode → Type 0
IsMode word Legacy = word ≡ codes "legacy"
IsMode word Pooled = word ≡ codes "pooled"
IsMode word (Proxy port) = (digits : List ℕ) × (word ≡ codes "proxy:" ++ digits) × IsPort digits port

-- a word is a number from 1 on, in decimal digits, of which a zero leads no other
abbrev pub IsCount : List ℕ → ℕ → Type 0
IsCount word n = (decimal_below (2 ^ 64) word ≡ Some n) × (1 ≤ n)

-- a word is so many, where there is one
abbrev pub IsEvery : Option (List ℕ) → Option ℕ → Type 0
IsEvery None every = every ≡ None
IsEvery (Some word) every = IsSomeAnd every (λ n. IsCount word n)

-- three words name a mode, the first passive port and the last, and a fourth, where there is one, of how many entries the
-- tail behind a checkpoint is at most
pub record AsksService (word first last : List ℕ) (fourth : Option (List ℕ)) (service : Service) : Type 0 where
  pub mode : IsMode word service.mode
  pub lo : IsPort first service.lo
  pub hi : IsPort last service.hi
  pub every : IsEvery fourth service.every

-- the words behind the program's name ask for the command; where it serves, the first of them is looked at later
abbrev pub Asks : List (List ℕ) → Command → Type 0
Asks (word ∷ []) command = command_of word ≡ Some command
Asks (address ∷ mode ∷ lo ∷ hi ∷ []) (Serve service) = AsksService mode lo hi None service
Asks (address ∷ mode ∷ lo ∷ hi ∷ every ∷ []) (Serve service) = AsksService mode lo hi (Some every) service
Asks _ _ = ⊥
