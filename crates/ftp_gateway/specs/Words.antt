-- The words of the program.
use Rattle.std.specs.Prelude.{ℕ, List, [], ◌∷◌, Option, None, codes}
use Rattle.std.specs.Map.{lookup}
use Rattle.std.specs.Str.{bytes_eq}
use Rattle.ftp_gateway.specs.declared.command.Command.{Command}
use Rattle.ftp_gateway.specs.declared.command.Command.TheVariants.{Help, Version, Serve, Check, MakePassword, Ask}
use Rattle.ftp_gateway.specs.declared.request.Request.TheVariants.{Stop, Reload, Status}

-- what a word by itself asks for
unfoldable pub command_of_word : List ℕ → Option Command
command_of_word word =
    lookup (λ name. bytes_eq name word) ((codes "--help", Help) ∷ (codes "--version", Version) ∷ (codes "mkpasswd", MakePassword) ∷ [])

-- what a word with a file behind it asks for
unfoldable pub command_of_two : List ℕ → Option Command
command_of_two word =
    lookup (λ name. bytes_eq name word)
    ((codes "serve", Serve) ∷ (codes "check", Check) ∷ (codes "stop", Ask Stop) ∷ (codes "reload", Ask Reload) ∷ (codes "status", Ask Status) ∷ [])

-- what the words behind the program's name ask for
abbrev pub command_of : List (List ℕ) → Option Command
command_of (word ∷ []) = command_of_word word
command_of (word ∷ file ∷ []) = command_of_two word
command_of _ = None
