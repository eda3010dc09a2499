-- The commands, and the words that ask for them.
use Rattle.std.specs.Prelude.{◌≡◌, ℕ, ◌^◌, ◌<◌, ◌≤◌, List, [], ◌∷◌, codes, decimal}
use Rattle.ftp_script_run.specs.Stress.{stress_lines}
use Rattle.ftp_script_run.specs.declared.telling.TheConstants.{HELP, VERSION}
use Rattle.ftp_script_run.specs.declared.command.Command.{Command}
use Rattle.ftp_script_run.specs.declared.command.Command.TheVariants.{Run, Audit, Resume, Tell}
use Rattle.ftp_script_run.specs.declared.command.Ending.TheVariants.{LinksAndFiles, State}
use Rattle.ftp_script_run.specs.declared.command.Told.{Told}
use Rattle.ftp_script_run.specs.declared.command.Told.TheVariants.{Stress, Help, Version}

-- how a command is spelled, word by word
abbrev pub words_of : Command → List (List ℕ)
words_of (Run LinksAndFiles) = codes "script" ∷ []
words_of (Run State) = codes "save" ∷ []
words_of Audit = codes "audit" ∷ []
words_of Resume = codes "resume" ∷ []
words_of (Tell (Stress seed sessions)) = codes "stress" ∷ decimal seed ∷ decimal sessions ∷ []
words_of (Tell Help) = codes "--help" ∷ []
words_of (Tell Version) = codes "--version" ∷ []

-- the numbers of a command lie in their ranges
abbrev pub IsLawful : Command → Type 0
IsLawful (Tell (Stress seed sessions)) = (seed < 2 ^ 64) × (1 ≤ sessions) × (sessions ≤ 1000)
IsLawful _ = Unit {0}

-- these words are the command
abbrev pub Asks : List (List ℕ) → Command → Type 0
Asks words c = (words ≡ words_of c) × IsLawful c

-- what is told
abbrev pub text_of : Told → List ℕ
text_of (Stress seed sessions) = stress_lines seed sessions
text_of Help = HELP.now
text_of Version = VERSION.now
