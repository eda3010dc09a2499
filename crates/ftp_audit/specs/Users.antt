-- The marks of all users.
use Rattle.std.specs.Prelude.{ℕ, List, [], ◌∷◌, ◌++◌, unwrap_or, if◌then◌else◌}
use Rattle.std.specs.Map.{lookup}
use Rattle.std.specs.Str.{bytes_eq}
use Rattle.ftp_base.specs.declared.notice.Notice.{Notice}
use Rattle.ftp_audit.specs.declared.account.Mark.{Mark}
use Rattle.ftp_audit.specs.Totals.{told}
use Rattle.ftp_audit.specs.Marks.{next}

-- the marks of the user of this name
abbrev pub marks_of : List (List ℕ × List Mark) → List ℕ → List Mark
marks_of users name = unwrap_or (lookup (bytes_eq name) users) []

-- the marks under a name, after a notification of a user at a place
abbrev pub with_told : ℕ → List ℕ → Notice → List ℕ → List Mark → List Mark
with_told place user what name marks = if bytes_eq user name then marks ++ next marks place (told what) ∷ [] else marks
