-- Whose a session is, by the names and the logins of the log.
use Rattle.std.specs.Prelude.{ℕ, ◌==◌, Bool, List, codes, Option, Some, None, if◌then◌else◌}
use Rattle.std.specs.List.{list_any}
use Rattle.ftp_events.specs.declared.entry.Entry.{Entry}
use Rattle.ftp_events.specs.declared.event.EventKind.{EventKind}
use Rattle.ftp_events.specs.declared.event.EventKind.TheVariants.{User, AuthDone}
use Rattle.ftp_events.specs.declared.decision.Decision.{Decision}
use Rattle.ftp_events.specs.declared.decision.Decision.TheVariants.{NeedPass, LoggedIn}
use Rattle.ftp_events.specs.Words.{latest, is_number}

-- the session whose password an entry finds good
abbrev pub let_in : Decision → EventKind → Option ℕ
let_in LoggedIn (AuthDone session answer) = Some session
let_in _ _ = None

-- an entry found the password of session s good
abbrev pub was_let_in : List Entry → ℕ → Bool
was_let_in past s = list_any (λ e. is_number (let_in e.decision e.event.kind) s) past

-- the name that an entry takes from session s
abbrev pub name_from : ℕ → Decision → EventKind → Option (List ℕ)
name_from s NeedPass (User session name) = if session == s then Some name else None
name_from s _ _ = None

-- the name that session s gave last
abbrev pub last_name : List Entry → ℕ → List ℕ
last_name past s = latest (codes "unknown") (λ e. name_from s e.decision e.event.kind) past

-- the user whose session s is
abbrev pub owner : List Entry → ℕ → List ℕ
owner past s = if was_let_in past s then last_name past s else codes "unknown"
