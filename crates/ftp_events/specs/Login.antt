-- How far a session's login is, read from the session's history.
use Rattle.std.specs.Prelude.{ℕ, List, Option, Some, None, unwrap_or, codes}
use Rattle.ftp_base.specs.declared.login.SessionState.{SessionState}
use Rattle.ftp_base.specs.declared.login.SessionState.TheVariants as state
use Rattle.ftp_events.specs.declared.entry.Entry.{Entry}
use Rattle.ftp_events.specs.declared.event.EventKind.{EventKind}
use Rattle.ftp_events.specs.declared.event.EventKind.TheVariants.{User}
use Rattle.ftp_events.specs.declared.decision.Decision.{Decision}
use Rattle.ftp_events.specs.declared.decision.Decision.TheVariants.{Opened, NeedPass, PassOut, LoggedIn, LoginFailed}
use Rattle.ftp_events.specs.declared.session.Login.{Login}
use Rattle.ftp_events.specs.declared.session.Login.TheVariants as login
use Rattle.ftp_events.specs.Words.{latest}

-- what a decision makes of the login
abbrev pub login_by : Decision → Option Login
login_by Opened = Some login.New
login_by NeedPass = Some login.Named
login_by PassOut = Some login.Checking
login_by (LoginFailed lock delay) = Some login.New
login_by LoggedIn = Some login.LoggedIn
login_by _ = None

-- how far the login is
abbrev pub login_state : List Entry → Login
login_state h = latest login.New (λ e. login_by e.decision) h

-- the state of the control connection
abbrev pub state_of : Login → SessionState
state_of login.New = state.New
state_of login.Named = state.WaitPass
state_of login.Checking = state.WaitPass
state_of login.LoggedIn = state.WaitCmd

-- the name that an entry gave
abbrev pub name_by : Decision → EventKind → Option (Option (List ℕ))
name_by NeedPass (User session name) = Some (Some name)
name_by _ _ = None

-- the name that was given last
abbrev pub user_name : List Entry → Option (List ℕ)
user_name h = latest None (λ e. name_by e.decision e.event.kind) h

-- who is logged in, for listeners and storages
abbrev pub logged_user : Login → Option (List ℕ) → List ℕ
logged_user login.LoggedIn name = unwrap_or name (codes "unknown")
logged_user _ name = codes "unknown"
