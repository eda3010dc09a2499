-- Failed logins, counted by key, read from the log.
use Rattle.std.specs.Prelude.{ℕ, Bool, false, List, [], ◌∷◌, Option, Some, None, codes, unwrap_or}
use Rattle.std.specs.Option.{option_and_then, option_map_or}
use Rattle.ftp_base.specs.declared.login.AuthAnswer.{AuthAnswer}
use Rattle.ftp_base.specs.declared.login.AuthAnswer.TheVariants.{BadUser, Refused}
use Rattle.ftp_options.specs.declared.lockout.FailedLoginsPolicy.{FailedLoginsPolicy}
use Rattle.ftp_options.specs.declared.options.Options.{Options}
use Rattle.ftp_lockout.specs.declared.key.LoginKey.{LoginKey}
use Rattle.ftp_lockout.specs.declared.cache.Failures.{Failures}
use Rattle.ftp_lockout.specs.Keys.{key_of, same_key}
use Rattle.ftp_lockout.specs.Failures.{one_more, let_in, swept}
use Rattle.ftp_events.specs.declared.entry.Entry.{Entry}
use Rattle.ftp_events.specs.declared.event.EventKind.{EventKind}
use Rattle.ftp_events.specs.declared.event.EventKind.TheVariants.{AuthDone, Sweep}
use Rattle.ftp_events.specs.declared.session.Session.{Session}
use Rattle.ftp_events.specs.Words.{◌⇒◌∣◌}
use Rattle.ftp_events.specs.Session.{session}

-- the key of a session's login
abbrev pub login_key : FailedLoginsPolicy → Session → LoginKey
login_key p v = key_of p.block_by v.opening.client (unwrap_or v.name (codes "unknown"))

-- the login of a live session has this key
abbrev pub is_login_for : FailedLoginsPolicy → Option Session → LoginKey → Bool
is_login_for p v key = option_map_or (λ v. same_key (login_key p v) key) v false

-- what is left of the failures of a key after a password for it was checked
abbrev pub failures_by : AuthAnswer → FailedLoginsPolicy → ℕ → Option Failures → Option Failures
failures_by BadUser p at f = f
failures_by Refused p at f = Some (one_more p at f)
failures_by _ p at f = let_in p at f

-- what is left of them after an event
abbrev pub failures_after : Options → FailedLoginsPolicy → List Entry → LoginKey → EventKind → ℕ → Option Failures → Option Failures
failures_after o p past key (AuthDone s said) at f = is_login_for p (session o past s) key ⇒ failures_by said p at f ∣ f
failures_after o p past key Sweep at f = swept p at f
failures_after o p past key _ at f = f

-- the failures of a key
abbrev pub tally : Options → FailedLoginsPolicy → List Entry → LoginKey → Option Failures
tally o p [] key = None
tally o p (e ∷ past) key = failures_after o p past key e.event.kind e.event.at (tally o p past key)

-- the failures of a key, where failed logins lock at all
abbrev pub failures : Options → List Entry → LoginKey → Option Failures
failures o past key = option_and_then (λ p. tally o p past key) o.lockout
