-- What is decided on names and passwords.
use Rattle.std.specs.Prelude.{ℕ, Bool, false, Option, Some, None}
use Rattle.ftp_base.specs.declared.login.AuthAnswer.{AuthAnswer}
use Rattle.ftp_base.specs.declared.login.AuthAnswer.TheVariants.{Good, BadUser, Refused}
use Rattle.ftp_base.specs.declared.login.LockState.{LockState}
use Rattle.ftp_base.specs.declared.login.LockState.TheVariants.{AlreadyLocked}
use Rattle.ftp_options.specs.declared.lockout.FailedLoginsPolicy.{FailedLoginsPolicy}
use Rattle.ftp_lockout.specs.declared.cache.Failures.{Failures}
use Rattle.ftp_lockout.specs.Failures.{one_more, lock_state, is_locked}
use Rattle.ftp_events.specs.declared.decision.Decision.{Decision}
use Rattle.ftp_events.specs.declared.decision.Decision.TheVariants.{NotExpected, BadSequence, NeedPass, PassOut, Reauth, LoggedIn, LoginFailed}
use Rattle.ftp_events.specs.declared.session.Login.{Login}
use Rattle.ftp_events.specs.declared.session.Login.TheVariants as login
use Rattle.ftp_events.specs.Words.{◌⇒◌∣◌}

-- USER
abbrev pub user_row : Login → Decision
user_row login.New = NeedPass
user_row login.Named = NeedPass
user_row login.Checking = BadSequence
user_row login.LoggedIn = BadSequence

-- PASS
abbrev pub pass_row : Login → Decision
pass_row login.New = BadSequence
pass_row login.Named = PassOut
pass_row login.Checking = BadSequence
pass_row login.LoggedIn = Reauth

-- what is said of a password, where one more failure would say this of the lock, and the key is locked or not
abbrev pub answer_row : AuthAnswer → Option LockState → Bool → Decision
answer_row BadUser reached locked = LoginFailed None 0
answer_row Refused reached locked = LoginFailed reached 0
answer_row Good reached locked = locked ⇒ LoginFailed (Some AlreadyLocked) 1500 ∣ LoggedIn
answer_row _ reached locked = locked ⇒ LoginFailed (Some AlreadyLocked) 1500 ∣ LoginFailed None 0

-- what is said of it by a policy, with the failures of the key so far; without a policy nobody is locked out
abbrev pub password_row : Option FailedLoginsPolicy → ℕ → Option Failures → AuthAnswer → Decision
password_row None at f said = answer_row said None false
password_row (Some p) at f said = answer_row said (lock_state p (one_more p at f).count) (is_locked p at f)

-- the answer on a password, while it is being checked
abbrev pub auth_row : Option FailedLoginsPolicy → ℕ → Option Failures → AuthAnswer → Login → Decision
auth_row policy at f said login.Checking = password_row policy at f said
auth_row policy at f said _ = NotExpected
