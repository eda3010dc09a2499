-- The failed logins of a key, and when it is locked.
use Rattle.std.specs.Prelude.{ℕ, ◌+◌, ◌-◌, ◌^◌, ◌==◌, ◌&&◌, not, min, nat_lt, nat_le, Bool, false, List, Option, Some, None, if◌then◌else◌}
use Rattle.std.specs.Map.{lookup}
use Rattle.ftp_base.specs.declared.login.LockState.{LockState}
use Rattle.ftp_base.specs.declared.login.LockState.TheVariants.{MaxFailuresReached, AlreadyLocked}
use Rattle.ftp_options.specs.declared.lockout.FailedLoginsPolicy.{FailedLoginsPolicy}
use Rattle.ftp_lockout.specs.declared.cache.Failures.{Failures}
use Rattle.ftp_lockout.specs.declared.key.LoginKey.{LoginKey}
use Rattle.ftp_lockout.specs.Keys.{same_key}

-- the policy, the failures by key, and how many more keys need no memory
pub record Table : Type 0 where
  pub policy : FailedLoginsPolicy
  pub records : List (LoginKey × Failures)
  pub spare : ℕ

-- what is recorded under a key
abbrev pub recorded : List (LoginKey × Failures) → LoginKey → Option Failures
recorded records key = lookup (same_key key) records

-- what the table has of a key
abbrev pub failures_of : Table → LoginKey → Option Failures
failures_of table key = recorded table.records key

-- failures whose age is above the limit count no more; an age is 0 where the moment is earlier
abbrev pub is_expired : FailedLoginsPolicy → ℕ → Failures → Bool
is_expired policy at f = nat_lt policy.expires_after_ms (at - f.last)

-- what one more failure makes of what is recorded
abbrev pub one_more : FailedLoginsPolicy → ℕ → Option Failures → Failures
one_more policy at None = record { count = 1; last = at }
one_more policy at (Some f) =
    if is_expired policy at f then record { count = 1; last = at } else record { count = min (f.count + 1) (2 ^ 32 - 1); last = at }

-- what a count says of the lock
abbrev pub lock_state : FailedLoginsPolicy → ℕ → Option LockState
lock_state policy count =
    if count == policy.max_attempts then Some MaxFailuresReached
    else if nat_lt policy.max_attempts count then Some AlreadyLocked
    else None

-- whether a key with this record is locked
abbrev pub is_locked : FailedLoginsPolicy → ℕ → Option Failures → Bool
is_locked policy at None = false
is_locked policy at (Some f) = not (is_expired policy at f) && nat_le policy.max_attempts f.count

-- what a login that is let in makes of what is recorded: a lock stays
abbrev pub let_in : FailedLoginsPolicy → ℕ → Option Failures → Option Failures
let_in policy at f = if is_locked policy at f then f else None

-- what is left of a record when the expired ones go
abbrev pub swept : FailedLoginsPolicy → ℕ → Option Failures → Option Failures
swept policy at None = None
swept policy at (Some f) = if is_expired policy at f then None else Some f
