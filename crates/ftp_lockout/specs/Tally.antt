-- The tally of failed logins, over a list of calls with the newest first.
use Rattle.std.specs.Prelude.{◌≡◌, ℕ, List, [], ◌∷◌, Option, Some, None, if◌then◌else◌}
use Rattle.ftp_base.specs.declared.net.IpAddr.{IpAddr}
use Rattle.ftp_options.specs.declared.lockout.FailedLoginsPolicy.{FailedLoginsPolicy}
use Rattle.ftp_lockout.specs.declared.cache.Failures.{Failures}
use Rattle.ftp_lockout.specs.declared.key.LoginKey.{LoginKey}
use Rattle.ftp_lockout.specs.Keys.{key_of, same_key}
use Rattle.ftp_lockout.specs.Failures.{Table, failures_of, one_more, let_in, swept}

-- a call, with its moment
pub data Call : Type 0 where
  Failed : ℕ → IpAddr → List ℕ → Call
  Succeeded : ℕ → IpAddr → List ℕ → Call
  Swept : ℕ → Call

-- what the calls leave of a key
abbrev pub tally : FailedLoginsPolicy → List Call → LoginKey → Option Failures
tally policy [] key = None
tally policy (Failed at ip user ∷ past) key =
    let before = tally policy past key in
    if same_key key (key_of policy.block_by ip user) then Some (one_more policy at before) else before
tally policy (Succeeded at ip user ∷ past) key =
    let before = tally policy past key in
    if same_key key (key_of policy.block_by ip user) then let_in policy at before else before
tally policy (Swept at ∷ past) key = swept policy at (tally policy past key)

-- the table holds what the calls leave
abbrev pub StandsFor : Table → List Call → Type 0
StandsFor table calls = (key : LoginKey) → failures_of table key ≡ tally table.policy calls key
