-- Keys that logins have.
use Rattle.std.specs.Prelude.{◌≡◌, ℕ, ◌<◌, ◌^◌, List, Some}
use Rattle.ftp_base.specs.declared.net.IpAddr.{IpAddr}
use Rattle.ftp_base.specs.declared.net.IpAddr.TheVariants.{V4, V6}
use Rattle.ftp_options.specs.declared.lockout.FailedLoginsBlock.{FailedLoginsBlock}
use Rattle.ftp_lockout.specs.declared.cache.Failures.{Failures}
use Rattle.ftp_lockout.specs.declared.key.LoginKey.{LoginKey}
use Rattle.ftp_lockout.specs.Failures.{recorded}
use Rattle.ftp_lockout.specs.Keys.{key_of}

-- the number of the address is one of its version
abbrev pub IsOfVersion : IpAddr → Type 0
IsOfVersion (V4 n) = n < 2 ^ 32
IsOfVersion (V6 n) = n < 2 ^ 128

-- the key is that of some login
pub record IsKey (block_by : FailedLoginsBlock) (key : LoginKey) : Type 0 where
  pub ip : IpAddr
  pub user : List ℕ
  pub address : IsOfVersion ip
  pub key_is : key ≡ key_of block_by ip user

-- each key of which something is recorded is that of some login
abbrev pub AreKeys : FailedLoginsBlock → List (LoginKey × Failures) → Type 0
AreKeys block_by records = (key : LoginKey) (f : Failures) → recorded records key ≡ Some f → IsKey block_by key
