-- Why a server does not listen any more.
--   WritesNone text         the text writes no address
--   WritesV6 text           the text writes an address of IP version 6
--   is_of_running e         an error with which a server that has an address can end
--   is_of_listening e       an error with which listening can end
--   IsPastGrace asked at    the grace period of a shutdown that was asked for is over
--   HasServed result ..        a server that has run ended so
use Rattle.std.specs.Prelude.{◌≡◌, ℕ, ◌+◌, ◌<◌, Bool, true, false, List, Option, None, IsSome, IsSomeAnd, Result, OnOk, IsErrOf}
use Rattle.ftp_base.specs.declared.net.SocketAddr.{SocketAddr}
use Rattle.ftp_base.specs.Net.{is_v6}
use Rattle.ftp_base.specs.Outside.{HasRisen}
use Rattle.ftp_system.specs.Listen.{IsBindText}
use Rattle.ftp_options.specs.declared.error.ServerError.{ServerError}
use Rattle.ftp_options.specs.declared.error.ServerError.TheVariants as error

-- the text writes no address with a port
abbrev pub WritesNone : List ℕ → Type 0
WritesNone text = (at : SocketAddr) → ¬ (IsBindText text at)

-- the text writes an address of IP version 6, with a port
abbrev pub WritesV6 : List ℕ → Type 0
WritesV6 text = (at : SocketAddr) × IsBindText text at × (is_v6 at.ip ≡ true)

-- a server that has an address can end with this error
abbrev pub is_of_running : ServerError → Bool
is_of_running error.Io = true
is_of_running error.Listener = true
is_of_running error.Shutdown = true
is_of_running error.OutOfMemory = true
is_of_running _ = false

-- listening can end with this error
abbrev pub is_of_listening : ServerError → Bool
is_of_listening error.Address = true
is_of_listening error.Ipv6OutsideLegacy = true
is_of_listening e = is_of_running e

-- the moment is later than that of asking by more than the grace period, in milliseconds
abbrev pub IsPastGrace : Option (ℕ × ℕ) → ℕ → Type 0
IsPastGrace asked at = IsSomeAnd asked (λ a. a.0 + a.1 < at)

-- a server that has run ended so: well, or with a shutdown given up, only where one was asked for, and for want of a thread only
-- where the spawner's count of faults rose
pub record HasServed {T : Type 0} (result : Result T ServerError) (asked asked_now : Option (ℕ × ℕ)) (latest spawner_faults spawner_faults_now : ℕ) : Type 0 where
  pub ok : OnOk result (IsSome asked_now)
  pub listener : IsErrOf result error.Listener → HasRisen spawner_faults spawner_faults_now
  pub shutdown : IsErrOf result error.Shutdown → asked ≡ None → IsPastGrace asked_now latest
  pub has_asked : IsErrOf result error.Shutdown → IsSome asked_now
