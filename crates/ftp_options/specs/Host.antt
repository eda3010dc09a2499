-- The host that a passive reply advertises.
use Rattle.std.specs.Prelude.{◌≡◌, ℕ, Bool, true, false, List, Option, None}
use Rattle.std.specs.Int.{w32, to_be_bytes}
use Rattle.std.specs.Net.Grammar.{IsDotted}
use Rattle.ftp_options.specs.declared.host.PassiveHost.{PassiveHost}
use Rattle.ftp_options.specs.declared.host.PassiveHost.TheVariants.{FromConnection, Ip, Dns}

-- the host that a text names: a dotted address, else the text itself
abbrev pub IsHostOf : List ℕ → PassiveHost → Type 0
IsHostOf text FromConnection = ⊥
IsHostOf text (Ip ip) = IsDotted text (to_be_bytes w32 ip)
IsHostOf text (Dns name) = (name ≡ text) × ((octets : List ℕ) → IsDotted text octets → ⊥)

-- a name whose look-up gave no address
abbrev pub lacks_lookup : PassiveHost → Option ℕ → Bool
lacks_lookup (Dns name) None = true
lacks_lookup _ _ = false
