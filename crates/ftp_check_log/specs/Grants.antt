-- The last grant of each port to a client.
use Rattle.std.specs.Prelude.{◌≡◌, ℕ, ◌+◌, ◌<◌, ◌≤◌, List, Option, Some, None}
use Rattle.ftp_base.specs.declared.net.IpAddr.{IpAddr}
use Rattle.ftp_options.specs.declared.options.Options.{Options}
use Rattle.ftp_events.specs.declared.entry.Entry.{Entry}
use Rattle.ftp_check_log.specs.declared.grants.Grant.{Grant}
use Rattle.ftp_check_log.specs.Evidence.{Grants, holder_before}

-- before place k this is the last grant of the port, whose session holds it next; with none there, none granted it
abbrev pub IsLastGrant : Options → List Entry → ℕ → IpAddr → ℕ → Option Grant → Type 0
IsLastGrant o log k a p None = (g : ℕ) → g < k → Grants o log a p g → ⊥
IsLastGrant o log k a p (Some x) =
    (x.place < k) × Grants o log a p x.place × (holder_before o log (x.place + 1) a p ≡ Some x.session) ×
    ((g : ℕ) → x.place < g → g < k → Grants o log a p g → ⊥)

-- before place k each port of the range is held for the client
abbrev pub AreHeld : Options → List Entry → ℕ → IpAddr → Type 0
AreHeld o log k a = (p : ℕ) → o.lo ≤ p → p ≤ o.hi → (s : ℕ) × (holder_before o log k a p ≡ Some s)
