-- How the options are spelled.
use Rattle.std.specs.Prelude.{◌≡◌, ℕ, ◌/◌, ◌%◌, ◌^◌, ◌<◌, ◌≤◌, Bool, true, false, List, ◌∷◌, ◌++◌, codes, decimal, Option, Some, None}
use Rattle.ftp_options.specs.declared.options.ListenerMode.{ListenerMode}
use Rattle.ftp_options.specs.declared.options.ListenerMode.TheVariants.{Legacy, Pooled, Proxy}
use Rattle.ftp_options.specs.declared.options.ActivePassiveMode.{ActivePassiveMode}
use Rattle.ftp_options.specs.declared.options.ActivePassiveMode.TheVariants.{PassiveOnly, ActiveOnly, ActiveAndPassive}
use Rattle.ftp_options.specs.declared.host.PassiveHost.{PassiveHost}
use Rattle.ftp_options.specs.declared.host.PassiveHost.TheVariants.{FromConnection, Ip, Dns}
use Rattle.ftp_options.specs.declared.lockout.FailedLoginsBlock.{FailedLoginsBlock}
use Rattle.ftp_options.specs.declared.lockout.FailedLoginsBlock.TheVariants as block
use Rattle.ftp_options.specs.declared.lockout.FailedLoginsPolicy.{FailedLoginsPolicy}
use Rattle.ftp_options.specs.Modes.{is_legacy}
use Rattle.ftp_text.specs.Fields.{field, number, dotted, escape, IsName, Each}

-- who listens for data connections: each session has listeners of its own, all sessions share the listeners, or a proxy
-- listens, with its control port
abbrev pub mode_text : ListenerMode → List ℕ
mode_text Legacy = codes "legacy"
mode_text Pooled = codes "pooled"
mode_text (Proxy port) = codes "proxy:" ++ decimal port

-- which address a passive reply shows: the one that the control connection came to, this one, or that of a name
abbrev pub host_text : PassiveHost → List ℕ
host_text FromConnection = codes "connection"
host_text (Ip ip) = codes "ip:" ++ dotted ip
host_text (Dns name) = codes "dns:" ++ escape name

-- which commands open data connections
abbrev pub active_text : ActivePassiveMode → List ℕ
active_text PassiveOnly = codes "passive"
active_text ActiveOnly = codes "active"
active_text ActiveAndPassive = codes "both"

-- what failed logins are counted by
abbrev pub block_text : FailedLoginsBlock → List ℕ
block_text block.UserAndIP = codes "both"
block_text block.IP = codes "ip"
block_text block.User = codes "user"

-- how many failed logins lock a key, and after how many seconds they count no more
abbrev pub policy_text : FailedLoginsPolicy → List ℕ
policy_text p = decimal p.max_attempts ++ 58 ∷ (decimal (p.expires_after_ms / 1000) ++ 58 ∷ block_text p.block_by)

-- when failed logins lock a key, where they ever do
abbrev pub lockout_text : Option FailedLoginsPolicy → List ℕ
lockout_text None = codes "off"
lockout_text (Some p) = policy_text p

-- whether transfers can begin at a restart offset
abbrev pub restart_text : Bool → List ℕ
restart_text true = codes "restart"
restart_text false = codes "norestart"

-- who listens, and the passive ports
abbrev pub listening_fields : ListenerMode → ℕ → ℕ → List ℕ
listening_fields mode lo hi = field (mode_text mode) ++ (number lo ++ number hi)

-- what else the sessions go by, with an idle time in seconds
abbrev pub rule_fields : PassiveHost → ActivePassiveMode → ℕ → Option FailedLoginsPolicy → Bool → List ℕ
rule_fields host active idle lockout restart =
    field (host_text host) ++ (field (active_text active) ++ (number idle ++ (field (lockout_text lockout) ++ field (restart_text restart))))

-- ---- the ranges of the values

-- the control port fits its type
abbrev pub IsMode : ListenerMode → Type 0
IsMode (Proxy port) = port < 2 ^ 16
IsMode _ = Unit {0}

-- the address fits its type, and a name is one word
abbrev pub IsHost : PassiveHost → Type 0
IsHost FromConnection = Unit {0}
IsHost (Ip ip) = ip < 2 ^ 32
IsHost (Dns name) = IsName name

-- the numbers fit 32 bits, and the time is of whole seconds
abbrev pub IsPolicy : FailedLoginsPolicy → Type 0
IsPolicy p = (p.max_attempts < 2 ^ 32) × (p.expires_after_ms / 1000 < 2 ^ 32) × (p.expires_after_ms % 1000 ≡ 0)

-- the passive ports are a range, and 0 is none of them where sessions share the ports
abbrev pub IsListening : ListenerMode → ℕ → ℕ → Type 0
IsListening mode lo hi = IsMode mode × (is_legacy mode ≡ false → 1 ≤ lo) × (lo ≤ hi) × (hi < 2 ^ 16)

-- what else the sessions go by lies in the ranges of the types
abbrev pub AreRules : PassiveHost → ℕ → Option FailedLoginsPolicy → Type 0
AreRules host idle lockout = IsHost host × (idle < 2 ^ 32) × Each IsPolicy lockout
