-- Reading the options.
use Rattle.std.specs.Prelude.{ℕ, ◌*◌, ◌^◌, ◌&&◌, ◌||◌, nat_le, Bool, true, false, List, [], ◌∷◌, codes, Option, Some, None, if◌then◌else◌}
use Rattle.std.specs.Str.{bytes_eq}
use Rattle.ftp_options.specs.declared.options.ListenerMode.{ListenerMode}
use Rattle.ftp_options.specs.declared.options.ListenerMode.TheVariants.{Legacy, Pooled, Proxy}
use Rattle.ftp_options.specs.declared.options.ActivePassiveMode.{ActivePassiveMode}
use Rattle.ftp_options.specs.declared.options.ActivePassiveMode.TheVariants.{PassiveOnly, ActiveOnly, ActiveAndPassive}
use Rattle.ftp_options.specs.declared.host.PassiveHost.{PassiveHost}
use Rattle.ftp_options.specs.declared.host.PassiveHost.TheVariants.{FromConnection, Ip, Dns}
use Rattle.ftp_options.specs.declared.lockout.FailedLoginsBlock.{FailedLoginsBlock}
use Rattle.ftp_options.specs.declared.lockout.FailedLoginsBlock.TheVariants as block
use Rattle.ftp_options.specs.declared.lockout.FailedLoginsPolicy.{FailedLoginsPolicy}
use Rattle.ftp_options.specs.Modes.{is_legacy}
use Rattle.ftp_text.specs.Reading.{◌>>=◌, Reader, pair, tested, begins, literal_at, behind_text, before_text, all_of, small_at, dotted_at, small_field, text_of, word_as, find_word}
use Rattle.ftp_text.specs.Options.{active_text, block_text, restart_text}

-- ---- who listens

-- the control port of a proxy
abbrev pub control_port_at : Reader ℕ
control_port_at = behind_text (codes "proxy:") (small_at (2 ^ 16))

-- the mode that all of a word spells
unfoldable pub mode_of : List ℕ → Option ListenerMode
mode_of w =
    if bytes_eq w (codes "legacy") then Some Legacy
    else if bytes_eq w (codes "pooled") then Some Pooled
    else (all_of control_port_at w >>= λ port. Some (Proxy port))

-- the mode
unfoldable pub mode_at : Reader ListenerMode
mode_at bytes = word_as mode_of bytes

-- who listens, and the two passive ports
abbrev pub Listening : Type 0
Listening = ListenerMode × (ℕ × ℕ)

-- the ports are a range, without 0 where sessions share the ports
abbrev pub is_lawful : Listening → Bool
is_lawful x = (is_legacy x.0 || nat_le 1 x.1.0) && nat_le x.1.0 x.1.1

-- who listens, and on which ports
unfoldable pub listening_at : Reader Listening
listening_at = tested is_lawful (pair mode_at (pair (small_field (2 ^ 16)) (small_field (2 ^ 16))))

-- ---- what else the sessions go by

-- an address behind its word
abbrev pub ip_at : Reader ℕ
ip_at = behind_text (codes "ip:") dotted_at

-- a name behind its word
abbrev pub name_of : List ℕ → Option (List ℕ)
name_of w = literal_at (codes "dns:") w >>= λ name. text_of name

-- the host that all of a word spells
unfoldable pub host_of : List ℕ → Option PassiveHost
host_of w =
    if bytes_eq w (codes "connection") then Some FromConnection
    else if begins 105 w then (all_of ip_at w >>= λ ip. Some (Ip ip))
    else (name_of w >>= λ name. Some (Dns name))

-- the host
unfoldable pub host_at : Reader PassiveHost
host_at bytes = word_as host_of bytes

-- all three choices of commands
abbrev pub actives : List ActivePassiveMode
actives = PassiveOnly ∷ ActiveOnly ∷ ActiveAndPassive ∷ []

-- which commands open data connections
unfoldable pub active_at : Reader ActivePassiveMode
active_at bytes = word_as (find_word active_text actives) bytes

-- all that failed logins can be counted by
abbrev pub blocks : List FailedLoginsBlock
blocks = block.UserAndIP ∷ block.IP ∷ block.User ∷ []

-- a number of 32 bits and the colon behind it
abbrev pub part_at : Reader ℕ
part_at bytes = before_text (codes ":") (small_at (2 ^ 32)) bytes

-- the policy that all of a word spells
unfoldable pub policy_of : List ℕ → Option FailedLoginsPolicy
policy_of w = do
  attempts ← part_at w
  seconds ← part_at attempts.1
  by ← find_word block_text blocks seconds.1
  Some (record { max_attempts = attempts.0; expires_after_ms = 1000 * seconds.0; block_by = by })

-- the policy that all of a word spells, where it spells one
unfoldable pub lockout_of : List ℕ → Option (Option FailedLoginsPolicy)
lockout_of w = if bytes_eq w (codes "off") then Some None else (policy_of w >>= λ policy. Some (Some policy))

-- when failed logins lock a key
unfoldable pub lockout_at : Reader (Option FailedLoginsPolicy)
lockout_at bytes = word_as lockout_of bytes

-- both words on restart offsets
abbrev pub restarts : List Bool
restarts = true ∷ false ∷ []

-- whether transfers can begin at a restart offset
unfoldable pub restart_at : Reader Bool
restart_at bytes = word_as (find_word restart_text restarts) bytes

-- the host, the commands, the idle time in seconds, the lockout, and whether transfers can begin at an offset
abbrev pub Rules : Type 0
Rules = PassiveHost × (ActivePassiveMode × (ℕ × (Option FailedLoginsPolicy × Bool)))

-- what else the sessions go by
unfoldable pub rules_at : Reader Rules
rules_at = pair host_at (pair active_at (pair (small_field (2 ^ 32)) (pair lockout_at restart_at)))
