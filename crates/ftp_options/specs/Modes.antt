-- Who listens for data connections, and who opens them.
use Rattle.std.specs.Prelude.{ℕ, ◌==◌, Bool, true, false}
use Rattle.ftp_options.specs.declared.options.ListenerMode.{ListenerMode}
use Rattle.ftp_options.specs.declared.options.ListenerMode.TheVariants.{Legacy, Pooled, Proxy}
use Rattle.ftp_options.specs.declared.options.ActivePassiveMode.{ActivePassiveMode}
use Rattle.ftp_options.specs.declared.options.ActivePassiveMode.TheVariants.{PassiveOnly, ActiveOnly}

-- each session has a listener of its own
abbrev pub is_legacy : ListenerMode → Bool
is_legacy Legacy = true
is_legacy _ = false

-- all sessions share the ports
abbrev pub is_pooled : ListenerMode → Bool
is_pooled Pooled = true
is_pooled _ = false

-- all connections come through a proxy
abbrev pub is_proxy : ListenerMode → Bool
is_proxy (Proxy control_port) = true
is_proxy _ = false

-- connections that the proxy passes on to this port open sessions
abbrev pub is_control_port : ListenerMode → ℕ → Bool
is_control_port (Proxy control_port) port = control_port == port
is_control_port _ port = false

-- passive commands are refused
abbrev pub is_passive_off : ActivePassiveMode → Bool
is_passive_off ActiveOnly = true
is_passive_off _ = false

-- PORT commands are refused
abbrev pub is_active_off : ActivePassiveMode → Bool
is_active_off PassiveOnly = true
is_active_off _ = false
