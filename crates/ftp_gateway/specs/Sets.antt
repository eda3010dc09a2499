-- What a configuration sets of the options.
use Rattle.std.specs.Prelude.{◌≡◌, ℕ, ◌*◌, List, Option, Some, None, option_map, is_some, Bool, true, false, if◌then◌else◌}
use Rattle.ftp_options.specs.Builder.{defaults}
use Rattle.ftp_options.specs.Host.{IsHostOf}
use Rattle.ftp_options.specs.Settings.{Settings}
use Rattle.ftp_options.specs.declared.options.ActivePassiveMode.{ActivePassiveMode}
use Rattle.ftp_options.specs.declared.options.ActivePassiveMode.TheVariants.{PassiveOnly, ActiveAndPassive}
use Rattle.ftp_options.specs.declared.host.PassiveHost.{PassiveHost}
use Rattle.ftp_options.specs.declared.host.PassiveHost.TheVariants.{FromConnection}
use Rattle.ftp_options.specs.declared.lockout.FailedLoginsPolicy.{FailedLoginsPolicy}
use Rattle.ftp_config.specs.declared.config.GatewayConfig.{GatewayConfig}

-- which commands open data connections
abbrev pub commands_of : Bool → ActivePassiveMode
commands_of port_enable = if port_enable then ActiveAndPassive else PassiveOnly

-- when failed logins lock
abbrev pub lockout_of : GatewayConfig → Option FailedLoginsPolicy
lockout_of config =
    option_map (λ block. record { max_attempts = config.lockout_failures; expires_after_ms = config.lockout_forget * 1000; block_by = block }) config.lockout

-- the host that a 227 shows
abbrev pub HasHost : Option (List ℕ) → PassiveHost → Type 0
HasHost None host = host ≡ FromConnection
HasHost (Some text) host = IsHostOf text host

-- the settings of a configuration: what it does not name is as by default
pub record AreSettingsOf (config : GatewayConfig) (settings : Settings) : Type 0 where
  pub host : HasHost config.pasv_address settings.host
  pub others : settings ≡ record defaults {
    mode = config.mode;
    lo = config.pasv_min_port;
    hi = config.pasv_max_port;
    host = settings.host;
    active_passive = commands_of config.port_enable;
    idle_ms = config.idle_session_timeout * 1000;
    lockout = lockout_of config;
    greeting = Some config.banner;
    collect_metrics = is_some config.metrics_file;
  }
