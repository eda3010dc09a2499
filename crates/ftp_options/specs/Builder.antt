-- What a builder begins with, and which settings build.
use Rattle.std.specs.Prelude.{◌==◌, ◌&&◌, ◌||◌, not, nat_lt, ℕ, false, List, Option, Some, None, if◌then◌else◌}
use Rattle.std.specs.Option.{option_map, option_or}
use Rattle.ftp_options.specs.declared.error.ServerError.{ServerError}
use Rattle.ftp_options.specs.declared.error.ServerError.TheVariants.{Configuration, EmptyRange, PortZero, FtpsRequired}
use Rattle.ftp_options.specs.declared.ftps.FtpsRequired.TheVariants as required
use Rattle.ftp_options.specs.declared.host.PassiveHost.TheVariants.{FromConnection}
use Rattle.ftp_options.specs.declared.options.ListenerMode.TheVariants.{Legacy}
use Rattle.ftp_options.specs.declared.options.ActivePassiveMode.TheVariants.{PassiveOnly}
use Rattle.ftp_options.specs.declared.options.SiteMd5.TheVariants.{Accounts}
use Rattle.ftp_options.specs.declared.options.Options.{Options}
use Rattle.ftp_options.specs.Ftps.{is_enforced}
use Rattle.ftp_options.specs.Modes.{is_legacy}
use Rattle.ftp_options.specs.Settings.{Settings, Draft}

-- the settings of a builder on which nothing was set
abbrev pub defaults : Settings
defaults = record {
  mode = Legacy;
  lo = 49152;
  hi = 65535;
  host = FromConnection;
  active_passive = PassiveOnly;
  idle_ms = 600000;
  lockout = None;
  features = 1;
  site_md5 = Accounts;
  tls_flags = record { 0 = 25 };
  collect_metrics = false;
  greeting = None;
}

-- a draft without a fault that requires no FTPS
abbrev pub draft_of : {Handler : Type 0} → Settings → List (List ℕ × Handler) → Draft Handler
draft_of settings handlers = record { settings = settings; ftps_control = required.None; ftps_data = required.None; fault = None; handlers = handlers }

-- why a draft does not build, where it does not: the first of these that applies
abbrev pub refusal : {Handler : Type 0} → Draft Handler → Option ServerError
refusal d =
    option_or (option_map Configuration d.fault)
    (if nat_lt d.settings.hi d.settings.lo then Some EmptyRange
    else if d.settings.lo == 0 && not (is_legacy d.settings.mode) then Some PortZero
    else if is_enforced d.ftps_control || is_enforced d.ftps_data then Some FtpsRequired
    else None)

-- the settings that options were built from
abbrev pub settings_of : Options → Settings
settings_of o = record {
  mode = o.mode;
  lo = o.lo;
  hi = o.hi;
  host = o.host;
  active_passive = o.active_passive;
  idle_ms = o.idle_ms;
  lockout = o.lockout;
  features = o.features;
  site_md5 = o.site_md5;
  tls_flags = o.tls_flags;
  collect_metrics = o.collect_metrics;
  greeting = o.greeting;
}
