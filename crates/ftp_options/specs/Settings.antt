-- What was set on a builder.
use Rattle.std.specs.Prelude.{ℕ, Bool, List, Option}
use Rattle.ftp_options.specs.declared.error.ConfigFault.{ConfigFault}
use Rattle.ftp_options.specs.declared.ftps.FtpsRequired.{FtpsRequired}
use Rattle.ftp_options.specs.declared.ftps.TlsFlags.{TlsFlags}
use Rattle.ftp_options.specs.declared.host.PassiveHost.{PassiveHost}
use Rattle.ftp_options.specs.declared.lockout.FailedLoginsPolicy.{FailedLoginsPolicy}
use Rattle.ftp_options.specs.declared.options.ListenerMode.{ListenerMode}
use Rattle.ftp_options.specs.declared.options.ActivePassiveMode.{ActivePassiveMode}
use Rattle.ftp_options.specs.declared.options.SiteMd5.{SiteMd5}

-- what options are built from; the idle time is in milliseconds
pub record Settings : Type 0 where
  pub mode : ListenerMode
  pub lo : ℕ
  pub hi : ℕ
  pub host : PassiveHost
  pub active_passive : ActivePassiveMode
  pub idle_ms : ℕ
  pub lockout : Option FailedLoginsPolicy
  pub features : ℕ
  pub site_md5 : SiteMd5
  pub tls_flags : TlsFlags
  pub collect_metrics : Bool
  pub greeting : Option (List ℕ)

-- the settings, who has to use FTPS on control and on data connections, the first fault of the registrations, and the
-- handlers by name
pub record Draft (Handler : Type 0) : Type 0 where
  pub settings : Settings
  pub ftps_control : FtpsRequired
  pub ftps_data : FtpsRequired
  pub fault : Option ConfigFault
  pub handlers : List (List ℕ × Handler)
