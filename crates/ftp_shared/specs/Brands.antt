-- Options that stand for none in particular: each call of a program picks its own.
use Rattle.std.specs.Prelude.{false, None}
use Rattle.std.proofs.Common.{lit≤}
use Rattle.ftp_options.specs.declared.host.PassiveHost.TheVariants.{FromConnection}
use Rattle.ftp_options.specs.declared.options.ActivePassiveMode.TheVariants.{PassiveOnly}
use Rattle.ftp_options.specs.declared.options.ListenerMode.TheVariants.{Pooled}
use Rattle.ftp_options.specs.declared.options.Options.{Options}
use Rattle.ftp_options.specs.declared.options.SiteMd5.TheVariants as md5

-- one pooled port
abbrev pub some_options : Options
some_options = record {
  mode = Pooled;
  lo = 1;
  hi = 1;
  host = FromConnection;
  active_passive = PassiveOnly;
  idle_ms = 0;
  lockout = None;
  features = 0;
  site_md5 = md5.All;
  tls_flags = record { 0 = 0 };
  collect_metrics = false;
  greeting = None;
  ordered = lit≤ tt;
  listens = λ shared. lit≤ tt;
}
