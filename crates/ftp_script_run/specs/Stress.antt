-- What a stress run writes.
use Rattle.std.specs.Prelude.{ℕ, List, map, reverse}
use Rattle.std.proofs.Common.{lit≤}
use Rattle.ftp_options.specs.declared.options.Options.{Options}
use Rattle.ftp_options.specs.declared.options.ListenerMode.TheVariants.{Pooled}
use Rattle.ftp_options.specs.Builder.{defaults}
use Rattle.ftp_events.specs.declared.entry.Entry.{Entry}
use Rattle.ftp_events.specs.declared.event.EventKind.{EventKind}
use Rattle.ftp_events.specs.Right.{log_of}
use Rattle.ftp_script_run.specs.Events.{kinds, unasked}
use Rattle.ftp_script_run.specs.Counts.{count_lines}

-- pooled mode, and the passive ports 50000 to 50063; else all is as a builder has it
unfoldable pub stress_options : Options
stress_options = record {
  mode = Pooled;
  lo = 50000;
  hi = 50063;
  host = defaults.host;
  active_passive = defaults.active_passive;
  idle_ms = defaults.idle_ms;
  lockout = defaults.lockout;
  features = defaults.features;
  site_md5 = defaults.site_md5;
  tls_flags = defaults.tls_flags;
  collect_metrics = defaults.collect_metrics;
  greeting = defaults.greeting;
  ordered = lit≤ tt;
  listens = λ pooled. lit≤ tt;
}

-- the right and acted log of these kinds of events
abbrev pub log_after : List EventKind → List Entry
log_after ks = log_of stress_options (reverse (map unasked ks))

-- a line for each decision on the events of so many sessions
abbrev pub stress_lines : ℕ → ℕ → List ℕ
stress_lines seed sessions = count_lines (log_after (kinds seed sessions))
