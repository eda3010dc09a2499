-- What is counted over the entries of a log.
use Rattle.std.specs.Prelude.{◌≡◌, List}
use Rattle.ftp_options.specs.declared.options.Options.{Options}
use Rattle.ftp_events.specs.declared.entry.Entry.{Entry}
use Rattle.ftp_events.specs.Counts.{Counted}
use Rattle.ftp_events.specs.Log.{past_of}
use Rattle.ftp_events.specs.Tallies.{saturated}
use Rattle.ftp_hub.specs.Stands.{Stands, counters_of, options_of}
use Rattle.ftp_audit.specs.declared.tally.Tally.{Tally}
use Rattle.ftp_audit.specs.Written.{lockout_count}

-- all entries of a right and acted log were counted: those that were not refused as counters do, where the options have metrics kept, and the logins that were locked out
pub record HasCounted (o : Options) (tally : Tally) (log : List Entry) : Type 0 where
  pub options : options_of tally.hub ≡ o
  pub stands : Stands tally.hub log
  pub counted : Counted o (past_of log) (counters_of tally.hub)
  pub locked : tally.locked ≡ saturated (lockout_count log)
