-- A small download, which is kept for the thread of its session.
use Rattle.std.specs.Prelude.{Bool, true, false, None}
use Rattle.ftp_base.specs.declared.command.DataChanCmd.TheVariants.{Retr}
use Rattle.ftp_events.specs.declared.event.EventKind.{EventKind}
use Rattle.ftp_events.specs.declared.event.EventKind.TheVariants.{Transfer}
use Rattle.ftp_workers.specs.declared.running_job.RunningJob.{RunningJob}

-- the event asks for a download
abbrev pub is_download : EventKind → Bool
is_download (Transfer session (Retr path)) = true
is_download _ = false

-- it runs, and is not kept
abbrev pub once_taken : RunningJob → RunningJob
once_taken running = record running { kept = None }
