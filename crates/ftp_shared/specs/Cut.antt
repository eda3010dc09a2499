-- What is true of a hub with a checkpoint and a tail whenever its lock is free.
use Rattle.std.specs.Prelude.{List, ◌++◌}
use Rattle.ftp_options.specs.declared.options.Options.{Options}
use Rattle.ftp_events.specs.declared.entry.Entry.{Entry}
use Rattle.ftp_hub.specs.declared.hub.Hub.{Hub}
use Rattle.ftp_hub.specs.Stands.{Stands}
use Rattle.ftp_shared.specs.declared.outbox.Outbox.{Outbox}
use Rattle.ftp_shared.specs.Keeps.{KeepsLog}
use Rattle.ftp_shared.specs.Outbox.{newest}

-- the hub is the replay of the tail from the checkpoint: it stands for the tail behind each log for which the hub of the
-- checkpoint stood, which it did for one; and each outbox is the replies to its session without the first, which were
-- handed out
pub record KeepsCut (o : Options) (hub : Hub) (tail : List Entry) (box : Outbox) : Type 0 where
  pub base : Hub
  pub front : List Entry
  pub stood : Stands base front
  pub replay : (log : List Entry) → Stands base log → Stands hub (tail ++ log)
  pub kept : KeepsLog o hub (tail ++ front) (newest tail) box
