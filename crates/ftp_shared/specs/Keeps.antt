-- What is true whenever the lock is free.
use Rattle.std.specs.Prelude.{◌≡◌, ℕ, List, length}
use Rattle.ftp_options.specs.declared.options.Options.{Options}
use Rattle.ftp_events.specs.declared.action.Action.{Action}
use Rattle.ftp_events.specs.declared.entry.Entry.{Entry}
use Rattle.ftp_events.specs.Right.{replies}
use Rattle.ftp_hub.specs.declared.hub.Hub.{Hub}
use Rattle.ftp_hub.specs.Stands.{Stands, count_of, options_of}
use Rattle.ftp_shared.specs.declared.outbox.Outbox.{Outbox}
use Rattle.ftp_shared.specs.Outbox.{IsRest, newest, outbox_in}

-- the hub stands for the log, which is right and acted under these options, and where these are the actions of its newest
-- entry, or none of them are left to sort in, each outbox is the replies to its session without the first, which were
-- handed out
pub record KeepsLog (o : Options) (hub : Hub) (log : List Entry) (actions : List Action) (box : Outbox) : Type 0 where
  pub options : options_of hub ≡ o
  pub stands : Stands hub log
  pub events : count_of hub ≡ length log
  pub rests : (s : ℕ) → IsRest (outbox_in box actions s) (replies log s)

-- so it is of a whole journal
abbrev pub Keeps : Options → Hub → List Entry → Outbox → Type 0
Keeps o hub journal box = KeepsLog o hub journal (newest journal) box
