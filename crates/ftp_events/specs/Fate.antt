-- What became of a transfer.
use Rattle.std.specs.Prelude.{ℕ, Bool, false, List, [], ◌∷◌, length, Option, Some, None}
use Rattle.std.specs.List.{list_any}
use Rattle.std.specs.Option.{option_map_or}
use Rattle.ftp_options.specs.declared.options.Options.{Options}
use Rattle.ftp_events.specs.declared.session.Running.{Running}
use Rattle.ftp_transfer.specs.declared.job.Ticket.{Ticket}
use Rattle.ftp_events.specs.declared.action.Action.{Action}
use Rattle.ftp_events.specs.declared.action.Action.TheVariants as action
use Rattle.ftp_events.specs.declared.entry.Entry.{Entry}
use Rattle.ftp_events.specs.declared.session.Pending.{Pending}
use Rattle.ftp_events.specs.declared.session.Slot.{Slot}
use Rattle.ftp_events.specs.declared.session.Slot.TheVariants.{Empty, Waits, Linked}
use Rattle.ftp_events.specs.Words.{◌⇒◌∣◌}
use Rattle.ftp_events.specs.Log.{past_of}
use Rattle.ftp_events.specs.Session.{session, running_job}
use Rattle.ftp_events.specs.Transfer.{same_ticket}

-- completed or cancelled by the entry at a place, counted from 0, or waiting for one of three things
pub data Fate : Type 0 where
  CompletedAt : (place : ℕ) → Fate
  CancelledAt : (place : ℕ) → Fate
  AwaitsConnection : Fate
  AwaitsItsEnd : Fate
  AwaitsEarlierEnd : Fate

-- the action completes the transfer
abbrev pub completes : Ticket → Action → Bool
completes t (action.Completed ticket delivered) = same_ticket ticket t
completes t _ = false

-- the action cancels the transfer
abbrev pub cancels : Ticket → Action → Bool
cancels t (action.Cancelled ticket) = same_ticket ticket t
cancels t _ = false

-- by the entry that completed or cancelled it
abbrev pub settlement : List Entry → Ticket → Option Fate
settlement [] t = None
settlement (e ∷ log) t =
    list_any (completes t) e.actions ⇒ Some (CompletedAt (length log))
    ∣ list_any (cancels t) e.actions ⇒ Some (CancelledAt (length log))
    ∣ settlement log t

-- it is this transfer that runs
abbrev pub is_running : Ticket → Option Running → Bool
is_running t run = option_map_or (λ r. same_ticket r.job.ticket t) run false

-- it is this transfer that waits in a slot
abbrev pub is_pending : Ticket → Option Pending → Bool
is_pending t pending = option_map_or (λ p. same_ticket p.ticket t) pending false

-- what a transfer in a slot waits for
abbrev pub in_slot : Ticket → Slot → Option Pending → Option Fate
in_slot t (Waits port) pending = is_pending t pending ⇒ Some AwaitsConnection ∣ None
in_slot t (Linked number) pending = is_pending t pending ⇒ Some AwaitsEarlierEnd ∣ None
in_slot t Empty pending = None

-- by the job that runs, or the slot
abbrev pub wait : Options → List Entry → Ticket → Option Fate
wait o past t =
    is_running t (running_job o past t.session) ⇒ Some AwaitsItsEnd
    ∣ option_map_or (λ v. in_slot t v.slot v.pending) (session o past t.session) None

-- the fate of a ticket, and nothing for one that was not queued
abbrev pub fate : Options → List Entry → Ticket → Option Fate
fate o log t = option_map_or Some (settlement log t) (wait o (past_of log) t)
