-- Connections that come: which kinds bring them, and what becomes of a data connection that has a holder.
use Rattle.std.specs.Prelude.{ℕ, ◌≡◌, Bool, true, false, ◌||◌, List, Some, None}
use Rattle.ftp_base.specs.declared.net.IpAddr.TheVariants.{V4}
use Rattle.ftp_options.specs.declared.options.Options.{Options}
use Rattle.ftp_events.specs.declared.decision.Decision.{Decision}
use Rattle.ftp_events.specs.declared.decision.Decision.TheVariants.{Opened, Attached, Turned}
use Rattle.ftp_events.specs.declared.entry.Entry.{Entry}
use Rattle.ftp_events.specs.declared.event.Answer.{Answer}
use Rattle.ftp_events.specs.declared.event.EventKind.{EventKind}
use Rattle.ftp_events.specs.declared.event.EventKind.TheVariants as kind
use Rattle.ftp_events.specs.declared.event.HubEvent.{HubEvent}
use Rattle.ftp_events.specs.declared.session.Opening.{Opening}
use Rattle.ftp_events.specs.Board.{target}
use Rattle.ftp_events.specs.ConnectionRows.{arrival_row}
use Rattle.ftp_events.specs.Decide.{due}
use Rattle.ftp_events.specs.Log.{is_stopped, is_used, named_session, new_number}
use Rattle.ftp_events.specs.Opening.{opening_by}
use Rattle.ftp_events.specs.Words.{◌⇒◌∣◌}
use Rattle.ftp_handlers.specs.Handlers.{is_port}
use Rattle.ftp_hub.specs.declared.data_links.Arrival.{Arrival}

-- the kinds of connections that come
abbrev pub is_connect : EventKind → Bool
is_connect (kind.Connect s raw local trace) = true
is_connect _ = false

abbrev pub is_proxied : EventKind → Bool
is_proxied (kind.Proxied number raw trace) = true
is_proxied _ = false

abbrev pub is_data : EventKind → Bool
is_data (kind.DataIn number raw port) = true
is_data _ = false

abbrev pub is_accepted : EventKind → Bool
is_accepted (kind.Accepted s number raw) = true
is_accepted _ = false

-- the kinds that may open a session
abbrev pub may_open : EventKind → Bool
may_open k = is_connect k || is_proxied k

-- the kinds that bring a number
abbrev pub brings_number : EventKind → Bool
brings_number k = may_open k || (is_data k || (is_accepted k || is_port k))

-- the kinds with which a transfer may start
abbrev pub may_start : EventKind → Bool
may_start (kind.Transfer s c) = true
may_start (kind.Stou s word) = true
may_start (kind.End ticket) = true
may_start (kind.Piece ticket) = true
may_start k = is_proxied k || (is_data k || is_accepted k)

-- the event with its answer is a control connection under this number, where that was not used and there was no stop
pub record IsControlLink (o : Options) (event : HubEvent) (answer : Answer) (number : ℕ) (opening : Opening) : Type 0 where
  pub tells : opening_by event.kind answer ≡ Some opening
  pub for_nobody : target o event.kind answer ≡ None
  pub unnamed : named_session event.kind ≡ None
  pub brings : (d : Decision) → new_number event.kind d ≡ Some number
  pub row :
      (past : List Entry) → is_used past number ≡ false → is_stopped past ≡ false →
      due o past event.at event.kind answer ≡ Opened

-- after a stop it is a connection under this number, where that was not used
pub record IsLate (o : Options) (event : HubEvent) (answer : Answer) (number : ℕ) : Type 0 where
  pub unnamed : named_session event.kind ≡ None
  pub brings : (d : Decision) → new_number event.kind d ≡ Some number
  pub row :
      (past : List Entry) → is_used past number ≡ false → is_stopped past ≡ true →
      due o past event.at event.kind answer ≡ Turned

-- the event with its answer is this data connection, where its number was not used and there was no stop
pub record IsDataLink (o : Options) (event : HubEvent) (answer : Answer) (arrival : Arrival) : Type 0 where
  pub to : target o event.kind answer ≡ Some (record { client = V4 arrival.source; port = arrival.port })
  pub unnamed : named_session event.kind ≡ None
  pub brings : (d : Decision) → new_number event.kind d ≡ Some arrival.number
  pub row :
      (past : List Entry) → is_used past arrival.number ≡ false → is_stopped past ≡ false →
      due o past event.at event.kind answer ≡ arrival_row o past arrival.raw (V4 arrival.source) arrival.port

-- it goes to session s where it is welcome there
abbrev pub arrival_of : Bool → ℕ → Decision
arrival_of welcome s = welcome ⇒ Attached s ∣ Turned
