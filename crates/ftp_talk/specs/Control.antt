-- How serving a control connection ends.
use Rattle.std.specs.Prelude.{◌≡◌, ℕ, ◌≤◌, ◌⊎◌, Bool, true, false, List, ◌∷◌, Option, Some, None, Ok, IfSome}
use Rattle.ftp_base.specs.declared.reply.Reply.{Reply}
use Rattle.ftp_base.specs.declared.net.IpAddr.{IpAddr}
use Rattle.ftp_base.specs.Edge.{EdgeView}
use Rattle.ftp_events.specs.declared.decision.Decision.{Decision}
use Rattle.ftp_events.specs.declared.decision.Decision.TheVariants.{Opened}
use Rattle.ftp_events.specs.declared.entry.Entry.{Entry}
use Rattle.ftp_events.specs.declared.event.Answer.{Answer}
use Rattle.ftp_events.specs.declared.event.Answer.TheVariants.{Header}
use Rattle.ftp_events.specs.declared.event.EventKind.{EventKind}
use Rattle.ftp_events.specs.declared.event.EventKind.TheVariants as kind
use Rattle.ftp_events.specs.declared.event.HubEvent.{HubEvent}
use Rattle.ftp_shared.specs.Desk.{DeskView, IsVouched, Appends, RisesBy}
use Rattle.ftp_talk.specs.declared.control_session.ControlSession.{ControlSession}
use Rattle.ftp_talk.specs.declared.control_session.Peer.{Peer}
use Rattle.ftp_talk.specs.declared.serving.ServeEnd.{ServeEnd}
use Rattle.ftp_talk.specs.declared.serving.ServeEnd.TheVariants as end
use Rattle.ftp_talk.specs.Ground.{Start, Ground}
use Rattle.ftp_talk.specs.Speaking.{Begins, Outcome}

-- the client: behind a proxy the one that the header names
abbrev pub client_of : IpAddr → Answer → IpAddr
client_of raw (Header (Ok line)) = line.source.ip
client_of raw _ = raw

-- the session that an event opens, with its peer and its client
abbrev pub peer_of : EventKind → Answer → Option Peer
peer_of (kind.Connect session raw local trace) a = Some (record { session = session; raw = raw.ip; client = raw.ip })
peer_of (kind.Proxied number raw trace) a = Some (record { session = number; raw = raw.ip; client = client_of raw.ip a })
peer_of _ a = None

-- an event that may open a session
abbrev pub is_opening : EventKind → Bool
is_opening (kind.Connect session raw local trace) = true
is_opening (kind.Proxied number raw trace) = true
is_opening _ = false

-- what a talk rests on that an entry opens
abbrev pub ground_of : Entry → Peer → Start → Ground
ground_of e peer start = record { session = peer.session; raw = peer.raw; client = peer.client; opening = e; start = start }

-- the decision opens a session
abbrev pub is_opened : Decision → Bool
is_opened Opened = true
is_opened _ = false

-- the opening was submitted: this is its entry, for which the desk vouches where it does for any
pub record IsSubmitted (opening : HubEvent) (a : Answer) (start : Start) (e : Entry) : Type 0 where
  pub event : e.event ≡ opening
  pub answer : e.answer ≡ a
  pub earlier : List (ℕ × Reply)
  pub vouched : start.vouches ≡ true → IsVouched start.desk.options earlier e

-- the opening was decided as opened; what the session knows at first, and how the desk stands behind it
pub record HasOpened (opening : HubEvent) (a : Answer) (start : Start) (state : ControlSession) (desk : DeskView) : Type 0 where
  pub entry : Entry
  pub peer : Peer
  pub submitted : IsSubmitted opening a start entry
  pub decision : entry.decision ≡ Opened
  pub named : peer_of opening.kind a ≡ Some peer
  pub begins : Begins state peer start.desk.options
  pub appended : IfSome start.desk.journal (λ J. Appends J start.desk desk submitted.earlier entry)
  pub share : RisesBy 1 start.desk.share desk.share
  pub options : desk.options ≡ start.desk.options
  pub files : desk.files ≡ start.desk.files
  pub count : start.desk.faults ≤ desk.faults
  pub unrefused : desk.refused ≡ start.desk.refused

-- the opening was decided so and not as opened; nothing else was submitted, and nothing was sent
pub record IsRefused (d : Decision) (opening : HubEvent) (a : Answer) (start : Start) (desk : DeskView) (sent : Option (List ℕ)) : Type 0 where
  pub entry : Entry
  pub submitted : IsSubmitted opening a start entry
  pub decision : entry.decision ≡ d
  pub unopened : is_opened d ≡ false
  pub grew : IfSome start.desk.journal (λ J. desk.journal ≡ Some (entry ∷ J))
  pub share : RisesBy 1 start.desk.share desk.share
  pub unsent : sent ≡ start.sent

-- the opening was decided as opened, and its talk ended so
pub record IsServedTo (e : ServeEnd) (opening : HubEvent) (a : Answer) (start : Start) (edge : EdgeView) (desk : DeskView) (sent : Option (List ℕ)) : Type 0 where
  pub entry : Entry
  pub peer : Peer
  pub submitted : IsSubmitted opening a start entry
  pub decision : entry.decision ≡ Opened
  pub named : peer_of opening.kind a ≡ Some peer
  pub outcome : Outcome e (ground_of entry peer start) edge desk sent

-- nothing was submitted and nothing was sent
pub record IsIdle (start : Start) (desk : DeskView) (sent : Option (List ℕ)) : Type 0 where
  pub journal : desk.journal ≡ start.desk.journal
  pub unsent : sent ≡ start.sent

-- how serving ended where no session was opened
abbrev pub IsUnopened : ServeEnd → HubEvent → Answer → Start → DeskView → Type 0
IsUnopened (end.Refused d) opening a start desk = IsRefused d opening a start desk start.sent
IsUnopened end.OutOfMemory opening a start desk = IsIdle start desk start.sent
IsUnopened end.Exhausted opening a start desk = IsIdle start desk start.sent
IsUnopened _ opening a start desk = ⊥

-- how serving ended
abbrev pub Serves : ServeEnd → HubEvent → Answer → Start → EdgeView → DeskView → Option (List ℕ) → Type 0
Serves (end.Refused d) opening a start edge desk sent = IsRefused d opening a start desk sent
Serves end.OutOfMemory opening a start edge desk sent = IsIdle start desk sent ⊎ IsServedTo end.OutOfMemory opening a start edge desk sent
Serves end.Exhausted opening a start edge desk sent = IsIdle start desk sent ⊎ IsServedTo end.Exhausted opening a start edge desk sent
Serves e opening a start edge desk sent = IsServedTo e opening a start edge desk sent

-- a fault of the control ended it
abbrev pub is_fault : ServeEnd → Bool
is_fault end.ReadFault = true
is_fault end.WriteFault = true
is_fault _ = false
