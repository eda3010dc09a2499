-- How serving a control connection ends where more is done on some lines than the profile does.
use Rattle.std.specs.Prelude.{◌≡◌, ℕ, ◌⊎◌, List, Option, Some}
use Rattle.ftp_base.specs.Edge.{EdgeView}
use Rattle.ftp_events.specs.declared.decision.Decision.TheVariants.{Opened}
use Rattle.ftp_events.specs.declared.entry.Entry.{Entry}
use Rattle.ftp_events.specs.declared.event.Answer.{Answer}
use Rattle.ftp_events.specs.declared.event.HubEvent.{HubEvent}
use Rattle.ftp_shared.specs.Desk.{DeskView}
use Rattle.ftp_talk.specs.declared.control_session.Peer.{Peer}
use Rattle.ftp_talk.specs.declared.serving.ServeEnd.{ServeEnd}
use Rattle.ftp_talk.specs.declared.serving.ServeEnd.TheVariants as end
use Rattle.ftp_talk.specs.Control.{peer_of, ground_of, IsSubmitted, IsRefused, IsIdle}
use Rattle.ftp_talk.specs.Extended.{OutcomeWith}
use Rattle.ftp_talk.specs.Ground.{Start}
use Rattle.ftp_talk.specs.Parts.{MayDoSo}

-- the opening was decided as opened, and its talk ended so
pub record IsServedWith (may : MayDoSo) (first : Option (List ℕ)) (e : ServeEnd) (opening : HubEvent) (a : Answer) (start : Start) (edge : EdgeView) (desk : DeskView) (sent : Option (List ℕ)) : Type 0 where
  pub entry : Entry
  pub peer : Peer
  pub submitted : IsSubmitted opening a start entry
  pub decision : entry.decision ≡ Opened
  pub named : peer_of opening.kind a ≡ Some peer
  pub outcome : OutcomeWith may first e (ground_of entry peer start) edge desk sent

-- how serving ended
abbrev pub ServesWith : MayDoSo → Option (List ℕ) → ServeEnd → HubEvent → Answer → Start → EdgeView → DeskView → Option (List ℕ) → Type 0
ServesWith may first (end.Refused d) opening a start edge desk sent = IsRefused d opening a start desk sent
ServesWith may first end.OutOfMemory opening a start edge desk sent =
    IsIdle start desk sent ⊎ IsServedWith may first end.OutOfMemory opening a start edge desk sent
ServesWith may first end.Exhausted opening a start edge desk sent =
    IsIdle start desk sent ⊎ IsServedWith may first end.Exhausted opening a start edge desk sent
ServesWith may first e opening a start edge desk sent = IsServedWith may first e opening a start edge desk sent
