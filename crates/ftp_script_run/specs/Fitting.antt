-- What the lines of a state say fits their types.
use Rattle.std.specs.Prelude.{◌≡◌, ◌^◌, ◌<◌, true}
use Rattle.std.specs.List.{AllByRecursion}
use Rattle.ftp_hub.specs.declared.state.HubState.{HubState}
use Rattle.ftp_hub.specs.declared.state.JobLine.{JobLine}
use Rattle.ftp_hub.specs.declared.state.QueuedLine.{QueuedLine}
use Rattle.ftp_hub.specs.declared.state.RecordLine.{RecordLine}
use Rattle.ftp_hub.specs.declared.state.SessionLine.{SessionLine}
use Rattle.ftp_hub.specs.declared.state.SlotLine.{SlotLine}
use Rattle.ftp_switchboard.specs.declared.numbers.Interval.{Interval}
use Rattle.ftp_text.specs.Fields.{Each, IsIp, IsNumber}
use Rattle.ftp_text.specs.Spelling.{IsJobLine, IsPiece, IsQueuedLine, IsSessionLine, IsSlotKind, is_from_root}

-- the ends of an interval
abbrev pub FitsInterval : Interval → Type 0
FitsInterval i = IsNumber i.lo × IsNumber i.hi

-- the numbers, the address and the name of a record
pub record FitsRecord (r : RecordLine) : Type 0 where
  pub count : r.count < 2 ^ 32
  pub at : IsNumber r.at
  pub ip : Each IsIp r.ip
  pub user : Each IsPiece r.user

-- what a session says, where its directory begins with a slash
abbrev pub FitsSession : SessionLine → Type 0
FitsSession s = is_from_root s.cwd ≡ true → IsSessionLine s

-- what a slot says
pub record FitsSlot (l : SlotLine) : Type 0 where
  pub session : IsNumber l.session
  pub at : IsNumber l.at
  pub what : IsSlotKind l.what

-- what a waiting transfer says, where its path begins with a slash
abbrev pub FitsQueued : QueuedLine → Type 0
FitsQueued q = is_from_root q.path ≡ true → IsQueuedLine q

-- what a running transfer says, where its path begins with a slash
abbrev pub FitsJob : JobLine → Type 0
FitsJob j = is_from_root j.job.path ≡ true → IsJobLine j

-- what all lines of a state say
pub record FitsState (x : HubState) : Type 0 where
  pub events : IsNumber x.events
  pub used : AllByRecursion FitsInterval x.used
  pub records : AllByRecursion FitsRecord x.records
  pub sessions : AllByRecursion FitsSession x.sessions
  pub slots : AllByRecursion FitsSlot x.slots
  pub queued : AllByRecursion FitsQueued x.queued
  pub jobs : AllByRecursion FitsJob x.jobs
