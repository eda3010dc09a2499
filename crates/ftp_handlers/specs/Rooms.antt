-- What a room holds.
use Rattle.std.specs.Prelude.{◌≡◌, ℕ, ◌+◌, ◌*◌, ◌<◌, ◌≤◌, List, [], length, Bool, IsTrue, true, false, Option, Some, None}
use Rattle.ftp_transfer.specs.declared.job.Job.{Job}
use Rattle.ftp_events.specs.declared.action.Action.{Action}
use Rattle.ftp_events.specs.declared.action.Action.TheVariants as action
use Rattle.ftp_events.specs.declared.session.Pending.{Pending}
use Rattle.ftp_handlers.specs.declared.telling.Told.{Told}
use Rattle.ftp_handlers.specs.declared.room.Need.{Need}
use Rattle.ftp_handlers.specs.declared.room.Need.TheVariants.{Nothing, Header, Run, Piece}
use Rattle.ftp_handlers.specs.Copies.{IsWide, Leaver, TextState}

-- what contracts see of a room
pub record RoomState : Type 0 where
  pub count : ℕ
  pub job : Option Job
  pub need : Need
  pub kept : TextState
  pub path : List ℕ
  pub pending : Option Pending
  pub telling : Option Told
  pub leavers : List Leaver
  pub text : TextState
  pub dropped : TextState
  pub actions : List Action
  pub places : ℕ
  pub twice : Bool
  pub used : Bool
  pub stops : Bool

-- the actions that were put in, in order
abbrev pub actions_in : RoomState → List Action
actions_in room = room.actions

-- how many they are
abbrev pub len_in : RoomState → ℕ
len_in room = length room.actions

-- each action is put in twice
abbrev pub twice_in : RoomState → Bool
twice_in room = room.twice

-- what has to be done outside
abbrev pub need_in : RoomState → Need
need_in room = room.need

-- the job that is to be run
abbrev pub job_in : RoomState → Option Job
job_in room = room.job

-- what has to be done outside where a header is to be read, or else for a job that is to be run, or a piece of it
abbrev pub need_for : Bool → Bool → Option Job → Need
need_for true piece job = Header
need_for false piece None = Nothing
need_for false true (Some job) = Piece job.ticket
need_for false false (Some job) = Run job.ticket

-- the name or the path that the event keeps or tells
abbrev pub kept_in : RoomState → List ℕ
kept_in room = room.kept.items

-- what the event tells, where it is a message
abbrev pub telling_in : RoomState → Option Told
telling_in room = room.telling

-- the sessions that a stop still has to end, in order
abbrev pub leavers_in : RoomState → List Leaver
leavers_in room = room.leavers

-- one more action has a place
abbrev pub HasPlace : RoomState → Type 0
HasPlace room = len_in room < room.places

-- n more actions have places
abbrev pub HasPlaces : ℕ → RoomState → Type 0
HasPlaces n room = len_in room + n ≤ room.places

-- no event has more actions for one session, but for QUIT, the end of an idle session and that of a job, which have one more
abbrev pub most_actions : ℕ
most_actions = 4

-- the actions of all who still have to leave have places
abbrev pub HasLeave : RoomState → Type 0
HasLeave room = HasPlaces (most_actions * length (leavers_in room)) room

-- where all is put in twice, there is a copy of this path
abbrev pub HasCopy : RoomState → List ℕ → Type 0
HasCopy room path = IsTrue (twice_in room) → room.path ≡ path

-- an action has no text
abbrev pub is_plain : Action → Bool
is_plain (action.Notify session meta what) = false
is_plain (action.Reply session delay reply) = false
is_plain _ = true

-- nothing was put in, and the actions of one session have places
pub record IsReady (room : RoomState) : Type 0 where
  pub actions : room.actions ≡ []
  pub none : len_in room ≡ 0
  pub places : most_actions ≤ room.places
  pub text : room.text.items ≡ []
  pub dropped : room.dropped.items ≡ []

-- a reply has room for a text of so many bytes
abbrev pub CanReply : ℕ → RoomState → Type 0
CanReply width room = IsWide width room.text

-- so has the reply on a transfer that is dropped
abbrev pub CanTellDropped : RoomState → Type 0
CanTellDropped room = IsWide 64 room.dropped
