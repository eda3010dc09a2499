-- What is written once or twice: where there is a second copy, it equals the first.
use Rattle.std.specs.Prelude.{ℕ, ◌≤◌, List, Bool, Option}
use Rattle.ftp_events.specs.declared.action.Action.{Action}
use Rattle.ftp_handlers.specs.declared.telling.Told.{Told}

-- a text, the room of its buffer and that of the copy's, and whether there is a copy
pub record TextState : Type 0 where
  pub items : List ℕ
  pub room : ℕ
  pub copy_room : ℕ
  pub twice : Bool

-- actions in order, how many have places, and whether there is a copy
pub record ListState : Type 0 where
  pub items : List Action
  pub places : ℕ
  pub twice : Bool

-- a session that a stop ends, and the user who is said to have gone
pub record Leaver : Type 0 where
  pub session : ℕ
  pub user : List ℕ

-- the sessions that a stop ends, in order, and whether each name has a copy
pub record LeaversState : Type 0 where
  pub items : List Leaver
  pub twice : Bool

-- what an event tells, and whether that has a copy
pub record TellingState : Type 0 where
  pub told : Option Told
  pub twice : Bool

-- room for a text of so many bytes
pub record IsWide (width : ℕ) (text : TextState) : Type 0 where
  pub first : width ≤ text.room
  pub second : width ≤ text.copy_room
