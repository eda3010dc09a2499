-- What a talk rests on, and its turns.
--
-- A talk is what is said on one control connection, from the opening of its session on. A turn is one entry of it, with
-- what it stands for: a line of the client, or what came to pass besides. Turns stand newest first, as entries do in a log.
use Rattle.std.specs.Prelude.{ℕ, Bool, List, [], ◌∷◌, ◌++◌, Option}
use Rattle.ftp_base.specs.declared.reply.Reply.{Reply}
use Rattle.ftp_base.specs.declared.net.IpAddr.{IpAddr}
use Rattle.ftp_base.specs.declared.login.AuthAnswer.{AuthAnswer}
use Rattle.ftp_base.specs.Edge.{EdgeView}
use Rattle.ftp_events.specs.declared.entry.Entry.{Entry}
use Rattle.ftp_shared.specs.Desk.{DeskView}

-- what a turn stands for: a line of the client with its line feed, the authenticator's answer, a look at the idle time, a
-- look at the slot, a line that is too long and stands next, or the end of the connection
pub data Step : Type 0 where
  ALine : (line : List ℕ) → Step
  AnAnswer : Step
  AnIdleTick : Step
  ASlotTick : Step
  ALongLine : Step
  AClose : Step

-- what it stands for, the replies to the session that came before its entry, and the entry
pub record Turn : Type 0 where
  pub step : Step
  pub earlier : List (ℕ × Reply)
  pub entry : Entry

-- edge, desk and control as a call began, and what no call changes: which answers the authenticator may give, whether the
-- control can be read at any time, and whether the desk vouches for its entries and draws the number behind the greatest
pub record Start : Type 0 where
  pub edge : EdgeView
  pub desk : DeskView
  pub input : Option (List ℕ)
  pub sent : Option (List ℕ)
  pub answers : List ℕ → List ℕ → IpAddr → AuthAnswer → Bool
  pub ready : Bool
  pub vouches : Bool
  pub draws_next : Bool

-- what a talk rests on: the entry that opened its session, the addresses of the peer and of the client, and how all stood
-- before that entry
pub record Ground : Type 0 where
  pub session : ℕ
  pub raw : IpAddr
  pub client : IpAddr
  pub opening : Entry
  pub start : Start

-- the entries of a talk, from the opening of its session on
abbrev pub history : Ground → List Turn → List Entry
history g [] = g.opening ∷ []
history g (t ∷ ts) = t.entry ∷ history g ts

-- the bytes of a line, where the turn stands for one
abbrev pub line_of : Step → List ℕ
line_of (ALine line) = line
line_of _ = []

-- the bytes of the lines, in their order
abbrev pub lines_in : List Turn → List ℕ
lines_in [] = []
lines_in (t ∷ ts) = lines_in ts ++ line_of t.step
