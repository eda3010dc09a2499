-- How events are spelled: each event has one line, its moment, its word and the fields of the word's form.
use Rattle.std.specs.Prelude.{◌≡◌, ℕ, ◌^◌, ◌<◌, Bool, true, false, List, ◌++◌, codes, decimal, None}
use Rattle.ftp_base.specs.declared.command.DataChanCmd.TheVariants as command
use Rattle.ftp_events.specs.declared.event.EventKind.{EventKind}
use Rattle.ftp_events.specs.declared.event.EventKind.TheVariants as kind
use Rattle.ftp_events.specs.declared.event.HubEvent.{HubEvent}
use Rattle.ftp_text.specs.declared.event_word.EventWord.{EventWord}
use Rattle.ftp_text.specs.declared.event_word.EventWord.TheVariants as word
use Rattle.ftp_text.specs.Fields.{field}
use Rattle.ftp_text.specs.Forms.{Form, Nothing, Last, Text, MaybeText, Message, ◌▸◌, Number, Port, Address, Ticket, Answer, Refusal, HexWord, MaybeIp, MaybePort, MaybeNumber, Values, all_spelled, AllFit, Takes, gather}

-- the word of each kind of event
abbrev pub event_word_text : EventWord → List ℕ
event_word_text word.Connect = codes "connect"
event_word_text word.Proxied = codes "proxied"
event_word_text word.Data = codes "data"
event_word_text word.Accepted = codes "accepted"
event_word_text word.User = codes "user"
event_word_text word.Pass = codes "pass"
event_word_text word.Auth = codes "auth"
event_word_text word.Pasv = codes "pasv"
event_word_text word.Port = codes "port"
event_word_text word.Retr = codes "retr"
event_word_text word.Stor = codes "stor"
event_word_text word.Appe = codes "appe"
event_word_text word.List = codes "list"
event_word_text word.Nlst = codes "nlst"
event_word_text word.Mlsd = codes "mlsd"
event_word_text word.Stou = codes "stou"
event_word_text word.Rest = codes "rest"
event_word_text word.Cwd = codes "cwd"
event_word_text word.Closed = codes "closed"
event_word_text word.Quit = codes "quit"
event_word_text word.Slot = codes "slot"
event_word_text word.End = codes "end"
event_word_text word.Piece = codes "piece"
event_word_text word.Sweep = codes "sweep"
event_word_text word.Abor = codes "abor"
event_word_text word.Internal = codes "internal"
event_word_text word.Idle = codes "idle"
event_word_text word.Scavenge = codes "scavenge"
event_word_text word.Shutdown = codes "shutdown"

-- the form of each line: what stands behind its word
abbrev pub form : EventWord → Form
form word.Connect = Number ▸ Address ▸ Address ▸ Last Number
form word.Proxied = Number ▸ Address ▸ Last Number
form word.Data = Number ▸ Address ▸ Last Port
form word.Accepted = Number ▸ Number ▸ Last Address
form word.User = Number ▸ Text
form word.Pass = Last Number
form word.Auth = Number ▸ Last Answer
form word.Pasv = Number ▸ Port ▸ MaybeIp ▸ Last MaybePort
form word.Port = Number ▸ MaybeNumber ▸ Text
form word.Retr = Number ▸ Text
form word.Stor = Number ▸ Text
form word.Appe = Number ▸ Text
form word.List = Number ▸ MaybeText
form word.Nlst = Number ▸ MaybeText
form word.Mlsd = Number ▸ MaybeText
form word.Stou = Number ▸ Last HexWord
form word.Rest = Number ▸ Last Number
form word.Cwd = Number ▸ Refusal ▸ Text
form word.Closed = Last Number
form word.Quit = Last Number
form word.Slot = Last Number
form word.End = Last Ticket
form word.Piece = Last Ticket
form word.Sweep = Nothing
form word.Abor = Last Number
form word.Internal = Number ▸ Message
form word.Idle = Last Number
form word.Scavenge = Nothing
form word.Shutdown = Nothing

-- what a line says: its word, and the values of its form
abbrev pub Told : Type 0
Told = (w : EventWord) × Values (form w)

-- the word, and the values one after the other
abbrev pub say : (w : EventWord) → Takes (form w) Told
say w = gather (form w) (λ values. (w, values))

-- what the line of each event says
abbrev pub told : EventKind → Told
told (kind.Connect s raw local trace) = say word.Connect s raw local trace
told (kind.Proxied n raw trace) = say word.Proxied n raw trace
told (kind.DataIn n raw port) = say word.Data n raw port
told (kind.Accepted s n raw) = say word.Accepted s n raw
told (kind.User s name) = say word.User s name
told (kind.Pass s) = say word.Pass s
told (kind.AuthDone s answer) = say word.Auth s answer
told (kind.Pasv s random lookup bound) = say word.Pasv s random lookup bound
told (kind.Port s text number) = say word.Port s number text
told (kind.Transfer s (command.Retr path)) = say word.Retr s path
told (kind.Transfer s (command.Stor path)) = say word.Stor s path
told (kind.Transfer s (command.Appe path)) = say word.Appe s path
told (kind.Transfer s (command.List options path)) = say word.List s path
told (kind.Transfer s (command.Nlst path)) = say word.Nlst s path
told (kind.Transfer s (command.Mlsd path)) = say word.Mlsd s path
told (kind.Stou s random) = say word.Stou s random
told (kind.Rest s offset) = say word.Rest s offset
told (kind.Cwd s path refusal) = say word.Cwd s refusal path
told (kind.Closed s) = say word.Closed s
told (kind.Quit s) = say word.Quit s
told (kind.SlotTick s) = say word.Slot s
told (kind.End t) = say word.End (t.session, t.nr)
told (kind.Piece t) = say word.Piece (t.session, t.nr)
told kind.Sweep = say word.Sweep
told (kind.Abor s) = say word.Abor s
told (kind.Internal s message) = say word.Internal s message
told (kind.IdleTick s) = say word.Idle s
told kind.Scavenge = say word.Scavenge
told kind.Shutdown = say word.Shutdown

-- the line says where a connection is from
abbrev pub is_connection : EventKind → Bool
is_connection (kind.Connect s raw local trace) = true
is_connection (kind.Proxied n raw trace) = true
is_connection (kind.DataIn n raw port) = true
is_connection (kind.Accepted s n raw) = true
is_connection _ = false

-- the line says no more than a session behind the word
abbrev pub is_short : EventKind → Bool
is_short (kind.Pass s) = true
is_short (kind.Abor s) = true
is_short (kind.Quit s) = true
is_short (kind.Closed s) = true
is_short (kind.SlotTick s) = true
is_short (kind.IdleTick s) = true
is_short kind.Sweep = true
is_short kind.Scavenge = true
is_short kind.Shutdown = true
is_short _ = false

-- the word as a field
abbrev pub word_field : EventWord → List ℕ
word_field w = field (event_word_text w)

-- the word and the values, as the form spells them
abbrev pub told_text : Told → List ℕ
told_text x = word_field x.0 ++ all_spelled (form x.0) x.1

-- the word and the fields of an event, by cases, so that they are computed where the event is known
abbrev pub kind_fields : EventKind → List ℕ
kind_fields (kind.Transfer s (command.Retr path)) = told_text (told (kind.Transfer s (command.Retr path)))
kind_fields k = told_text (told k)

-- the one line of an event; of a message that has no word it tells the session alone, and no event is read from that
abbrev pub event_line : HubEvent → List ℕ
event_line e = decimal e.at ++ kind_fields e.kind

-- LIST has no options: a line has no place for them
abbrev pub HasNoOptions : EventKind → Type 0
HasNoOptions (kind.Transfer s (command.List options path)) = options ≡ None
HasNoOptions _ = Unit {0}

-- the values lie in the ranges of their types
abbrev pub InRange : Told → Type 0
InRange x = AllFit (form x.0) x.1

-- the fields lie in the ranges of their types, and a line has a place for all of them
abbrev pub IsKind : EventKind → Type 0
IsKind k = InRange (told k) × HasNoOptions k

-- the moment and the fields lie in the ranges of their types
abbrev pub IsEvent : HubEvent → Type 0
IsEvent e = (e.at < 2 ^ 64) × IsKind e.kind
