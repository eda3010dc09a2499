-- Reading the line of an event.
use Rattle.std.specs.Prelude.{ℕ, ◌==◌, List, [], ◌∷◌, length, Option, Some, None, if◌then◌else◌}
use Rattle.ftp_base.specs.declared.command.DataChanCmd.TheVariants as command
use Rattle.ftp_events.specs.declared.event.EventKind.{EventKind}
use Rattle.ftp_events.specs.declared.event.EventKind.TheVariants as kind
use Rattle.ftp_events.specs.declared.event.HubEvent.{HubEvent}
use Rattle.ftp_text.specs.declared.event_word.EventWord.{EventWord}
use Rattle.ftp_text.specs.declared.event_word.EventWord.TheVariants as word
use Rattle.ftp_text.specs.Events.{event_word_text, form}
use Rattle.ftp_text.specs.Forms.{Values, Takes, apply, all_read}
use Rattle.ftp_text.specs.Reading.{◌>>=◌, Reader, made, number_at, word_value}

-- all words of events
abbrev pub event_words : List EventWord
event_words =
    word.Connect ∷ word.Proxied ∷ word.Data ∷ word.Accepted ∷ word.User ∷ word.Pass ∷ word.Auth ∷ word.Pasv
    ∷ word.Port ∷ word.Retr ∷ word.Stor ∷ word.Appe ∷ word.List ∷ word.Nlst ∷ word.Mlsd ∷ word.Stou
    ∷ word.Rest ∷ word.Cwd ∷ word.Closed ∷ word.Quit ∷ word.Slot ∷ word.End ∷ word.Piece ∷ word.Sweep
    ∷ word.Abor ∷ word.Internal ∷ word.Idle ∷ word.Scavenge ∷ word.Shutdown ∷ []

-- the word of an event
abbrev pub event_word_field : Reader EventWord
event_word_field = word_value event_word_text event_words

-- the event of each word, as it takes the values behind the word
abbrev pub maker : (w : EventWord) → Takes (form w) EventKind
maker word.Connect = kind.Connect
maker word.Proxied = kind.Proxied
maker word.Data = kind.DataIn
maker word.Accepted = kind.Accepted
maker word.User = kind.User
maker word.Pass = kind.Pass
maker word.Auth = kind.AuthDone
maker word.Pasv = kind.Pasv
maker word.Port = λ s number text. kind.Port s text number
maker word.Retr = λ s path. kind.Transfer s (command.Retr path)
maker word.Stor = λ s path. kind.Transfer s (command.Stor path)
maker word.Appe = λ s path. kind.Transfer s (command.Appe path)
maker word.List = λ s path. kind.Transfer s (command.List None path)
maker word.Nlst = λ s path. kind.Transfer s (command.Nlst path)
maker word.Mlsd = λ s path. kind.Transfer s (command.Mlsd path)
maker word.Stou = kind.Stou
maker word.Rest = kind.Rest
maker word.Cwd = λ s refusal path. kind.Cwd s path refusal
maker word.Closed = kind.Closed
maker word.Quit = kind.Quit
maker word.Slot = kind.SlotTick
maker word.End = λ t. kind.End (record { session = t.0; nr = t.1 })
maker word.Piece = λ t. kind.Piece (record { session = t.0; nr = t.1 })
maker word.Sweep = kind.Sweep
maker word.Abor = kind.Abor
maker word.Internal = kind.Internal
maker word.Idle = kind.IdleTick
maker word.Scavenge = kind.Scavenge
maker word.Shutdown = kind.Shutdown

-- the event of a word and the values behind it
abbrev pub kind_of : (w : EventWord) → Values (form w) → EventKind
kind_of w values = apply (form w) (maker w) values

-- the event that is read by the form of its word
unfoldable pub read_as : EventWord → Reader EventKind
read_as w = made (kind_of w) (all_read (form w))

-- the event behind each word, by cases, so that it is computed where the word is known
abbrev pub fields_at : EventWord → Reader EventKind
fields_at word.Connect = read_as word.Connect
fields_at w = read_as w

-- the event of a whole line
unfoldable pub event_of : List ℕ → Option HubEvent
event_of line = do
  at ← number_at line
  w ← event_word_field at.1
  k ← fields_at w.0 w.1
  if length k.1 == 0 then Some (record { at = at.0; kind = k.0 }) else None
