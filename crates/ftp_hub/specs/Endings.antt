-- With which events a session ends, and how a transfer goes on or ends.
use Rattle.std.specs.Prelude.{ℕ, Bool, true, false}
use Rattle.ftp_options.specs.declared.options.Options.{Options}
use Rattle.ftp_events.specs.declared.event.EventKind.{EventKind}
use Rattle.ftp_events.specs.declared.event.EventKind.TheVariants as kind
use Rattle.ftp_events.specs.declared.session.Session.{Session}
use Rattle.ftp_events.specs.Classes.{is_ending}
use Rattle.ftp_events.specs.CommandRows.{idle_row}
use Rattle.ftp_handlers.specs.Handlers.{ends_session}

-- the session ends with an event of this kind, where a job of it runs or none: with a look at its idle time, where that was too long
abbrev pub is_over : Options → Bool → ℕ → EventKind → Session → Bool
is_over o runs at (kind.IdleTick s) v = is_ending (idle_row o runs at v)
is_over o runs at k v = ends_session k

-- a piece of a transfer, which may be its last
abbrev pub is_piece : EventKind → Bool
is_piece (kind.Piece ticket) = true
is_piece _ = false
