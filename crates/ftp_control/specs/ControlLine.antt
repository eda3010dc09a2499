-- Lines of a control connection: each ends at its first line feed, and has at most 8,192 bytes with it.
use Rattle.std.specs.Prelude.{◌≡◌, ℕ, ◌+◌, ◌-◌, ◌<◌, ◌≤◌, ⊤, List, [], length, take}
use Rattle.std.specs.List.{position_or_len}
use Rattle.ftp_control.specs.Lines.{is_line_feed, bytes_in, HasNoFeed, IsWithin}
use Rattle.ftp_control.specs.declared.control_line.Held.{Held}
use Rattle.ftp_control.specs.declared.control_line.Got.{Got}
use Rattle.ftp_control.specs.declared.control_line.Got.TheVariants as got

-- the bytes are one line with its line feed
abbrev pub IsLine : List ℕ → Type 0
IsLine line = (position_or_len is_line_feed line + 1 ≡ length line) × (length line ≤ 8192)

-- no line is left, and what is left is not too long for one
abbrev pub RanOut : List ℕ → Type 0
RanOut rest = (position_or_len is_line_feed rest ≡ length rest) × (length rest ≤ 8192)

-- the first line with its line feed, or all that is left without one, is too long
abbrev pub IsLong : List ℕ → Type 0
IsLong rest = 8192 < length (take (position_or_len is_line_feed rest + 1) rest)

-- a part of the buffer is held, and no line feed is among its bytes that were searched
abbrev pub IsHeld : List ℕ → Held → Type 0
IsHeld buffer held =
    IsWithin buffer held.span
    × (held.scanned ≤ held.span.end - held.span.start)
    × (held.scanned ≤ position_or_len is_line_feed (bytes_in buffer held.span))

-- the bytes that are held
abbrev pub held_in : List ℕ → Held → List ℕ
held_in buffer held = bytes_in buffer held.span

-- the line that was found
abbrev pub line_in : List ℕ → Got → List ℕ
line_in buffer (got.Line span) = bytes_in buffer span
line_in buffer _ = []

-- a line that was found stands in the buffer; at the end, before a line that is too long, or in a full buffer, what is held shows it
abbrev pub IsFound : List ℕ → Got → List ℕ → Type 0
IsFound buffer (got.Line span) held = IsWithin buffer span × IsLine (bytes_in buffer span)
IsFound buffer got.End held = RanOut held
IsFound buffer got.Long held = IsLong held
IsFound buffer got.Full held = HasNoFeed held × (length held ≡ length buffer)
IsFound buffer got.Wait held = ⊤
