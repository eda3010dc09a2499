-- What was read of a source and is not taken yet.
use Rattle.std.specs.Prelude.{◌≡◌, ℕ, ◌<◌, ◌≤◌, ◌⊎◌, List, [], length, drop, Option, Some}
use Rattle.std.specs.List.{position_or_len}
use Rattle.ftp_control.specs.Lines.{is_line_feed}
use Rattle.ftp_check_log.specs.declared.pending.Pending.{Pending}

-- no more was taken than was read
abbrev pub IsInBounds : Pending → Type 0
IsInBounds p = p.start ≤ length p.bytes.items

-- the bytes that are not taken yet
abbrev pub unread : Pending → List ℕ
unread p = drop p.start p.bytes.items

-- a line feed is among the bytes
abbrev pub HasFeed : List ℕ → Type 0
HasFeed bytes = position_or_len is_line_feed bytes < length bytes

-- the bytes show their first line: its line feed is among them, or nothing is left behind them, or they are as many as a log can
-- have
abbrev pub ShowsLine : List ℕ → Option (List ℕ) → Type 0
ShowsLine bytes left = HasFeed bytes ⊎ ((left ≡ Some []) ⊎ (67108864 ≤ length bytes))
