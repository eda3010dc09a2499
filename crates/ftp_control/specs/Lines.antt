-- The lines of a text: each ends in a line feed, which the last may lack.
use Rattle.std.specs.Prelude.{◌≡◌, ℕ, ◌+◌, ◌-◌, ◌<◌, ◌≤◌, ◌==◌, Bool, List, [], ◌++◌, length, take, drop, Option, Some, None, Result, Ok, Err}
use Rattle.std.specs.List.{position_or_len}
use Rattle.ftp_control.specs.declared.lines.NextLineError.{NextLineError}
use Rattle.ftp_control.specs.declared.lines.NextLineError.TheVariants as error
use Rattle.ftp_control.specs.declared.lines.Span.{Span}

-- whether the byte ends a line
abbrev pub is_line_feed : ℕ → Bool
is_line_feed b = b == 10

-- the first line, without its line feed
abbrev pub first_line : List ℕ → List ℕ
first_line bytes = take (position_or_len is_line_feed bytes) bytes

-- what stands behind the first line and its line feed
abbrev pub behind_line : List ℕ → List ℕ
behind_line bytes = drop (position_or_len is_line_feed bytes + 1) bytes

-- the bytes of a span
abbrev pub bytes_in : List ℕ → Span → List ℕ
bytes_in bytes span = take (span.end - span.start) (drop span.start bytes)

-- the span is a part of the buffer
abbrev pub IsWithin : List ℕ → Span → Type 0
IsWithin buffer span = (span.start ≤ span.end) × (span.end ≤ length buffer)

-- what is held and what is left are these bytes, where the source tells what is left
abbrev pub Rest : List ℕ → Option (List ℕ) → List ℕ → Type 0
Rest held None bytes = ⊥
Rest held (Some left) bytes = held ++ left ≡ bytes

-- of these bytes at most so many were taken from the source, from the front, and all others are left
pub record TakesAtMost (size : ℕ) (bytes : List ℕ) (left : Option (List ℕ)) : Type 0 where
  pub taken : List ℕ
  pub rest : List ℕ
  pub bytes_are : taken ++ rest ≡ bytes
  pub left_is : left ≡ Some rest
  pub at_most : length taken ≤ size

-- no line feed is among the bytes
abbrev pub HasNoFeed : List ℕ → Type 0
HasNoFeed bytes = position_or_len is_line_feed bytes ≡ length bytes

-- what a search over these bytes answers: the first line, which stands in the buffer, and what is held and left is behind it;
-- at the end nothing is held or left, and after a fault what is held is the begin of a line
abbrev pub IsNext : ℕ → List ℕ → Result (Option Span) NextLineError → List ℕ → List ℕ → Option (List ℕ) → Type 0
IsNext limit bytes (Ok (Some line)) buffer held left =
    (0 < length bytes) × (bytes_in buffer line ≡ first_line bytes) × (length (first_line bytes) ≤ limit) × Rest held left (behind_line bytes)
IsNext limit bytes (Ok None) buffer held left = (bytes ≡ []) × (held ≡ []) × (left ≡ Some [])
IsNext limit bytes (Err error.Long) buffer held left = limit < length (first_line bytes)
IsNext limit bytes (Err error.Fault) buffer held left = Rest held left bytes × HasNoFeed held
