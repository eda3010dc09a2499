-- The row of one source: the words of its bits, and its ports with their sessions.
use Rattle.std.specs.Prelude.{◌≡◌, ℕ, ◌+◌, ◌-◌, ◌/◌, ◌%◌, ◌<◌, ◌≤◌, nat_eq, List, [], ◌++◌, length, get_or, take, drop, Option, is_some, vec_len, vec_capacity, if◌then◌else◌}
use Rattle.std.specs.Int.{bit_at}
use Rattle.std.specs.Map.{lookup}
use Rattle.ftp_switchboard.specs.declared.row.Row.{Row}
use Rattle.ftp_switchboard.specs.Board.{words_for}

-- bit j of the words
abbrev pub bit_of : List ℕ → ℕ → ℕ
bit_of words j = bit_at (get_or words (j / 64) 0) (j % 64)

-- each bit from a place on and below another is set
abbrev pub AreSet : List ℕ → ℕ → ℕ → Type 0
AreSet words from to = (j : ℕ) → from ≤ j → j < to → bit_of words j ≡ 1

-- the place is the first of these whose bit is clear
pub record IsNextClear (words : List ℕ) (from to place : ℕ) : Type 0 where
  pub after : from ≤ place
  pub below : place < to
  pub clear : bit_of words place ≡ 0
  pub before : AreSet words from place

-- the port of pair i
abbrev pub port_at : List (ℕ × ℕ) → ℕ → ℕ
port_at pairs i = (get_or pairs i (0, 0)).0

-- the session that has the port
abbrev pub session_of : List (ℕ × ℕ) → ℕ → Option ℕ
session_of pairs port = lookup (nat_eq port) pairs

-- the pairs stand in order of ports, each port once
abbrev pub Ascends : List (ℕ × ℕ) → Type 0
Ascends pairs = (i j : ℕ) → i < j → j < length pairs → port_at pairs i < port_at pairs j

-- the place of the first pair whose port is not below this one
pub record IsPlace (pairs : List (ℕ × ℕ)) (port place : ℕ) : Type 0 where
  pub within : place ≤ length pairs
  pub lower : (i : ℕ) → i < place → port_at pairs i < port
  pub upper : (i : ℕ) → place ≤ i → i < length pairs → port ≤ port_at pairs i

-- one more pair takes no memory
abbrev pub HasPlace : Row → Type 0
HasPlace row = vec_len row.pairs < vec_capacity row.pairs

-- words and pairs of a range are alike: the bits are exactly the ports of the pairs, which ascend and lie in the range
pub record AreAlike (lo hi : ℕ) (words : List ℕ) (pairs : List (ℕ × ℕ)) : Type 0 where
  pub width : length words ≡ words_for lo hi
  pub bits : (j : ℕ) → lo + j ≤ hi → bit_of words j ≡ (if is_some (session_of pairs (lo + j)) then 1 else 0)
  pub ascends : Ascends pairs
  pub inside : (i : ℕ) → i < length pairs → (lo ≤ port_at pairs i) × (port_at pairs i ≤ hi)

-- a row of the range
abbrev pub IsRow : ℕ → ℕ → Row → Type 0
IsRow lo hi row = AreAlike lo hi row.words.items row.pairs.items

-- a row of the table: one that holds a port
abbrev pub IsHeldRow : ℕ → ℕ → Row → Type 0
IsHeldRow lo hi row = IsRow lo hi row × (0 < length row.pairs.items)

-- a row of the range of which no port is held, with a place for one
pub record IsSpare (lo hi : ℕ) (row : Row) : Type 0 where
  pub is_row : IsRow lo hi row
  pub empty : row.pairs.items ≡ []
  pub place : HasPlace row

-- how many more pairs of a row take no memory
abbrev pub places_of : Row → ℕ
places_of row = vec_capacity row.pairs - vec_len row.pairs

-- the pairs that are left: those kept so far, and those from a place on
abbrev pub left : ℕ → ℕ → List (ℕ × ℕ) → List (ℕ × ℕ)
left kept place pairs = take kept pairs ++ drop place pairs
