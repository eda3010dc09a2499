-- The table of rows by source, and the map that it stands for.
use Rattle.std.specs.Prelude.{◌≡◌, ℕ, ◌^◌, ◌<◌, nat_eq, List, length, get_or, map, Option, IfSome, IsSomeAnd, is_some, unwrap_or, if◌then◌else◌}
use Rattle.std.specs.FinMap as finmap
use Rattle.std.specs.HashMap.{HashMap, IsUnique, spare}
use Rattle.std.specs.List.{flat_map}
use Rattle.std.specs.Map.{lookup}
use Rattle.std.specs.Option.{option_and_then, option_map}
use Rattle.std.specs.declared.hash.BuildHasherDefault.{BuildHasherDefault}
use Rattle.std.specs.declared.hash.FoldHasher.{FoldHasher}
use Rattle.ftp_switchboard.specs.declared.key.SwitchboardKey.{SwitchboardKey}
use Rattle.ftp_switchboard.specs.declared.row.Row.{Row}
use Rattle.ftp_switchboard.specs.Board.{Held, Room, key}
use Rattle.ftp_switchboard.specs.Bits.{Ascends, IsHeldRow, places_of, session_of}

-- the table of rows by source
abbrev pub Rows : Type 0
Rows = HashMap ℕ Row (BuildHasherDefault FoldHasher)

-- the row of the source
abbrev pub row_of : Rows → ℕ → Option Row
row_of rows source = lookup (nat_eq source) rows.entries

-- the session that holds the port for the source
abbrev pub holder_in : Rows → ℕ → ℕ → Option ℕ
holder_in rows source port = option_and_then (λ row. session_of row.pairs.items port) (row_of rows source)

-- each source has one row at most, and each row in the table holds a port
pub record AreRows (lo hi : ℕ) (rows : Rows) : Type 0 where
  pub unique : IsUnique nat_eq rows
  pub each : (source : ℕ) → IfSome (row_of rows source) (IsHeldRow lo hi)

-- the pair stands at the place in the source's row
pub record StandsAt (rows : Rows) (k : SwitchboardKey) (place session : ℕ) : Type 0 where
  pub stands : IsSomeAnd (row_of rows k.source) (λ row. (place < length row.pairs.items) × (get_or row.pairs.items place (0, 0) ≡ (k.port, session)))

-- the holds of a source's row
abbrev pub holds_of : ℕ × Row → List (SwitchboardKey × ℕ)
holds_of e = map (λ (pair : ℕ × ℕ). (key e.0 pair.0, pair.1)) e.1.pairs.items

-- the map that the table stands for
abbrev pub held_by : Rows → Held
held_by rows = finmap.from_entries (flat_map holds_of rows.entries)

-- how many new rows with a pair take no memory
abbrev pub new_rows : Rows → Option Row → ℕ
new_rows rows row = if is_some row then spare rows else 0

-- the room of the table with a spare row
abbrev pub room_of : Rows → Option Row → Room
room_of rows row = record { rows = map (λ (e : ℕ × Row). (e.0, places_of e.1)) rows.entries; new = new_rows rows row }

-- how many more holds of the source take no memory
abbrev pub places_in : Rows → Option Row → ℕ → ℕ
places_in rows row source = unwrap_or (option_map places_of (row_of rows source)) (new_rows rows row)

-- the pairs of each row ascend, and their places fit 16 bits
abbrev pub AreInOrder : Rows → Type 0
AreInOrder rows = (source : ℕ) → IfSome (row_of rows source) (λ row. Ascends row.pairs.items × (length row.pairs.items < 2 ^ 16))
