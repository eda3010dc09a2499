-- What always holds of a board's parts.
use Rattle.std.specs.Prelude.{◌^◌, ◌<◌, ◌≤◌, Option, IfSome}
use Rattle.ftp_switchboard.specs.declared.ports.Range.{Range}
use Rattle.ftp_switchboard.specs.declared.row.Row.{Row}
use Rattle.ftp_switchboard.specs.Bits.{IsSpare}
use Rattle.ftp_switchboard.specs.Rows.{AreRows, Rows}

-- the range has a port, and the rows and the spare one are rows of it
pub record IsInside (range : Range) (table : Rows) (row : Option Row) : Type 0 where
  pub from_one : 1 ≤ range.lo
  pub in_range : range.lo ≤ range.hi
  pub below : range.hi < 2 ^ 16
  pub rows : AreRows range.lo range.hi table
  pub spare : IfSome row (IsSpare range.lo range.hi)
