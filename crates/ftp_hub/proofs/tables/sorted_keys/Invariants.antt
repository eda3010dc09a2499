use Rattle.std.proofs.Common.{◌≡◌, ◌++◌, vec_items}
use Rattle.std.specs.HashMap as map
use Rattle.ftp_hub.proofs.tables.sorted_keys.Given as goal

-- the numbers so far, and those that are left
abbrev pub invariant-loop-number : goal.invariant-loop-number
invariant-loop-number g l = vec_items l.numbers ++ l.number-iterator ≡ map.keys l.table
