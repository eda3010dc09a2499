use Rattle.std.proofs.Common.{◌≡◌, ◌++◌, take}
use Rattle.ftp_lockout.proofs.restoring.copy_block.Given as goal

-- the records of the block so far are added
abbrev pub invariant-loop-record : goal.invariant-loop-record
invariant-loop-record l = l.records.items ≡ l.fn.records.items ++ take l.record-index l.block.items
