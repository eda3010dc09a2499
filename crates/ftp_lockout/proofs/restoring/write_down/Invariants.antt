use Rattle.std.proofs.Common.{◌≡◌, take}
use Rattle.ftp_lockout.specs.Places.{records_in}
use Rattle.ftp_lockout.proofs.restoring.write_down.Given as goal

-- the records of the blocks so far are written down
abbrev pub invariant-loop-block : goal.invariant-loop-block
invariant-loop-block l = l.records.items ≡ records_in (take l.block-index l.blocks)
