use Rattle.std.proofs.Common.{◌<◌, length}
use Rattle.ftp_bench.proofs.serving.packet.Given as goal

-- there are commands
abbrev pub invariant-loop-i : goal.invariant-loop-i
invariant-loop-i l = 0 < length l.packet.items
