use Rattle.std.proofs.Common.{◌≡◌, ◌+◌}
use Rattle.ftp_bench.proofs.shared.ask_all.Given as goal

-- each event so far was counted
abbrev pub invariant-loop-turn : goal.invariant-loop-turn
invariant-loop-turn g l = l.share.count ≡ l.fn.share.count + l.turn
