use Rattle.std.proofs.Common.{◌≡◌, ◌+◌}
use Rattle.ftp_bench.specs.Appending.{taken}
use Rattle.ftp_bench.proofs.plain.Plain.ask_all.Given as goal

-- each event so far was taken
abbrev pub invariant-loop-turn : goal.invariant-loop-turn
invariant-loop-turn l = taken l.self ≡ taken l.fn.self + l.turn
