use Rattle.std.proofs.Common.{◌≡◌, ◌+◌, ◌-◌, ◌≤◌}
use Rattle.ftp_bench.specs.Appending.{taken}
use Rattle.ftp_bench.proofs.plain.Plain.connect_all.Given as goal

-- each session so far has connected; none does where the lane has none
abbrev pub invariant-loop-session : goal.invariant-loop-session
invariant-loop-session l = record {
  taken : taken l.self ≡ taken l.fn.self + (l.session - l.fn.lane.first);
  idle : l.fn.lane.end ≤ l.fn.lane.first → l.session ≡ l.fn.lane.first;
}
