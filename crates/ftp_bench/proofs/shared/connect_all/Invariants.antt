use Rattle.std.proofs.Common.{◌≡◌, ◌-◌, ◌≤◌}
use Rattle.ftp_bench.proofs.shared.connect_all.Given as goal

-- each session so far was counted; none is where the lane has none
abbrev pub invariant-loop-session : goal.invariant-loop-session
invariant-loop-session g l = record {
  counted : l.share.count ≡ l.session - l.fn.lane.first;
  idle : l.fn.lane.end ≤ l.fn.lane.first → l.session ≡ l.fn.lane.first;
}
