use Rattle.std.proofs.Common.{◌≤◌}
use Rattle.ftp_listen.proofs.running.drain.Given as goal

-- counts never fall
abbrev pub invariant-loop : goal.invariant-loop
invariant-loop g l = record {
  spawner : g.P.Spawner.faults l.fn.spawner ≤ g.P.Spawner.faults l.spawner;
  front : g.F.Front.faults l.fn.front ≤ g.F.Front.faults l.front;
}
