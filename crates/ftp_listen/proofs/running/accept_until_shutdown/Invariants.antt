use Rattle.std.proofs.Common.{◌≡◌, ◌≤◌}
use Rattle.std.specs.Prelude.{None}
use Rattle.ftp_listen.proofs.running.accept_until_shutdown.Given as goal

-- nobody asked, unless somebody had asked before, and counts never fall
abbrev pub invariant-loop : goal.invariant-loop
invariant-loop g l = record {
  unasked : g.I.Indicator.asked l.fn.indicator ≡ None → g.I.Indicator.asked l.indicator ≡ None;
  spawner : g.P.Spawner.faults l.fn.spawner ≤ g.P.Spawner.faults l.spawner;
  front : g.F.Front.faults l.fn.front ≤ g.F.Front.faults l.front;
}
