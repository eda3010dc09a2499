use Rattle.std.proofs.Common.{◌≤◌}
use Rattle.ftp_listen.proofs.spawning.spawn_wanted.Given as goal

-- the count of the spawner never falls
abbrev pub invariant-loop-started : goal.invariant-loop-started
invariant-loop-started g l = g.P.Spawner.faults l.fn.spawner ≤ g.P.Spawner.faults l.spawner
