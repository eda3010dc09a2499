use Rattle.std.proofs.Common.{◌≡◌, ◌+◌, ◌-◌, ◌*◌, ◌≤◌, map}
use Rattle.std.specs.List.{range_with_len}
use Rattle.ftp_script_run.specs.Draws.{stirred_by}
use Rattle.ftp_script_run.specs.Events.{drawn}
use Rattle.ftp_script_run.specs.Keeping.{Takes}
use Rattle.ftp_script_run.proofs.stress_run.Run.draw_all.Given as goal

-- the events before this one were drawn and taken
abbrev pub invariant-loop-k : goal.invariant-loop-k
invariant-loop-k l = record {
  taken : Takes l.initial.self (map (drawn l.seed l.sessions) (range_with_len 1 (l.k - 1))) l.self;
  state : l.draws.state ≡ stirred_by (3 * l.k - 3) l.seed;
  within : l.k ≤ 16 * l.sessions + 1;
}
