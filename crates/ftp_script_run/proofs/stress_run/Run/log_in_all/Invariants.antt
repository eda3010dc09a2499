use Rattle.std.proofs.Common.{◌+◌, ◌-◌, ◌≤◌}
use Rattle.std.specs.List.{flat_map, range_with_len}
use Rattle.ftp_script_run.specs.Events.{login_of}
use Rattle.ftp_script_run.specs.Keeping.{Takes}
use Rattle.ftp_script_run.proofs.stress_run.Run.log_in_all.Given as goal

-- the sessions before this one have logged in
abbrev pub invariant-loop-session : goal.invariant-loop-session
invariant-loop-session l = record {
  taken : Takes l.initial.self (flat_map login_of (range_with_len 1 (l.session - 1))) l.self;
  within : l.session ≤ l.sessions + 1;
}
