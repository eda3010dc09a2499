use Rattle.std.proofs.Common.{[], arith}
use Rattle.std.specs.List.{flat_map, range_with_len}
use Rattle.ftp_script_run.specs.Events.{login_of, kinds}
use Rattle.ftp_script_run.specs.Stress.{log_after}
use Rattle.ftp_script_run.specs.Keeping.{Keeps}
use Rattle.ftp_script_run.proofs.StressRunLemmas.{if_ok-then, length-logins}
use Rattle.ftp_script_run.proofs.stress_run.Run.lines.Goals as goal

pub log_in_all-requires : goal.log_in_all-requires
log_in_all-requires c = record { limit = c.requires.limit; place = ([], c.requires.new, omega (arith, c.requires.limit)) }

pub draw_all-requires-clause-place : goal.draw_all-requires-clause-place
draw_all-requires-clause-place c = (
  flat_map login_of (range_with_len 1 c.args.sessions),
  c.in_ok-log_in_all.ensures [] c.requires.new,
  omega (arith, length-logins 1 c.args.sessions, c.requires.limit),
)

pub returns : goal.returns
returns c =
    let kept : Keeps c.draw_all.new.self (kinds c.args.seed c.args.sessions) =
    c.in_ok-draw_all.ensures (flat_map login_of (range_with_len 1 c.args.sessions)) (c.in_ok-log_in_all.ensures [] c.requires.new) in
    if_ok-then c.lines.result c.lines.ensures (λ text lines. lines (log_after (kinds c.args.seed c.args.sessions)) kept.counts)
