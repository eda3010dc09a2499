use Rattle.std.proofs.Common.{◌≡◌, ◌+◌, ◌-◌, ◌*◌, ℕ, arith, subst}
use Rattle.std.specs.List.{flat_map, range_with_len}
use Rattle.ftp_script_run.specs.Events.{login_of}
use Rattle.ftp_script_run.specs.Keeping.{Takes}
use Rattle.ftp_script_run.proofs.StressRunLemmas.{takes-none, place-after, length-logins, logins-next}
use Rattle.ftp_script_run.proofs.stress_run.Run.log_in_all.Goals as goal

pub loop-session-init : goal.loop-session-init
loop-session-init c = record { taken = takes-none c.args.self.now; within = omega arith }

pub log_in-requires : goal.log_in-requires
log_in-requires c =
    place-after c.args.self.now c.loop-session.self (flat_map login_of (range_with_len 1 (c.loop-session.session - 1))) (4 * c.args.sessions) 4
    c.requires.place c.loop-session.invariant.taken
    (omega (arith, length-logins 1 (c.loop-session.session - 1), c.loop-session-test.true, c.loop-session.auto.session))

pub loop-session-preserved : goal.loop-session-preserved
loop-session-preserved c = record {
  taken = logins-next c.args.self.now c.loop-session.self c.log_in.new.self c.loop-session.session c.loop-session.auto.session c.loop-session.invariant.taken c.in_ok-log_in.ensures;
  within = omega (arith, c.loop-session-test.true);
}

pub returns : goal.returns
returns c =
    let all : c.loop-session.session - 1 ≡ c.args.sessions = omega (arith, c.loop-session-test.false, c.loop-session.invariant.within) in
    subst (λ (n : ℕ). Takes c.args.self.now (flat_map login_of (range_with_len 1 n)) c.loop-session.self) all c.loop-session.invariant.taken

pub returns-in_ok-log_in : goal.returns-in_ok-log_in
returns-in_ok-log_in c =
    let all : (c.loop-session.session + 1) - 1 ≡ c.args.sessions = omega arith in
    subst (λ (n : ℕ). Takes c.args.self.now (flat_map login_of (range_with_len 1 n)) c.log_in.new.self) all
    (logins-next c.args.self.now c.loop-session.self c.log_in.new.self c.loop-session.session c.loop-session.auto.session c.loop-session.invariant.taken c.in_ok-log_in.ensures)
