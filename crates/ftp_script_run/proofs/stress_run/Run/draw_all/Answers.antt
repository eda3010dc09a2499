use Rattle.std.proofs.Common.{◌≡◌, ◌+◌, ◌-◌, ◌*◌, ◌∙◌, ℕ, map, arith, subst}
use Rattle.std.specs.List.{range_with_len}
use Rattle.ftp_script_run.specs.Events.{drawn}
use Rattle.ftp_script_run.specs.Keeping.{Takes}
use Rattle.ftp_script_run.proofs.StressRunLemmas.{takes-none, place-after, length-drawn, drawn-is, draws-next}
use Rattle.ftp_script_run.proofs.stress_run.Run.draw_all.Goals as goal

pub loop-k-init : goal.loop-k-init
loop-k-init c = record { taken = takes-none c.args.self.now; state = c.new-draws.ensures; within = omega arith }

pub take-requires : goal.take-requires
take-requires c =
    place-after c.args.self.now c.loop-k.self (map (drawn c.args.seed c.args.sessions) (range_with_len 1 (c.loop-k.k - 1))) (16 * c.args.sessions) 1
    c.requires.place c.loop-k.invariant.taken
    (omega (arith, length-drawn (drawn c.args.seed c.args.sessions) 1 (c.loop-k.k - 1), c.loop-k-test.true, c.loop-k.auto.k))

pub loop-k-preserved : goal.loop-k-preserved
loop-k-preserved c =
    let this =
    drawn-is c.args.seed c.args.sessions c.loop-k.k c.loop-k.draws.state c.next-a.new.self.state c.next-b.new.self.state c.next-c.new.self.state c.next-a.result c.next-b.result c.next-c.result
    c.loop-k.auto.k c.loop-k.invariant.state c.next-a.ensures.stirred c.next-b.ensures.stirred c.next-c.ensures.stirred c.next-a.ensures.given c.next-b.ensures.given c.next-c.ensures.given in
    record {
      taken =
          draws-next c.args.seed c.args.sessions c.args.self.now c.loop-k.self c.take.new.self c.loop-k.k c.chosen.result
          c.loop-k.auto.k c.loop-k.invariant.taken (c.chosen.ensures ∙ this.0) c.in_ok-take.ensures;
      state = this.1;
      within = omega (arith, c.loop-k-test.true);
    }

pub returns : goal.returns
returns c =
    let all : c.loop-k.k - 1 ≡ 16 * c.args.sessions = omega (arith, c.loop-k-test.false, c.loop-k.invariant.within) in
    subst (λ (n : ℕ). Takes c.args.self.now (map (drawn c.args.seed c.args.sessions) (range_with_len 1 n)) c.loop-k.self) all c.loop-k.invariant.taken

pub returns-in_ok-take : goal.returns-in_ok-take
returns-in_ok-take c =
    let this =
    drawn-is c.args.seed c.args.sessions c.loop-k.k c.loop-k.draws.state c.next-a.new.self.state c.next-b.new.self.state c.next-c.new.self.state c.next-a.result c.next-b.result c.next-c.result
    c.loop-k.auto.k c.loop-k.invariant.state c.next-a.ensures.stirred c.next-b.ensures.stirred c.next-c.ensures.stirred c.next-a.ensures.given c.next-b.ensures.given c.next-c.ensures.given in
    let all : (c.loop-k.k + 1) - 1 ≡ 16 * c.args.sessions = omega arith in
    subst (λ (n : ℕ). Takes c.args.self.now (map (drawn c.args.seed c.args.sessions) (range_with_len 1 n)) c.take.new.self) all
    (draws-next c.args.seed c.args.sessions c.args.self.now c.loop-k.self c.take.new.self c.loop-k.k c.chosen.result
    c.loop-k.auto.k c.loop-k.invariant.taken (c.chosen.ensures ∙ this.0) c.in_ok-take.ensures)
