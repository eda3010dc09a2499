use Rattle.std.proofs.Common.{[], ◌∷◌, arith}
use Rattle.ftp_events.specs.declared.event.EventKind.TheVariants.{User, Pass}
use Rattle.ftp_control.proofs.WritingLemmas.{on_ok-then}
use Rattle.ftp_script_run.proofs.StressRunLemmas.{place-after, logged-in}
use Rattle.ftp_script_run.proofs.stress_run.Run.log_in.Goals as goal

pub take-requires : goal.take-requires
take-requires c = (c.requires.0, c.requires.1, omega (arith, c.requires.2))

pub take-requires-2 : goal.take-requires-2
take-requires-2 c = place-after c.args.self.now c.take.new.self (c.connect.result ∷ []) 4 1 c.requires c.in_ok-take.ensures (omega arith)

pub take-requires-3 : goal.take-requires-3
take-requires-3 c =
    place-after c.take.new.self c.take-2.new.self (User c.args.session c.in_ok-name.name ∷ []) 3 1
    (place-after c.args.self.now c.take.new.self (c.connect.result ∷ []) 4 3 c.requires c.in_ok-take.ensures (omega arith))
    c.in_ok-take-2.ensures (omega arith)

pub take-requires-4 : goal.take-requires-4
take-requires-4 c =
    place-after c.take-2.new.self c.take-3.new.self (Pass c.args.session ∷ []) 2 1
    (place-after c.take.new.self c.take-2.new.self (User c.args.session c.in_ok-name.name ∷ []) 3 2
    (place-after c.args.self.now c.take.new.self (c.connect.result ∷ []) 4 3 c.requires c.in_ok-take.ensures (omega arith))
    c.in_ok-take-2.ensures (omega arith))
    c.in_ok-take-3.ensures (omega arith)

pub returns : goal.returns
returns c =
    on_ok-then c.take-4.result c.take-4.ensures
    (logged-in c.args.self.now c.take.new.self c.take-2.new.self c.take-3.new.self c.take-4.new.self c.args.session c.connect.result c.in_ok-name.name
    c.in_ok-take.ensures c.connect.ensures c.in_ok-take-2.ensures c.in_ok-name.ensures c.in_ok-take-3.ensures)
