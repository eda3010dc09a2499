use Rattle.std.proofs.Common.{sym, subst}
use Rattle.ftp_control.specs.declared.command.Command.{Command}
use Rattle.ftp_talk.specs.Speaking.{Asked}
use Rattle.ftp_talk.proofs.AskLemmas.{port-asked}
use Rattle.ftp_talk.proofs.control_session.ControlSession.ask.Goals as goal

pub returns-in-Port-clause-asked : goal.returns-in-Port-clause-asked
returns-in-Port-clause-asked g c = λ q h draws knows ground.
    let a = c.ask_connection.ensures.asked in
    subst (λ (x : Command). Asked q h x c.ask_connection.result (g.E.Edge.view c.args.edge.now) (g.E.Edge.view c.ask_connection.new.edge) (g.D.Desk.view c.args.desk.now).faults (g.D.Desk.view c.ask_connection.new.desk).faults) (sym c.in-Port.is)
    (port-asked q h c.args.self.now c.in-Port.text a.0 g.D.Desk.draws_next (g.E.Edge.view c.args.edge.now) (g.E.Edge.view c.ask_connection.new.edge) (g.D.Desk.view c.args.desk.now) (g.D.Desk.view c.ask_connection.new.desk)
    c.ask_connection.result draws knows ground a.1 a.2 c.ask_connection.ensures.desk.count)
