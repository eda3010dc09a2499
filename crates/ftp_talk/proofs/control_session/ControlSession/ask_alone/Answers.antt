use Rattle.ftp_talk.specs.Ground.{history}
use Rattle.ftp_talk.proofs.ServeLemmas.{asking-asked}
use Rattle.ftp_talk.proofs.control_session.ControlSession.ask_alone.Goals as goal

pub returns-clause-asked : goal.returns-clause-asked
returns-clause-asked g c = λ q sent ts pieces draws s.
    let asked = c.in_ok-kind.ensures.asked q (history q ts) draws s.known s.ground in (
      asked.gives,
      asking-asked q c.args.self.now (g.E.Edge.view c.args.edge.now) (g.E.Edge.view c.ask.new.edge) (g.D.Desk.view c.args.desk.now) (g.D.Desk.view c.ask.new.desk) sent ts pieces c.args.command c.in_ok-kind.kind s asked c.ask.ensures.edge c.ask.ensures.desk,
    )
