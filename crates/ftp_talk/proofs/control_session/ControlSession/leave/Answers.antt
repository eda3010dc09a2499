use Rattle.std.proofs.Common.{refl}
use Rattle.ftp_talk.proofs.EndLemmas.{left-over, left-closed, left-alone}
use Rattle.ftp_talk.proofs.control_session.ControlSession.leave.Goals as goal
use Rattle.ftp_talk.proofs.control_session.ControlSession.leave.Goals.{in-Ok, in-Err}

pub returns-then-self : goal.returns-then-self
returns-then-self g c = λ q hs sent about cut. left-over q c.args.self.now _ _ sent hs cut c.if-self.true

pub returns : goal.returns
returns g c = λ q hs sent about cut.
    elim c.match-submit.branch [
      | in-Ok w ↦
          left-closed q g.D.Desk.vouches c.args.self.now (g.E.Edge.view c.args.edge.now) (g.E.Edge.view c.submit.new.edge) (g.D.Desk.view c.args.desk.now) (g.D.Desk.view c.submit.new.desk) sent hs
          w.in-Ok.field-0.earlier w.in-Ok.field-0.entry c.args.self.now.session cut c.if-self.false refl about.0 w.in-Ok.ensures.entered
      | in-Err w ↦
          left-alone q c.args.self.now (g.E.Edge.view c.args.edge.now) (g.E.Edge.view c.submit.new.edge) (g.D.Desk.view c.args.desk.now) (g.D.Desk.view c.submit.new.desk) sent hs
          cut c.submit.ensures.taken.count c.submit.ensures.unpaused w.in-Err.ensures.refused w.in-Err.ensures.refused_rose
    ]
