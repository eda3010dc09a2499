use Rattle.std.proofs.Common.{inl}
use Rattle.ftp_talk.proofs.TalkLemmas.{front-before, risen-on}
use Rattle.ftp_talk.proofs.control_session.ControlSession.submit_for.Goals as goal

pub returns-in-Ok-clause-spoke : goal.returns-in-Ok-clause-spoke
returns-in-Ok-clause-spoke g c = λ q ts pieces step same a.
    c.answer.ensures.spoke q ts pieces step g.D.Desk.vouches (g.E.Edge.view c.args.edge.now) (g.D.Desk.view c.args.desk.now) (g.D.Desk.view c.submit.new.desk) c.args.kind
    same a c.in-Ok.ensures.entered

pub returns-in-Err-clause-spoke : goal.returns-in-Err-clause-spoke
returns-in-Err-clause-spoke g c = λ q ts pieces step same a.
    inl (
      front-before q c.args.self.now (g.E.Edge.view c.args.edge.now) (g.E.Edge.view c.submit.new.edge)
          (g.D.Desk.view c.args.desk.now) (g.D.Desk.view c.submit.new.desk) (g.C.Source.sending c.args.control.now).sent ts pieces c.args.kind
          a c.submit.ensures.taken.count c.submit.ensures.unpaused c.in-Err.ensures.refused,
      risen-on _ _ _ a.after.refused c.in-Err.ensures.refused_rose c.in-Err.ensures.refused.refused,
    )
