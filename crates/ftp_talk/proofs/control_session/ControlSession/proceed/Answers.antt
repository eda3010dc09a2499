use Rattle.std.proofs.Common.{ap, subst, ◌∙◌}
use Rattle.std.specs.Prelude.{Result, Ok}
use Rattle.ftp_talk.specs.declared.halt.Halt.{Halt}
use Rattle.ftp_talk.specs.declared.serving.Next.{Next}
use Rattle.ftp_talk.specs.Speaking.{StandsBehind, due_at}
use Rattle.ftp_talk.proofs.EndLemmas.{ends-front, talk-over}
use Rattle.ftp_talk.proofs.control_session.ControlSession.proceed.Goals as goal

pub returns-in-Ok-Over-clause-ended : goal.returns-in-Ok-Over-clause-ended
returns-in-Ok-Over-clause-ended g c = λ q hs rest about served.
    let over = rw c.in-Ok-Over.is at c.in-Ok-Over.field-0-is in
    talk-over q c.args.self.now _ _ _ hs rest
    (subst (λ (r : Result Next Halt). StandsBehind due_at r q c.args.self.now (g.E.Edge.view c.args.edge.now) (g.D.Desk.view c.args.desk.now) (g.C.Source.sending c.args.control.now).sent hs rest)
    (c.in-Ok-Over.is ∙ ap Ok over) served)

pub returns-in-Err-clause-ended : goal.returns-in-Err-clause-ended
returns-in-Err-clause-ended g c = λ q hs rest about served.
    let sent = (g.C.Source.sending c.args.control.now).sent in
    let short = subst (λ (r : Result Next Halt). StandsBehind due_at r q c.args.self.now (g.E.Edge.view c.args.edge.now) (g.D.Desk.view c.args.desk.now) sent hs rest)
    c.in-Err.is served in
    rw c.end_by.ensures (ends-front c.in-Err.halt q _ _ sent hs (c.leave.ensures q hs sent about short))
