use Rattle.std.proofs.Common.{◌∙◌}
use Rattle.ftp_talk.specs.Ground.{ALongLine}
use Rattle.ftp_talk.proofs.EndLemmas.{refuses-long}
use Rattle.ftp_talk.proofs.HeardLemmas.{served-kept}
use Rattle.ftp_talk.proofs.control_session.ControlSession.serve_got.Goals as goal

pub returns-in-Line-clause-served : goal.returns-in-Line-clause-served
returns-in-Line-clause-served g c = λ q x0 hs rest is hears s got.
    c.serve_line.ensures.served q x0 hs rest is.about is.answers hears (rw c.in-Line.is at s) (rw c.in-Line.is at got)

pub returns-in-Wait-clause-served : goal.returns-in-Wait-clause-served
returns-in-Wait-clause-served g c = λ q x0 hs rest is hears s got.
    let waits = rw c.in-Wait.is at got in
    served-kept q _ _ _ _ rest c.tick.result _ _ _ _ hs hears (c.tick.ensures.served q hs rest is.about (is.ready ∙ waits) (rw c.in-Wait.is at s))

pub returns-in-Long-clause-served : goal.returns-in-Long-clause-served
returns-in-Long-clause-served g c = λ q x0 hs rest is hears s got.
    served-kept q _ _ _ _ rest c.refuse.result _ _ _ _ hs hears
    (c.refuse.ensures.served q hs ALongLine rest is.about (rw c.in-Long.is at s) (refuses-long q c.args.self.now _ rest c.too_long-kind.ensures.kind (rw c.in-Long.is at got)))

pub returns-in-Full-clause-served : goal.returns-in-Full-clause-served
returns-in-Full-clause-served g c = λ q x0 hs rest is hears s got. (hs, hears.allowed, hears, rw c.in-Full.is at s)

pub returns-in-End-clause-served : goal.returns-in-End-clause-served
returns-in-End-clause-served g c = λ q x0 hs rest is hears s got. (hs, hears.allowed, hears, rw c.in-End.is at s)
