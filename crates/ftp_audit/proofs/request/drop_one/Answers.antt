use Rattle.ftp_audit.proofs.request.drop_one.Goals as goal

pub returns : goal.returns
returns c = λ t. c.remove.ensures.updates.0 (t.session, t.nr)
