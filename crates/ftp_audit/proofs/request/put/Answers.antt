use Rattle.ftp_audit.proofs.request.put.Goals as goal

pub returns-clause-updates : goal.returns-clause-updates
returns-clause-updates c = λ t. c.in_ok-insert.ensures.updates.0 (t.session, t.nr)
