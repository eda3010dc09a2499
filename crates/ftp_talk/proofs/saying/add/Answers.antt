use Rattle.ftp_control.proofs.WritingLemmas.{on_err}
use Rattle.ftp_talk.proofs.PieceLemmas.{pieces-none, says-unsaid}
use Rattle.ftp_talk.proofs.saying.add.Goals as goal

pub returns-in_err-pause-clause-front : goal.returns-in_err-pause-clause-front
returns-in_err-pause-clause-front g c = on_err c.from_residual.result (pieces-none _ _ _ _ _ _ c.in_err-pause.ensures.front c.in_err-pause.ensures.unpaused)

pub returns-in-Err-clause-front : goal.returns-in-Err-clause-front
returns-in-Err-clause-front g c = says-unsaid _ _ _ _ _ _ _ _ c.in_ok-pause.ensures.said
