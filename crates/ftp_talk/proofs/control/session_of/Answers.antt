use Rattle.std.proofs.Common.{sym, ◌∙◌}
use Rattle.std.proofs.lemmas.Result.{IfOk-weaker}
use Rattle.ftp_talk.proofs.control.session_of.Goals as goal

pub returns : goal.returns
returns c = IfOk-weaker c.open.result _ _ (λ state begins. (c.in-Some.peer, sym c.peer_of.ensures ∙ c.in-Some.is, begins)) c.open.ensures
