use Rattle.std.proofs.Common.{◌∙◌, sym, ap, take, ◌∷◌, []}
use Rattle.ftp_events.specs.declared.action.Action.{Action}
use Rattle.ftp_audit.specs.Requests.{request_acted}
use Rattle.ftp_audit.specs.Tickets.{request_at}
use Rattle.ftp_audit.proofs.RequestLemmas.{acted-more}
use Rattle.ftp_audit.proofs.request.act_all.Goals as goal

pub loop-action-preserved : goal.loop-action-preserved
loop-action-preserved c = λ t.
    c.act.ensures t
    ∙ (ap (request_acted c.args.at (c.action-item.result ∷ []) t) (c.loop-action.invariant t)
    ∙ (ap (λ (a : Action). request_acted c.args.at (a ∷ []) t (request_acted c.args.at (take c.loop-action.action-index c.args.actions.now) t (request_at c.args.requests.now t))) c.action-item.is
    ∙ sym (acted-more c.args.at c.args.actions.now c.loop-action.action-index c.action-item.result t (request_at c.args.requests.now t) c.loop-action-test.true)))
