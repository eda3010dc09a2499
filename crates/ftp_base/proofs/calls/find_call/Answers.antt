use Rattle.std.proofs.Common.{rules, sym, ap, ◌∙◌}
use Rattle.std.proofs.lemmas.List.Sorted.{answers_always}
use Rattle.ftp_base.proofs.CallsLemmas.{list_any-found, list_any-missed, number-found}
use Rattle.ftp_base.proofs.calls.find_call.Goals as goal

pub returns-in-Ok-clause-fails : goal.returns-in-Ok-clause-fails
returns-in-Ok-clause-fails g c =
    let number = g.T.FailingCall.number in
    sym (list_any-found number c.args.calls.now c.args.number c.in-Ok.at c.index-calls-at.result c.in-Ok.ensures.bound
    (c.in-Ok.ensures.position number (answers_always _ _ _ (λ f a r next called. search rules)) c.index-calls-at.result))

pub returns-in-Ok-clause-number : goal.returns-in-Ok-clause-number
returns-in-Ok-clause-number g c =
    let number = g.T.FailingCall.number in
    ap number c.index-calls-at.is
    ∙ number-found number c.args.calls.now c.args.number c.in-Ok.at c.index-calls-at.result
    (c.in-Ok.ensures.position number (answers_always _ _ _ (λ f a r next called. search rules)) c.index-calls-at.result)

pub returns-in-Err-clause-fails : goal.returns-in-Err-clause-fails
returns-in-Err-clause-fails g c =
    let number = g.T.FailingCall.number in
    sym (list_any-missed number c.args.calls.now c.args.number c.in-Err.field-0 c.requires
    (c.in-Err.ensures.position number (answers_always _ _ _ (λ f a r next called. search rules))))
