use Rattle.std.proofs.Common.{◌≤◌, rules, subst, sym}
use Rattle.ftp_base.specs.Calls.{fault_limit_by, NoneFailed}
use Rattle.ftp_base.proofs.CallsLemmas.{fault_limit_by-after_call}
use Rattle.ftp_base.proofs.CallsMade.{NoneFailed-call}
use Rattle.ftp_base.proofs.calls.Calls.count_call.Goals as goal

pub returns-clause-counted : goal.returns-clause-counted
returns-clause-counted g c = search rules

pub returns-clause-limit : goal.returns-clause-limit
returns-clause-limit g c =
    let number = g.T.FailingCall.number in
    subst (λ later. fault_limit_by number later ≤ fault_limit_by number c.args.self.now) (sym (returns-clause-counted g c))
    (fault_limit_by-after_call number c.args.self.now)

pub returns-clause-unlisted : goal.returns-clause-unlisted
returns-clause-unlisted g c well =
    let number = g.T.FailingCall.number in
    subst (λ later. NoneFailed number c.args.self.now later) (sym (returns-clause-counted g c)) (NoneFailed-call number c.args.self.now well)
