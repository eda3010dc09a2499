use Rattle.std.proofs.Common.{◌≤◌, rules, subst, sym}
use Rattle.ftp_base.specs.Calls.{fault_limit_by, LastFailed}
use Rattle.ftp_base.proofs.CallsLemmas.{fault_limit_by-after_fault}
use Rattle.ftp_base.proofs.CallsMade.{LastFailed-call}
use Rattle.ftp_base.proofs.calls.Calls.count_fault.Goals as goal

pub returns-clause-counted : goal.returns-clause-counted
returns-clause-counted g c = search rules

pub returns-clause-limit : goal.returns-clause-limit
returns-clause-limit g c fails =
    let number = g.T.FailingCall.number in
    subst (λ later. fault_limit_by number later ≤ fault_limit_by number c.args.self.now) (sym (returns-clause-counted g c))
    (fault_limit_by-after_fault number c.args.self.now fails)

pub returns-clause-as_listed : goal.returns-clause-as_listed
returns-clause-as_listed g c fails call listed =
    let number = g.T.FailingCall.number in
    subst (λ later. LastFailed number c.args.self.now later call) (sym (returns-clause-counted g c)) (LastFailed-call number c.args.self.now call fails listed)
