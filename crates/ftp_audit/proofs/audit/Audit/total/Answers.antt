use Rattle.std.proofs.Common.{◌∙◌}
use Rattle.ftp_audit.proofs.HeardLemmas.{total-heard, total-sums}
use Rattle.ftp_audit.proofs.audit.Audit.total.Goals as goal

pub returns-clause-heard : goal.returns-clause-heard
returns-clause-heard c =
    rw (← c.self.view_is)
    (λ log h. c.total.ensures ∙ total-heard (record { taken = c.self.inside.taken; users = c.self.inside.users }) log c.args.user.now h (c.self.invariant c.args.user.now))

pub returns-clause-total : goal.returns-clause-total
returns-clause-total c =
    rw (← c.self.view_is)
    (λ o log h. c.total.ensures ∙ total-sums o (record { taken = c.self.inside.taken; users = c.self.inside.users }) log c.args.user.now h (c.self.invariant c.args.user.now))
