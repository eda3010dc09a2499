use Rattle.std.proofs.Common.{◌∙◌}
use Rattle.ftp_audit.proofs.HeardLemmas.{between-heard, heard-sums}
use Rattle.ftp_audit.proofs.audit.Audit.between.Goals as goal

pub returns-clause-heard : goal.returns-clause-heard
returns-clause-heard c =
    rw (← c.self.view_is)
    (λ log h. c.between.ensures ∙ between-heard (record { taken = c.self.inside.taken; users = c.self.inside.users }) log c.args.user.now c.args.from c.args.to h c.requires.in_order)

pub returns-clause-sums : goal.returns-clause-sums
returns-clause-sums c =
    rw (← c.self.view_is)
    (λ o log h.
    c.between.ensures
    ∙ (between-heard (record { taken = c.self.inside.taken; users = c.self.inside.users }) log c.args.user.now c.args.from c.args.to h.heard c.requires.in_order
    ∙ heard-sums o log c.args.user.now c.args.from c.args.to h.right h.acted))
