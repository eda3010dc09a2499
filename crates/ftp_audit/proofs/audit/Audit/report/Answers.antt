use Rattle.std.proofs.Common.{◌∙◌}
use Rattle.ftp_audit.proofs.HeardLemmas.{listing-sums}
use Rattle.ftp_audit.proofs.audit.Audit.report.Goals as goal

pub returns : goal.returns
returns c =
    let found = c.in_ok-report.ensures in
    rw (← c.self.view_is)
    (λ o log h. (
      found.0,
      listing-sums o (record { taken = c.self.inside.taken; users = c.self.inside.users }) log found.0 h c.self.invariant found.1,
      c.from_vec.ensures ∙ found.2,
    ))
