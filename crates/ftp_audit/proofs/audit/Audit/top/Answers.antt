use Rattle.std.proofs.lemmas.Result.{IfOk-weaker}
use Rattle.ftp_audit.proofs.HeardLemmas.{listing-sums}
use Rattle.ftp_audit.proofs.audit.Audit.top.Goals as goal

pub returns : goal.returns
returns c =
    rw (← c.self.view_is)
    (λ o log h.
    IfOk-weaker c.top.result _ _
    (λ found x. (x.0, listing-sums o (record { taken = c.self.inside.taken; users = c.self.inside.users }) log x.0 h c.self.invariant x.1, x.2))
    c.top.ensures)
