use Rattle.std.proofs.Common.{sym, subst}
use Rattle.ftp_check_log.specs.Grants.{IsLastGrant}
use Rattle.ftp_check_log.proofs.GrantLemmas.{port-ungranted}
use Rattle.ftp_check_log.proofs.evidence.Asked.of_port.Goals as goal

pub of_grant-requires : goal.of_grant-requires
of_grant-requires c =
    subst (IsLastGrant c.args.self.now.options.now c.args.self.now.entries.now c.args.self.now.k c.args.to.ip c.args.to.port) (sym c.in-Some.ensures.value) (c.in_ok-last.ensures c.args.to.port)

pub returns : goal.returns
returns c =
    port-ungranted c.args.self.now.options.now c.args.self.now.entries.now c.args.self.now.k (record { client = c.args.to.ip; port = c.args.to.port })
    (subst (IsLastGrant c.args.self.now.options.now c.args.self.now.entries.now c.args.self.now.k c.args.to.ip c.args.to.port) (sym c.in-None.ensures.value) (c.in_ok-last.ensures c.args.to.port))
