use Rattle.ftp_check_log.proofs.GrantLemmas.{port-held, port-released}
use Rattle.ftp_check_log.proofs.evidence.Asked.of_grant.Goals as goal

pub returns-in-Some : goal.returns-in-Some
returns-in-Some c = port-released c.args.self.now.options.now c.args.self.now.entries.now c.args.self.now.k (record { client = c.args.to.ip; port = c.args.to.port }) c.in-Some.place c.in-Some.ensures

pub returns-in-None : goal.returns-in-None
returns-in-None c = port-held c.args.self.now.options.now c.args.self.now.entries.now c.args.self.now.k (record { client = c.args.to.ip; port = c.args.to.port }) c.args.grant c.requires c.in-None.ensures
