use Rattle.ftp_hub.proofs.Sweeps.{serves-scavenged}
use Rattle.ftp_hub.proofs.hub.Hub.serve.Goals as goal

-- a scavenge changes nothing
pub returns-in-Scavenge-clause-serves : goal.returns-in-Scavenge-clause-serves
returns-in-Scavenge-clause-serves c log st =
    serves-scavenged c.args.self.now log c.args.event.now c.args.answer _ st c.in-Scavenge.is c.requires.ready.actions
