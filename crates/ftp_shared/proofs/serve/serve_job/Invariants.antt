use Rattle.std.proofs.Common.{◌-◌, ◌^◌}
use Rattle.ftp_events.specs.Leads.{views}
use Rattle.ftp_shared.proofs.ProgressLemmas.{Progress}
use Rattle.ftp_shared.proofs.serve.serve_job.Given as goal

-- how far the job has come
abbrev pub invariant-pieces : goal.invariant-pieces
invariant-pieces g l =
    Progress (views g.S.Storage.files g.S.Storage.rule g.S.Storage.faults g.S.Storage.fault_limit g.S.Storage.calls
    g.L.Source.left g.L.Source.sending g.L.Source.faults g.L.Source.fault_limit g.L.Source.calls)
    l.fn.job l.next l.job l.fn.storage l.storage l.fn.link l.link (g.E.Edge.view l.fn.edge) (g.E.Edge.view l.edge)
    l.count (g.H.JournalHub.made l.fn.pass) (g.H.JournalHub.made l.pass)

abbrev pub decreases-pieces : goal.decreases-pieces
decreases-pieces g l = 2 ^ 64 - l.next.done
