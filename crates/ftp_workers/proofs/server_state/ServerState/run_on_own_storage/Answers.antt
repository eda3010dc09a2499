use Rattle.ftp_shared.specs.declared.receipt.Submitted.{Submitted}
use Rattle.ftp_shared.specs.Runs.{IsLastOf}
use Rattle.ftp_workers.proofs.ResultLemmas.{if_ok-some}
use Rattle.ftp_workers.proofs.server_state.ServerState.run_on_own_storage.Goals as goal

-- the last entry is what serving the job says
pub returns-clause-next : goal.returns-clause-next
returns-clause-next g c =
    rw c.ok.ensures.value
    (if_ok-some (λ (s : Submitted). IsLastOf g.H.JournalHub.options c.args.job s.receipt) c.serve_job.result c.serve_job.ensures.next)
