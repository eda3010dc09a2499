use Rattle.std.proofs.Common.{◌==◌, ◌&&◌}
use Rattle.std.proofs.Math.Logic.{∥∥₁_elim}
use Rattle.ftp_events.specs.Log.{past_of}
use Rattle.ftp_events.specs.Running.{running_count}
use Rattle.ftp_events.specs.Session.{live_count}
use Rattle.ftp_shared.proofs.KeepsLemmas.{truth-set}
use Rattle.ftp_shared.proofs.locked.Locked.drained.Goals as goal

-- the hub answers as the journal does
pub returns : goal.returns
returns g c =
    let past = past_of c.args.self.now.journal.entries in
    ∥∥₁_elim c.args.self.now.kept (truth-set c.drained.result ((running_count past == 0) && (live_count past == 0)))
    (λ k. c.drained.ensures c.args.self.now.journal.entries k.stands)
