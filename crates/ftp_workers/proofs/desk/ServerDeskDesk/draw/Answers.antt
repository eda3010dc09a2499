use Rattle.std.proofs.Common.{refl, arith}
use Rattle.ftp_shared.proofs.DeskLemmas.{rises-told}
use Rattle.ftp_workers.proofs.desk.ServerDeskDesk.draw.Goals as goal

-- nothing changes
pub returns-clause-same : goal.returns-clause-same
returns-clause-same g c =
    let made = g.H.JournalHub.made c.args.self.now.pass in
    record {
      options = refl;
      files = refl;
      count = omega arith;
      refused = omega arith;
      journal = refl;
      outbox = λ s. refl;
      share = rises-told g.H.JournalHub.counts 0 made made (λ on. omega arith);
    }
