use Rattle.std.proofs.Common.{refl, ap, arith}
use Rattle.ftp_shared.proofs.DeskLemmas.{rises-told}
use Rattle.ftp_workers.proofs.desk.ServerDeskDesk.directory.Goals as goal

-- nothing changes but the count of faults
pub returns-clause-same : goal.returns-clause-same
returns-clause-same g c =
    let made = g.H.JournalHub.made in
    let same = ap made c.look_for.ensures.pass in
    record {
      options = refl;
      files = refl;
      count = c.look_for.ensures.count;
      refused = omega (arith, c.look_for.ensures.refused);
      journal = refl;
      outbox = λ s. refl;
      share = rises-told g.H.JournalHub.counts 0 (made c.args.self.now.pass) (made c.look_for.new.self.pass) (λ on. omega (arith, same));
    }
