use Rattle.std.proofs.Common.{rules}
use Rattle.ftp_transfer.specs.Ran.{told}
use Rattle.ftp_transfer.proofs.CleanLemmas.{clean-done}
use Rattle.ftp_transfer.proofs.CloseLemmas.{Moves-closed}
use Rattle.ftp_transfer.proofs.transfer.execute.Goals as goal

pub returns-clause-ran : goal.returns-clause-ran
returns-clause-ran g c =
    let closes = c.close.ensures.only_closes in
    record {
      counted = c.run-outcome.ensures.counted;
      faults = g.L.Source.faults c.run-outcome.new.link;
      calls = g.L.Source.calls c.run-outcome.new.link;
      not_before = c.run-outcome.ensures.link_counts.count;
      not_after = closes.counts.count;
      moves = Moves-closed (g.L.Source.left c.close.new.self) (g.L.Source.sending c.close.new.self) closes.same_left closes.sent closes.last_fault c.run-outcome.ensures.moves;
      closed = search rules;
    }

pub returns-clause-complete : goal.returns-clause-complete
returns-clause-complete g c clean =
    clean-done c.args.job
    (told (g.S.Storage.files c.args.storage.now) (g.S.Storage.rule c.args.storage.now) (g.S.Storage.faults c.args.storage.now) (g.S.Storage.calls c.args.storage.now) (g.L.Source.left c.args.link.now) (g.L.Source.sending c.args.link.now) (g.L.Source.faults c.args.link.now) (g.L.Source.calls c.args.link.now))
    (told (g.S.Storage.files c.run-outcome.new.storage) (g.S.Storage.rule c.run-outcome.new.storage) (g.S.Storage.faults c.run-outcome.new.storage) (g.S.Storage.calls c.run-outcome.new.storage) (g.L.Source.left c.close.new.self) (g.L.Source.sending c.close.new.self) (g.L.Source.faults c.close.new.self) (g.L.Source.calls c.close.new.self))
    c.run-outcome.result
    (returns-clause-ran g c)
    clean
