use Rattle.std.proofs.Common.{refl}
use Rattle.ftp_audit.proofs.TakenLemmas.{knows-from}
use Rattle.ftp_audit.proofs.server_log.ServerLog.know.Goals as goal

pub returns-clause-known : goal.returns-clause-known
returns-clause-known c =
    knows-from c.args.self.now c.learn.new.self _ c.args.entry.now c.in_ok-learn.ensures.learnt refl refl refl c.hear.ensures c.more_locked-self.ensures
