use Rattle.std.proofs.Common.{refl}
use Rattle.ftp_base.specs.Storage.{meaning_of}
use Rattle.ftp_transfer.proofs.StoreLemmas.{RefusedLast-none}
use Rattle.ftp_transfer.proofs.store.put_piece.Goals as goal

pub returns-then-room-eq0-clause-refused_last : goal.returns-then-room-eq0-clause-refused_last
returns-then-room-eq0-clause-refused_last g c =
    rw c.last.ensures.end (λ told. RefusedLast-none _ (meaning_of (g.S.Storage.rule c.args.storage.now) (g.S.Storage.files c.args.storage.now)) c.args.job.now.user c.args.job.now.path _ _ _ refl)

pub returns-in-Err-clause-refused_last : goal.returns-in-Err-clause-refused_last
returns-in-Err-clause-refused_last g c =
    rw c.last-in-Err.ensures.end (λ told. RefusedLast-none _ (meaning_of (g.S.Storage.rule c.args.storage.now) (g.S.Storage.files c.args.storage.now)) c.args.job.now.user c.args.job.now.path _ _ _ c.in-Err.ensures.unchanged)
