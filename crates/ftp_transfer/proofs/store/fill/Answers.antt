use Rattle.std.proofs.lemmas.Option.{IfSome_then}
use Rattle.ftp_base.specs.Storage.{meaning_of}
use Rattle.ftp_transfer.proofs.TurnLemmas.{Caused-turn, RefusedLast-turn, RefusesAppend-turn, StorageWent-turn, LinkWell-turn}
use Rattle.ftp_transfer.proofs.store.fill.Goals as goal

pub returns-clause-cause : goal.returns-clause-cause
returns-clause-cause g c =
    Caused-turn _ _ _ _ _ _ _ _ c.put_piece.result.end
    c.put_piece.ensures.cause
    c.put_piece.ensures.last_fault
    (λ some k refused told.
    RefusesAppend-turn (meaning_of (g.S.Storage.rule c.args.storage.now) (g.S.Storage.files c.put_piece.new.storage)) c.args.job.now.user c.args.job.now.path (g.L.Source.left c.args.link.now) _ c.put_piece.result.bytes k
    (c.put_piece.ensures.last some)
    (refused told))

pub returns-clause-refused_last : goal.returns-clause-refused_last
returns-clause-refused_last g c told =
    RefusedLast-turn _ (meaning_of (g.S.Storage.rule c.args.storage.now) (g.S.Storage.files c.put_piece.new.storage)) c.args.job.now.user c.args.job.now.path (g.L.Source.left c.args.link.now) _ c.put_piece.result.bytes c.put_piece.result.end
    c.put_piece.ensures.last
    (IfSome_then c.put_piece.result.end c.put_piece.ensures.refused_last (λ e h. h told))

pub returns-clause-storage_well : goal.returns-clause-storage_well
returns-clause-storage_well g c = StorageWent-turn _ _ c.put_piece.result.end c.put_piece.ensures.storage_well c.put_piece.ensures.storage_held

pub returns-clause-link_well : goal.returns-clause-link_well
returns-clause-link_well g c = LinkWell-turn _ c.put_piece.result.end c.put_piece.ensures.link_well c.put_piece.ensures.link_held
