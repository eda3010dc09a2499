use Rattle.std.proofs.Common.{inl, inr, refl, ◌∙◌, rules}
use Rattle.ftp_base.specs.Storage.{once_begun, meaning_of, Begin}
use Rattle.ftp_transfer.specs.Turn.{result_of, fault_of}
use Rattle.ftp_transfer.proofs.RunLemmas.{StorageRose_later, StorageWent-more, Caused_later}
use Rattle.ftp_transfer.proofs.StoreLemmas.{Stores-begun, Begins-told, Stores-refused, RefusedLast-none, RefusedLast_later, drop-nothing, stops, begins-else}
use Rattle.ftp_transfer.proofs.BegunLemmas.{IfSome_any}
use Rattle.ftp_transfer.proofs.store.store.Goals as goal

pub returns-in-Ok-clause-stored : goal.returns-in-Ok-clause-stored
returns-in-Ok-clause-stored g c =
    Stores-begun (g.S.Storage.files c.args.storage.now) (g.S.Storage.files c.begin.new.self) (g.S.Storage.files c.fill.new.storage) c.args.job.now.path c.args.start (g.L.Source.left c.args.link.now) c.fill.result.bytes (result_of c.fill.result.end) (fault_of c.fill.result.end)
    c.in-Ok.ensures.begun
    c.fill.ensures.took.within
    c.fill.ensures.grown

pub returns-in-Ok-clause-cause : goal.returns-in-Ok-clause-cause
returns-in-Ok-clause-cause g c =
    Caused_later _ _ _ _ _ _ _ _ _ _ (result_of c.fill.result.end) (fault_of c.fill.result.end)
    (λ h. h)
    (StorageRose_later _ _ _ c.begin.ensures.counts c.fill.ensures.storage_kept.counts (c.begin.ensures.unlisted (search rules)))
    (λ k refused.
    Stores-refused (g.S.Storage.files c.args.storage.now) (g.S.Storage.files c.begin.new.self) (g.S.Storage.files c.fill.new.storage) (g.S.Storage.rule c.args.storage.now) c.args.job.now.user c.args.job.now.path c.args.start (g.L.Source.left c.args.link.now) (g.L.Source.left c.fill.new.link) c.fill.result.bytes k
    c.in-Ok.ensures.begun
    c.fill.ensures.grown
    (rw c.in-Ok.ensures.owned at refused))
    c.fill.ensures.cause

pub returns-in-Ok-clause-storage_well : goal.returns-in-Ok-clause-storage_well
returns-in-Ok-clause-storage_well g c =
    StorageWent-more _ _ _ _ (c.begin.ensures.unlisted (search rules)) c.fill.ensures.storage_well

pub returns-in-Ok-clause-refused_last : goal.returns-in-Ok-clause-refused_last
returns-in-Ok-clause-refused_last g c told =
    RefusedLast_later _ _ (meaning_of (once_begun (c.args.job.now.user, c.args.job.now.path) (g.S.Storage.rule c.args.storage.now)) (g.S.Storage.files c.fill.new.storage)) c.args.job.now.user c.args.job.now.path _ _ _
    (StorageRose_later _ _ _ c.begin.ensures.counts c.fill.ensures.storage_kept.counts (c.begin.ensures.unlisted (search rules)))
    ((rw c.in-Ok.ensures.owned at c.fill.ensures.refused_last) (Begins-told (g.S.Storage.files c.args.storage.now) _ _ _ c.in-Ok.ensures.begun told))

pub returns-in-Err-clause-refused_last : goal.returns-in-Err-clause-refused_last
returns-in-Err-clause-refused_last g c told =
    rw (c.last.ensures.end, c.last.ensures.bytes) (RefusedLast-none _ (meaning_of (once_begun (c.args.job.now.user, c.args.job.now.path) (g.S.Storage.rule c.args.storage.now)) (g.S.Storage.files c.begin.new.self)) c.args.job.now.user c.args.job.now.path _ _ _ (drop-nothing (g.L.Source.left c.args.link.now)))

pub returns-in-Ok-clause-owned : goal.returns-in-Ok-clause-owned
returns-in-Ok-clause-owned g c = inl (c.fill.ensures.storage_kept.same_rule ∙ c.in-Ok.ensures.owned)

pub returns-in-Ok-clause-begins : goal.returns-in-Ok-clause-begins
returns-in-Ok-clause-begins g c held memory =
    IfSome_any (g.S.Storage.files c.args.storage.now) _ (λ f none. c.fill.ensures.storage_kept.same_rule ∙ c.in-Ok.ensures.owned)

pub returns-in-Err-clause-owned : goal.returns-in-Err-clause-owned
returns-in-Err-clause-owned g c =
    rw (c.last.ensures.end, c.last.ensures.bytes, c.stopped_by.ensures) (inr (c.in-Err.ensures.storage_kept.same_rule, (refl, refl, stops c.in-Err.error)))

pub returns-in-Err-clause-begins : goal.returns-in-Err-clause-begins
returns-in-Err-clause-begins g c held memory =
    begins-else (g.S.Storage.files c.args.storage.now) (g.S.Storage.rule c.args.storage.now) (Begin c.args.job.now.user c.args.job.now.path c.args.start) c.begin.result c.in-Err.error _ _
    c.in-Err.is c.begin.ensures.refused (λ failed. (c.begin.ensures.fault_rose failed, c.begin.ensures.as_listed failed)) held
    (rw (c.last.ensures.end, c.stopped_by.ensures) at memory)
