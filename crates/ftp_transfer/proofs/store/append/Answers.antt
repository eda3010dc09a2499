use Rattle.std.proofs.Common.{◌≡◌, ℕ, [], inr, ◌∙◌, sym, refl, Some, Result, Ok, Err}
use Rattle.ftp_base.specs.declared.error_kind.ErrorKind.{ErrorKind}
use Rattle.ftp_base.specs.declared.storage.Meta.{Meta}
use Rattle.ftp_base.specs.declared.storage.StoreError.{StoreError}
use Rattle.ftp_base.specs.declared.storage.StoreError.TheVariants.{Failed}
use Rattle.ftp_base.specs.Storage.{Files, Metadata, once_begun, meaning_of}
use Rattle.ftp_transfer.specs.Run.{StorageRose, RefusedFirst, RefusesStore}
use Rattle.ftp_transfer.specs.Turn.{start_after, result_of, fault_of}
use Rattle.ftp_transfer.proofs.RunLemmas.{StorageRose_later, StorageWent-more, Caused_later, RefusedFirst_more}
use Rattle.ftp_transfer.proofs.StoreLemmas.{RefusesAppe-at, append_place-start, append_refusal-begin, RefusedLast-none, RefusedLast_later, drop-nothing, append-begins, append-else, stops-after}
use Rattle.ftp_transfer.proofs.store.append.Goals as goal

-- metadata that failed leads nowhere
went-on : (found : Result Meta StoreError) (start : ℕ) → start_after found ≡ Ok start → found ≡ Err Failed → ⊥
went-on found start on failed = cc (rw failed at on)

pub returns-in-Ok-clause-refused : goal.returns-in-Ok-clause-refused
returns-in-Ok-clause-refused g c =
    let refused = rw (c.metadata.ensures.unchanged, c.metadata.ensures.storage_kept.same_rule) at c.store.ensures.refused in
    let rose = StorageRose_later _ _ _ c.metadata.ensures.storage_kept.counts c.store.ensures.storage_counts (c.metadata.ensures.unlisted (λ e. absurd (went-on c.metadata.result c.in-Ok.start (sym c.start_after.ensures ∙ c.in-Ok.is) e))) in
    append_refusal-begin (g.S.Storage.files c.args.storage.now) (g.S.Storage.rule c.args.storage.now) c.args.job.now.user c.args.job.now.path c.in-Ok.start
    (λ (f : Files) (k : ErrorKind). RefusedFirst (StorageRose (g.S.Storage.faults c.metadata.new.self) (g.S.Storage.faults c.store.new.storage) (g.S.Storage.calls c.metadata.new.self) (g.S.Storage.calls c.store.new.storage)) k c.store.result.bytes (result_of c.store.result.end) × (g.S.Storage.files c.store.new.storage ≡ Some f) × (g.L.Source.left c.store.new.link ≡ g.L.Source.left c.args.link.now))
    (λ (f : Files) (k : ErrorKind). RefusedFirst (StorageRose (g.S.Storage.faults c.args.storage.now) (g.S.Storage.faults c.store.new.storage) (g.S.Storage.calls c.args.storage.now) (g.S.Storage.calls c.store.new.storage)) k c.store.result.bytes (result_of c.store.result.end) × (g.S.Storage.files c.store.new.storage ≡ Some f) × (g.L.Source.left c.store.new.link ≡ g.L.Source.left c.args.link.now))
    (λ f k h. (RefusedFirst_more _ _ k c.store.result.bytes (result_of c.store.result.end) rose h.0, h.1, h.2))
    (λ f told.
    append_place-start f c.args.job.now.path (g.S.Storage.rule c.args.storage.now [] f (Metadata c.args.job.now.user c.args.job.now.path)) c.metadata.result c.in-Ok.start
    ((rw told at c.metadata.ensures.refused) refl)
    (rw told at c.metadata.ensures.found)
    (sym c.start_after.ensures ∙ c.in-Ok.is))
    refused

pub returns-in-Ok-clause-cause : goal.returns-in-Ok-clause-cause
returns-in-Ok-clause-cause g c =
    let cause = rw (c.metadata.ensures.unchanged, c.metadata.ensures.storage_kept.same_rule) at c.store.ensures.cause in
    Caused_later _ _ _ _ _ _ _ _ _ _ (result_of c.store.result.end) (fault_of c.store.result.end)
    (λ h. h)
    (StorageRose_later _ _ _ c.metadata.ensures.storage_kept.counts c.store.ensures.storage_counts (c.metadata.ensures.unlisted (λ e. absurd (went-on c.metadata.result c.in-Ok.start (sym c.start_after.ensures ∙ c.in-Ok.is) e))))
    (λ k refused.
    RefusesAppe-at (g.S.Storage.files c.args.storage.now) (g.S.Storage.rule c.args.storage.now) c.args.job.now.user c.args.job.now.path c.in-Ok.start
    (λ (f : Files). (c.store.result.bytes ≡ 0) × (g.S.Storage.rule c.args.storage.now [] f (Metadata c.args.job.now.user c.args.job.now.path) ≡ Some k))
    (λ (f : Files) (place : ℕ). RefusesStore (g.S.Storage.rule c.args.storage.now) c.args.job.now.user f (g.S.Storage.files c.store.new.storage) c.args.job.now.path place (g.L.Source.left c.args.link.now) (g.L.Source.left c.store.new.link) c.store.result.bytes k)
    (λ f told.
    append_place-start f c.args.job.now.path (g.S.Storage.rule c.args.storage.now [] f (Metadata c.args.job.now.user c.args.job.now.path)) c.metadata.result c.in-Ok.start
    ((rw told at c.metadata.ensures.refused) refl)
    (rw told at c.metadata.ensures.found)
    (sym c.start_after.ensures ∙ c.in-Ok.is))
    refused)
    cause

pub returns-in-Ok-clause-storage_well : goal.returns-in-Ok-clause-storage_well
returns-in-Ok-clause-storage_well g c =
    StorageWent-more _ _ _ _
    (c.metadata.ensures.unlisted (λ e. absurd (went-on c.metadata.result c.in-Ok.start (sym c.start_after.ensures ∙ c.in-Ok.is) e)))
    c.store.ensures.storage_well

pub returns-in-Ok-clause-refused_last : goal.returns-in-Ok-clause-refused_last
returns-in-Ok-clause-refused_last g c told =
    RefusedLast_later _ _ (meaning_of (once_begun (c.args.job.now.user, c.args.job.now.path) (g.S.Storage.rule c.args.storage.now)) (g.S.Storage.files c.store.new.storage)) c.args.job.now.user c.args.job.now.path _ _ _
    (StorageRose_later _ _ _ c.metadata.ensures.storage_kept.counts c.store.ensures.storage_counts (c.metadata.ensures.unlisted (λ e. absurd (went-on c.metadata.result c.in-Ok.start (sym c.start_after.ensures ∙ c.in-Ok.is) e))))
    ((rw c.metadata.ensures.storage_kept.same_rule at c.store.ensures.refused_last) (rw c.metadata.ensures.unchanged told))

pub returns-in-Err-clause-refused_last : goal.returns-in-Err-clause-refused_last
returns-in-Err-clause-refused_last g c told =
    rw (c.last.ensures.end, c.last.ensures.bytes) (RefusedLast-none _ (meaning_of (once_begun (c.args.job.now.user, c.args.job.now.path) (g.S.Storage.rule c.args.storage.now)) (g.S.Storage.files c.metadata.new.self)) c.args.job.now.user c.args.job.now.path _ _ _ (drop-nothing (g.L.Source.left c.args.link.now)))

pub returns-in-Ok-clause-owned : goal.returns-in-Ok-clause-owned
returns-in-Ok-clause-owned g c = rw c.metadata.ensures.storage_kept.same_rule at c.store.ensures.owned

pub returns-in-Ok-clause-begins : goal.returns-in-Ok-clause-begins
returns-in-Ok-clause-begins g c held memory =
    let rose = StorageRose_later _ _ _ c.metadata.ensures.storage_kept.counts c.store.ensures.storage_counts (c.metadata.ensures.unlisted (λ e. absurd (went-on c.metadata.result c.in-Ok.start (sym c.start_after.ensures ∙ c.in-Ok.is) e))) in
    append-begins (g.S.Storage.files c.args.storage.now) (g.S.Storage.rule c.args.storage.now) c.args.job.now.user c.args.job.now.path c.in-Ok.start _
    (λ f told.
    append_place-start f c.args.job.now.path (g.S.Storage.rule c.args.storage.now [] f (Metadata c.args.job.now.user c.args.job.now.path)) c.metadata.result c.in-Ok.start
    ((rw told at c.metadata.ensures.refused) refl)
    (rw told at c.metadata.ensures.found)
    (sym c.start_after.ensures ∙ c.in-Ok.is))
    (rw (c.metadata.ensures.unchanged, c.metadata.ensures.storage_kept.same_rule) at (c.store.ensures.begins (λ failed. held (rose failed)) memory))

pub returns-in-Err-clause-owned : goal.returns-in-Err-clause-owned
returns-in-Err-clause-owned g c =
    rw (c.last.ensures.end, c.last.ensures.bytes)
    (inr (c.metadata.ensures.storage_kept.same_rule, (refl, refl, stops-after c.metadata.result c.in-Err.completion (sym c.start_after.ensures ∙ c.in-Err.is))))

pub returns-in-Err-clause-begins : goal.returns-in-Err-clause-begins
returns-in-Err-clause-begins g c held memory =
    append-else (g.S.Storage.files c.args.storage.now) (g.S.Storage.rule c.args.storage.now) c.args.job.now.user c.args.job.now.path c.metadata.result c.in-Err.completion _ _
    (sym c.start_after.ensures ∙ c.in-Err.is) c.metadata.ensures.refused (λ failed. (c.metadata.ensures.fault_rose failed, c.metadata.ensures.as_listed failed)) held
    (rw c.last.ensures.end at memory)
