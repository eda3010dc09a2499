use Rattle.std.proofs.Common.{◌≡◌, inl, inr, ℕ, List, Option, Some, None, refl, ap, Err, rules}
use Rattle.std.specs.Prelude.{IfSome}
use Rattle.ftp_base.specs.declared.command.DataChanCmd.{DataChanCmd}
use Rattle.ftp_base.specs.declared.command.DataChanCmd.TheVariants as command
use Rattle.ftp_base.specs.declared.error_kind.ErrorKind.{ErrorKind}
use Rattle.ftp_base.specs.declared.error_kind.ErrorKind.TheVariants as kind
use Rattle.ftp_base.specs.declared.fault.LinkFault.{LinkFault}
use Rattle.ftp_transfer.specs.declared.job.Completion.TheVariants as result
use Rattle.ftp_base.specs.declared.storage.StoreError.{StoreError}
use Rattle.ftp_base.specs.declared.storage.StoreError.TheVariants.{Kind, Failed, OutOfMemory}
use Rattle.ftp_base.specs.Storage.{Meaning, Listing, meaning_of, Refuses}
use Rattle.ftp_transfer.specs.Ran.{RefusesListing, shown_refusal}
use Rattle.ftp_transfer.specs.Run.{Caused, RefusedFirst}
use Rattle.ftp_transfer.specs.Turn.{listing_end}
use Rattle.ftp_transfer.proofs.list.list.Goals as goal

any_first : (refusal : Option ErrorKind) (P : ErrorKind → Type 0) → ((k : ErrorKind) → P k) → IfSome refusal P
any_first None P h = tt
any_first (Some k) P h = h k

-- a listing ends so whatever the command
ends_failed : (c : DataChanCmd) → listing_end c Failed ≡ result.Refused kind.LocalError
ends_failed (command.Nlst p) = refl
ends_failed c = refl

-- a listing ends so whatever the command
ends_memory : (c : DataChanCmd) → listing_end c OutOfMemory ≡ result.OutOfMemory
ends_memory (command.Nlst p) = refl
ends_memory c = refl

-- a listing that is refused ends so
refused_so : (c : DataChanCmd) (refusal : Option ErrorKind) (e : StoreError) (rose : Type 0) → Refuses refusal e → (e ≡ Failed → rose) →
    IfSome refusal (λ k. RefusedFirst rose (shown_refusal c k) 0 (listing_end c e))
refused_so (command.Nlst path) refusal (Kind k) rose so failed = rw so (refl, inl refl)
refused_so c refusal (Kind k) rose so failed = rw so (refl, inl refl)
refused_so c refusal Failed rose so failed = any_first refusal _ (λ k. (refl, inr (inr (failed refl, ends_failed c))))
refused_so c refusal OutOfMemory rose so failed = any_first refusal _ (λ k. (refl, inr (inl (ends_memory c))))

-- a listing that the storage stopped ends for its cause
stopped_so : (c : DataChanCmd) (e : StoreError) (meaning : Meaning) (user path : List ℕ) (link rose told : Type 0) (last : Option LinkFault) (m : ℕ) →
    (told → Refuses (meaning (Listing user path)) e) → (e ≡ Failed → rose) →
    Caused result.WriteFailed link last last rose (λ k. told → RefusesListing c meaning user path k) m (listing_end c e) None
stopped_so (command.Nlst p) (Kind k) meaning user path link rose told last m refused failed = inr ((refl, refl), inr (λ t. (k, refused t, refl)))
stopped_so c (Kind k) meaning user path link rose told last m refused failed = inr ((refl, refl), inr (λ t. (k, refused t, refl)))
stopped_so c Failed meaning user path link rose told last m refused failed = rw (ends_failed c) (inr ((refl, refl), inl (refl, inl (failed refl))))
stopped_so c OutOfMemory meaning user path link rose told last m refused failed = rw (ends_memory c) (inr ((refl, refl), tt))

pub returns-clause-cause : goal.returns-clause-cause
returns-clause-cause g c =
    rw (c.last-in-Err.ensures.end, c.last-in-Err.ensures.bytes, c.listing_end.ensures)
    (stopped_so c.args.job.now.command c.in-Err.error (meaning_of (g.S.Storage.rule c.args.storage.now) (g.S.Storage.files c.args.storage.now)) c.args.job.now.user c.args.job.now.path _ _ _ _ _
    c.in-Err.ensures.refused
    (λ e. (c.in-Err.ensures.fault_rose (ap Err e), c.in-Err.ensures.as_listed (ap Err e))))

pub returns-clause-refused : goal.returns-clause-refused
returns-clause-refused g c told =
    rw (c.last-in-Err.ensures.end, c.last-in-Err.ensures.bytes, c.listing_end.ensures)
    (refused_so c.args.job.now.command (meaning_of (g.S.Storage.rule c.args.storage.now) (g.S.Storage.files c.args.storage.now) (Listing c.args.job.now.user c.args.job.now.path)) c.in-Err.error _
    (c.in-Err.ensures.refused told)
    (λ e. (c.in-Err.ensures.fault_rose (ap Err e), c.in-Err.ensures.as_listed (ap Err e))))

pub returns-clause-in_range : goal.returns-clause-in_range
returns-clause-in_range g c = rw c.last-in-Err.ensures.bytes (search rules)
