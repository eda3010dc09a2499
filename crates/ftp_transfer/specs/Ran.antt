-- What a run of a job leaves, from what earlier pieces moved on, by what the storage and the link told before and after it.
--   m   how many bytes this run moved
use Rattle.std.specs.Prelude.{◌≡◌, ◌⊎◌, ℕ, ◌+◌, ◌-◌, ◌^◌, ◌<◌, ◌≤◌, zero, suc, true, false, List, [], length, take, drop, Option, Some, None, IsSome, IfSome, IsSomeAnd}
use Rattle.std.specs.Option.{option_map}
use Rattle.ftp_base.specs.declared.command.DataChanCmd.{DataChanCmd}
use Rattle.ftp_base.specs.declared.command.DataChanCmd.TheVariants as command
use Rattle.ftp_base.specs.declared.error_kind.ErrorKind.{ErrorKind}
use Rattle.ftp_base.specs.declared.error_kind.ErrorKind.TheVariants as kind
use Rattle.ftp_base.specs.declared.fault.LinkFault.{LinkFault}
use Rattle.ftp_base.specs.Calls.{Calls, AllWell}
use Rattle.ftp_base.specs.Memory as memory
use Rattle.ftp_base.specs.Outside.{HasRisen, Writes, Sending}
use Rattle.ftp_base.specs.Storage.{BegunFile, Files, Meaning, Rule, once_begun, meaning_of, Listing, ReadAt, Begin, get, old_bytes, listing}
use Rattle.ftp_transfer.specs.declared.job.Job.{Job}
use Rattle.ftp_transfer.specs.declared.job.Outcome.{Outcome}
use Rattle.ftp_transfer.specs.declared.job.PieceResult.{PieceResult}
use Rattle.ftp_transfer.specs.declared.job.PieceResult.TheVariants.{More, Ended}
use Rattle.ftp_transfer.specs.declared.job.Completion.{Completion}
use Rattle.ftp_transfer.specs.declared.job.Completion.TheVariants as result
use Rattle.ftp_transfer.specs.Listing.{listing_text}
use Rattle.ftp_transfer.specs.Run.{StorageRose, LinkRose, StorageWent, link_failure, Caused, RefusedFirst, RefusedLast, GrowsFront, TakesFront, Stores, NotBegun, RefusesStore, Appends, RefusesAppe, RefusesMore, TakesStore, TakesAppe, TakesMore, append_refusal, read_place}
use Rattle.ftp_transfer.specs.Transfer.{is_store, is_listing}

-- what a storage and a link tell, and their calls
pub record Told : Type 0 where
  pub files : Option Files
  pub rule : Rule
  pub storage_faults : ℕ
  pub storage_calls : Option (Calls ℕ)
  pub left : Option (List ℕ)
  pub sending : Sending
  pub link_faults : ℕ
  pub link_calls : Option (Calls (ℕ × LinkFault))

abbrev pub told :
    Option Files → Rule → ℕ → Option (Calls ℕ) →
    Option (List ℕ) → Sending → ℕ → Option (Calls (ℕ × LinkFault)) → Told
told files rule storage_faults storage_calls left sending link_faults link_calls =
    record {
      files = files;
      rule = rule;
      storage_faults = storage_faults;
      storage_calls = storage_calls;
      left = left;
      sending = sending;
      link_faults = link_faults;
      link_calls = link_calls;
    }

-- the same, by what tells each of it
abbrev pub told_by :
    {S L : Type 0} → (S → Option Files) → (S → Rule) → (S → ℕ) → (S → Option (Calls ℕ)) →
    (L → Option (List ℕ)) → (L → Sending) → (L → ℕ) → (L → Option (Calls (ℕ × LinkFault))) → S → L → Told
told_by files rule storage_faults storage_calls left sending link_faults link_calls storage link =
    told (files storage) (rule storage) (storage_faults storage) (storage_calls storage)
    (left link) (sending link) (link_faults link) (link_calls link)

-- what failed of the storage from one to the other
abbrev pub StorageFailed : Told → Told → Type 0
StorageFailed old new = StorageRose old.storage_faults new.storage_faults old.storage_calls new.storage_calls

-- what failed of the link from one to the other
abbrev pub LinkFailedAt : Told → Told → Type 0
LinkFailedAt old new = LinkRose old.link_faults new.link_faults old.link_calls new.link_calls new.sending.last_fault

-- what a command sends whole, where so many bytes moved before: a RETR the file from the offset and these on, a listing
-- its text, and a STOR and an APPE nothing
abbrev pub due_of : DataChanCmd → Files → List ℕ → ℕ → List ℕ
due_of (command.Retr _) files path place = get (old_bytes files path) place
due_of (command.Stor _) files path place = []
due_of (command.Appe _) files path place = []
due_of (command.List o p) files path place = listing_text (command.List o p) (listing files path)
due_of (command.Nlst p) files path place = listing_text (command.Nlst p) (listing files path)
due_of (command.Mlsd p) files path place = listing_text (command.Mlsd p) (listing files path)

-- what a job sends whole from here on
abbrev pub due : Job → Files → List ℕ
due job files = due_of job.command files job.path (job.offset + job.done)

-- what a command stores of the input whose first piece this is: a STOR at the offset, an APPE behind the file
abbrev pub StoresAs : DataChanCmd → Job → Files → Meaning → Option Files → List ℕ → ℕ → Completion → Option LinkFault → Type 0
StoresAs (command.Stor _) job files meaning new input m r fault = Stores files new job.path job.offset input m r fault
StoresAs (command.Appe _) job files meaning new input m r fault = Appends meaning job.user files new job.path input m r fault
StoresAs _ job files meaning new input m r fault = new ≡ Some files

-- what a listing answers for a refusal: NLST turns each
abbrev pub shown_refusal : DataChanCmd → ErrorKind → ErrorKind
shown_refusal (command.Nlst _) k = kind.PermanentDirectoryNotAvailable
shown_refusal _ k = k

-- the storage refuses to list
abbrev pub RefusesListing : DataChanCmd → Meaning → List ℕ → List ℕ → ErrorKind → Type 0
RefusesListing c meaning user path k =
    (refusal : ErrorKind) × (meaning (Listing user path) ≡ Some refusal) × (k ≡ shown_refusal c refusal)

-- one of two, by whether a piece came before
abbrev pub ByDone : ℕ → Type 0 → Type 0 → Type 0
ByDone done first later = ((done ≡ 0) × first) ⊎ ((0 < done) × later)

-- the storage's rule refuses a call of the command that counts, at the files as they were when it was made: those before
-- the run, or those where it ended after m bytes
abbrev pub Refuses : DataChanCmd → Job → Rule → Files → Option Files → Option (List ℕ) → Option (List ℕ) → ℕ → ErrorKind → Type 0
Refuses (command.Retr _) job rule files new input later m k =
    rule [] files (ReadAt job.user job.path (read_place job.offset (job.done + m))) ≡ Some k
Refuses (command.Stor _) job rule files new input later m k =
    ByDone job.done (RefusesStore rule job.user files new job.path job.offset input later m k)
    (RefusesMore rule job.user files new job.path input later m k)
Refuses (command.Appe _) job rule files new input later m k =
    ByDone job.done (RefusesAppe rule job.user files new job.path input later m k)
    (RefusesMore rule job.user files new job.path input later m k)
Refuses c job rule files new input later m k = RefusesListing c (rule [] files) job.user job.path k

-- what is told of a first call, where no piece came before
abbrev pub only_first : ℕ → Option ErrorKind → Option ErrorKind
only_first zero refusal = refusal
only_first (suc done) refusal = None

-- how the meaning refuses the first call of the command that counts; a store that was begun before has none but its append
abbrev pub first_refusal : DataChanCmd → Job → Files → Meaning → Option ErrorKind
first_refusal (command.Retr _) job files meaning = meaning (ReadAt job.user job.path (read_place job.offset job.done))
first_refusal (command.Stor _) job files meaning = only_first job.done (meaning (Begin job.user job.path job.offset))
first_refusal (command.Appe _) job files meaning =
    only_first job.done (append_refusal meaning job.user job.path (length (old_bytes files job.path)))
first_refusal c job files meaning = option_map (shown_refusal c) (meaning (Listing job.user job.path))

-- all that is due was sent
abbrev pub IsSentWhole : Completion → Type 0
IsSentWhole result.Sent = Unit {0}
IsSentWhole result.Listed = Unit {0}
IsSentWhole _ = ⊥

-- the command did what it was asked for
abbrev pub IsDone : Completion → Type 0
IsDone result.Sent = Unit {0}
IsDone result.Written = Unit {0}
IsDone result.Listed = Unit {0}
IsDone _ = ⊥

-- the rule by which appends are judged where so many bytes moved before: if none did, the file is begun first
abbrev pub begun_by : ℕ → BegunFile → Rule → Rule
begun_by zero begun rule = once_begun begun rule
begun_by (suc done) begun rule = rule

-- the rule by which the appends of a store are judged
abbrev pub appends_by : Job → Rule → Rule
appends_by job rule = begun_by job.done (job.user, job.path) rule

-- what a run moved, what it left, and why it ended
pub record Moves (job : Job) (old new : Told) (m : ℕ) (r : Completion) (fault : Option LinkFault) : Type 0 where
  -- which calls the storage refuses stays, but for a store that began its file
  pub rule : is_store job.command ≡ false → new.rule ≡ old.rule
  pub owned : is_store job.command ≡ true → (new.rule ≡ appends_by job old.rule) ⊎ ((new.rule ≡ old.rule) × NotBegun m r fault)
  -- a store whose first calls are not refused, and that nothing stopped before its file was begun, began it
  pub begun : is_store job.command ≡ true → (StorageFailed old new → ⊥) → (r ≡ result.OutOfMemory → ⊥) →
      IfSome old.files (λ f. first_refusal job.command job f (old.rule [] f) ≡ None → new.rule ≡ appends_by job old.rule)
  -- what was sent is the front of what is due, and all of it where the result says so
  pub sent : IfSome old.files (λ f. Writes old.sending.sent new.sending.sent (take m (due job f)))
  pub within : is_store job.command ≡ false → IfSome old.files (λ f. m ≤ length (due job f))
  pub whole : IsSentWhole r → IfSome old.files (λ f. m ≡ length (due job f))
  -- a store sends nothing, and every other command stores and takes nothing
  pub silent : is_store job.command ≡ true → new.sending.sent ≡ old.sending.sent
  pub kept : is_store job.command ≡ false → (new.files ≡ old.files) × (new.left ≡ old.left)
  -- what was stored is the front of the input, behind what earlier pieces stored, and all of it where the result says so
  pub stored : job.done ≡ 0 → IfSome old.files (λ f. IfSome old.left (λ l. StoresAs job.command job f (old.rule [] f) new.files l m r fault))
  pub grown : 0 < job.done → is_store job.command ≡ true →
      IfSome old.files (λ f. IfSome old.left (λ l. GrowsFront f new.files job.path l m))
  pub written : r ≡ result.Written → IfSome old.left (λ l. (m ≡ length l) × (new.left ≡ Some []))
  -- what is done has a byte count below its end
  pub countable : IsDone r → job.done + m < 2 ^ 64 - 1
  -- why it ended
  pub cause : Caused (link_failure job.command)
      (LinkFailedAt old new) old.sending.last_fault new.sending.last_fault
      (StorageFailed old new)
      (λ k. IfSome old.files (λ f. Refuses job.command job old.rule f new.files old.left new.left m k))
      (job.done + m) r fault
  -- a refusal of the first call is the result, and then nothing is stored, and nothing taken of the link
  pub refused : IfSome old.files (λ f. IfSome (first_refusal job.command job f (old.rule [] f)) (λ k.
      RefusedFirst (StorageFailed old new) k m r × (new.files ≡ Some f) × (new.left ≡ old.left)))
  -- a file was sent to its end only where no read there is refused
  pub unrefused : r ≡ result.Sent →
      IfSome old.files (λ f. old.rule [] f (ReadAt job.user job.path (read_place job.offset (job.done + m))) ≡ None)
  -- a refusal of the piece that a store took last is the result
  pub refused_last : is_store job.command ≡ true → IsSome old.files →
      RefusedLast (StorageFailed old new) (meaning_of (appends_by job old.rule) new.files) job.user job.path
      (option_map (drop m) old.left) new.left r
  -- without a fault no call of the link was one of those that fail
  pub link_well : fault ≡ None → AllWell (λ (call : ℕ × LinkFault). call.0) old.link_calls new.link_calls
  -- the calls of the storage went well, or the last one failed as listed and the result is a local error
  pub storage_well : StorageWent old.storage_calls new.storage_calls r

-- a run of a job to its end: bytes moved, and then the link was closed or its close failed; what that close met changes
-- nothing
pub record Ran (job : Job) (old new : Told) (outcome : Outcome) : Type 0 where
  -- the outcome counts the bytes of earlier pieces too
  pub counted : job.done ≤ outcome.bytes
  -- how many faults the link had counted before its close
  pub faults : ℕ
  pub not_before : old.link_faults ≤ faults
  pub not_after : faults ≤ new.link_faults
  -- which calls the link had made before its close, where it tells them
  pub calls : Option (Calls (ℕ × LinkFault))
  pub moves :
      Moves job old (record new { link_faults = faults; link_calls = calls }) (outcome.bytes - job.done) outcome.result outcome.fault
  -- the link is closed, or its close failed and it is as open as before
  pub closed :
      ((new.sending.closed ≡ true) × AllWell (λ (call : ℕ × LinkFault). call.0) calls new.link_calls)
      ⊎ ((new.sending.closed ≡ old.sending.closed) × HasRisen faults new.link_faults × memory.LinkFailed calls new.link_calls)

-- a part of a run behind which more may come: bytes moved, and what moved is what moves in a run that ends there for no
-- cause of the storage, the link or the count, as one does for which memory runs out
pub record Went (job : Job) (old new : Told) (m : ℕ) : Type 0 where
  pub some : 0 < m
  pub in_range : job.done + m < 2 ^ 64
  -- a listing is sent whole
  pub goes_on : is_listing job.command ≡ false
  pub moves : Moves job old new m result.OutOfMemory None
  -- a store took what it stored, and no more
  pub taken : is_store job.command ≡ true → IfSome old.left (λ l. TakesFront l new.left m)
  -- a storage that told what it keeps tells it
  pub told : IsSome old.files → IsSome new.files
  -- the link is as open as before
  pub closed : new.sending.closed ≡ old.sending.closed

-- what a piece leaves: it went on, by at most 8,192 bytes, or it ended the run
abbrev pub RanPiece : Job → Told → Told → PieceResult → Type 0
RanPiece job old new (More bytes) = (bytes ≤ 8192) × Went job old new bytes
RanPiece job old new (Ended outcome) = Ran job old new outcome

-- the job of the next piece
abbrev pub next_job : Job → PieceResult → Job
next_job job (More bytes) = record job { done = job.done + bytes }
next_job job (Ended outcome) = job

-- the rule refuses none of the calls that a whole transfer of the job makes from here on: the reads at the places that it
-- reaches; to begin, and the appends of what the link gives, before them the metadata of an APPE; the listing
abbrev pub Takes : DataChanCmd → Job → Rule → Files → Option (List ℕ) → Type 0
Takes (command.Retr _) job rule files input =
    (m : ℕ) → m ≤ length (get (old_bytes files job.path) (job.offset + job.done)) → rule [] files (ReadAt job.user job.path (read_place job.offset (job.done + m))) ≡ None
Takes (command.Stor _) job rule files input =
    ByDone job.done (IsSomeAnd input (TakesStore rule job.user job.path files job.offset)) (IsSomeAnd input (TakesMore rule job.user job.path files))
Takes (command.Appe _) job rule files input =
    ByDone job.done (IsSomeAnd input (TakesAppe rule job.user job.path files)) (IsSomeAnd input (TakesMore rule job.user job.path files))
Takes c job rule files input = rule [] files (Listing job.user job.path) ≡ None

-- the rule refuses no call where a run ended
abbrev pub EndsUnrefused : Job → Files → Told → Told → ℕ → Type 0
EndsUnrefused job files old new m =
    (k : ErrorKind) → Refuses job.command job old.rule files new.files old.left new.left m k → ⊥

-- nothing was refused, no call but the link's close failed, memory was found, and the byte count is below its end
pub record IsClean (job : Job) (old new : Told) (outcome : Outcome) : Type 0 where
  -- none of the calls that a whole transfer makes, or none where this one ended
  pub unrefused : IsSomeAnd old.files (λ f. Takes job.command job old.rule f old.left ⊎ EndsUnrefused job f old new (outcome.bytes - job.done))
  pub storage : HasRisen old.storage_faults new.storage_faults → ⊥
  -- no read or write of the link failed: that would have left a last fault
  pub link : HasRisen old.link_faults new.link_faults → IsSome new.sending.last_fault → ⊥
  pub memory : outcome.result ≡ result.OutOfMemory → ⊥
  pub count : outcome.bytes < 2 ^ 64 - 1
