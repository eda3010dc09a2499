-- What a turn takes, and what stops it.
use Rattle.std.specs.Prelude.{◌≡◌, ◌⊎◌, ℕ, ◌+◌, ◌-◌, ◌^◌, ◌<◌, ◌≤◌, true, List, [], length, Option, Some, None, IsNone, IfSome, Result, Ok, Err}
use Rattle.ftp_base.specs.declared.command.DataChanCmd.{DataChanCmd}
use Rattle.ftp_base.specs.declared.command.DataChanCmd.TheVariants as command
use Rattle.ftp_base.specs.declared.fault.LinkFault.{LinkFault}
use Rattle.ftp_base.specs.declared.error_kind.ErrorKind.{ErrorKind}
use Rattle.ftp_base.specs.declared.error_kind.ErrorKind.TheVariants as kind
use Rattle.ftp_base.specs.declared.storage.Meta.{Meta}
use Rattle.ftp_base.specs.declared.storage.StoreError.{StoreError}
use Rattle.ftp_base.specs.declared.storage.StoreError.TheVariants.{Kind, Failed, OutOfMemory}
use Rattle.ftp_transfer.specs.declared.job.Completion.{Completion}
use Rattle.ftp_transfer.specs.declared.job.Completion.TheVariants as result
use Rattle.ftp_transfer.specs.declared.job.Job.{Job}
use Rattle.ftp_transfer.specs.declared.turn.End.{End}
use Rattle.ftp_transfer.specs.declared.turn.Turn.{Turn}
use Rattle.ftp_transfer.specs.Ran.{IsDone}
use Rattle.ftp_transfer.specs.Run.{LinkFailed, LinkHeld, TakesFront}
use Rattle.ftp_transfer.specs.Transfer.{suits}

-- the result of a turn that ended a transfer, and want of memory, which has no cause, where it did not
abbrev pub result_of : Option End → Completion
result_of None = result.OutOfMemory
result_of (Some end) = end.result

-- the fault of a turn that ended a transfer by it
abbrev pub fault_of : Option End → Option LinkFault
fault_of None = None
fault_of (Some end) = end.fault

-- what a turn of a store takes of the link: a front of it, and all of it where the result says so
pub record Took (job : Job) (left later : Option (List ℕ)) (turn : Turn) : Type 0 where
  pub some : IsNone turn.end → 0 < turn.bytes
  pub short : turn.bytes ≤ 8192
  pub in_range : job.done + turn.bytes < 2 ^ 64
  pub taken : IsNone turn.end → IfSome left (λ l. TakesFront l later turn.bytes)
  pub within : IfSome left (λ l. turn.bytes ≤ length l)
  pub whole : result_of turn.end ≡ result.Written → IfSome left (λ l. (turn.bytes ≡ length l) × (later ≡ Some []))
  pub countable : IsDone (result_of turn.end) → job.done + turn.bytes < 2 ^ 64 - 1
  pub suits : suits (result_of turn.end) job.command ≡ true

-- the result of a transfer that a storage stopped
abbrev pub completion_of : StoreError → Completion
completion_of (Kind k) = result.Refused k
completion_of Failed = result.Refused kind.LocalError
completion_of OutOfMemory = result.OutOfMemory

-- a link failed, or found no memory, as bytes of a file were sent
abbrev pub StopsSending : Type 0 → Option LinkFault → Option LinkFault → Completion → Option LinkFault → Type 0
StopsSending link_rose before last r fault =
    LinkFailed (result.Refused kind.ConnectionClosed) link_rose last r fault
    ⊎ ((r ≡ result.OutOfMemory) × LinkHeld before last fault)

-- a storage failed, refused, or found no memory
abbrev pub StopsStoring : Type 0 → (ErrorKind → Type 0) → Completion → Type 0
StopsStoring storage_rose refuses r =
    ((r ≡ result.Refused kind.LocalError) × storage_rose)
    ⊎ ((k : ErrorKind) × (r ≡ result.Refused k) × refuses k)
    ⊎ (r ≡ result.OutOfMemory)

-- where an APPE begins after an answer of metadata, or how it ends
abbrev pub start_after : Result Meta StoreError → Result ℕ Completion
start_after (Ok meta) = Ok meta.len
start_after (Err (Kind kind.PermanentFileNotAvailable)) = Ok 0
start_after (Err e) = Err (completion_of e)

-- a listing was sent, or its link failed, or memory ran out, or the count of bytes stands at its end
abbrev pub StopsListing : Type 0 → Option LinkFault → Option LinkFault → ℕ → Completion → Option LinkFault → Type 0
StopsListing link_rose before last bytes r fault =
    LinkFailed result.WriteFailed link_rose last r fault
    ⊎ (((r ≡ result.Listed) ⊎ (r ≡ result.OutOfMemory) ⊎ ((r ≡ result.Refused kind.LocalError) × (bytes ≡ 2 ^ 64 - 1))) × LinkHeld before last fault)

-- how a listing ends that the storage stopped: NLST turns each refusal
abbrev pub listing_end : DataChanCmd → StoreError → Completion
listing_end (command.Nlst path) (Kind k) = result.Refused kind.PermanentDirectoryNotAvailable
listing_end c e = completion_of e
