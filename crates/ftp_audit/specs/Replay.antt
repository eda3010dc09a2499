-- Calls of users, one after another, and what became of each.
use Rattle.std.specs.Prelude.{◌≡◌, ◌≢◌, ℕ, ◌≤◌, List, [], ◌∷◌, ◌++◌, take, length, Option, Some, None, Result, Ok, Err, alloc_error}
use Rattle.std.specs.declared.alloc.AllocError.{AllocError}
use Rattle.ftp_base.specs.declared.error_kind.ErrorKind.{ErrorKind}
use Rattle.ftp_base.specs.Outside.{HasRisen}
use Rattle.ftp_base.specs.Storage.{BegunFile, Files, Rule, Call, Metadata, Listing, ReadAt, Begin, Append, old_bytes, cut, with_file}
use Rattle.ftp_base.specs.declared.storage.StoreError.{StoreError}
use Rattle.ftp_base.specs.declared.storage.StoreError.TheVariants as store
use Rattle.ftp_audit.specs.declared.calls.QuotaCall.{QuotaCall}
use Rattle.ftp_audit.specs.declared.calls.QuotaCall.TheVariants as call
use Rattle.ftp_audit.specs.declared.calls.Verdict.{Verdict}
use Rattle.ftp_audit.specs.declared.calls.Verdict.TheVariants.{Done, Refused, Failed}
use Rattle.ftp_audit.specs.Book.{Book}
use Rattle.ftp_audit.specs.Quota.{refusal_of, after_call}

-- the call of the storage that is made
abbrev pub call_of : QuotaCall → Call
call_of (call.Begin user path start) = Begin user path start
call_of (call.Append user path bytes) = Append user path bytes

-- the budgets and owners, where there are any, the files, and which files were begun, the first of them first
pub record Kept : Type 0 where
  pub book : Option Book
  pub files : Files
  pub begun : List BegunFile

-- what is kept where no file was begun yet
abbrev pub kept_at : Option Book → Files → Kept
kept_at book files = record { book = book; files = files; begun = [] }

-- the files that were begun, after a call that went well
abbrev pub begun_after : List BegunFile → Call → List BegunFile
begun_after begun (Metadata user path) = begun
begun_after begun (Listing user path) = begun
begun_after begun (ReadAt user path place) = begun
begun_after begun (Begin user path start) = begun ++ (user, path) ∷ []
begun_after begun (Append user path bytes) = begun

-- the rule once files were begun, the first of them first
abbrev pub once_all : List BegunFile → Rule → Rule
once_all begun rule = λ later. rule (begun ++ later)

-- the files after a call that went well
abbrev pub files_after : Files → Call → Files
files_after files (Metadata user path) = files
files_after files (Listing user path) = files
files_after files (ReadAt user path place) = files
files_after files (Begin user path start) = with_file files path (cut (old_bytes files path) start)
files_after files (Append user path bytes) = with_file files path (old_bytes files path ++ bytes)

-- how a call is refused as things are kept
abbrev pub refusal_in : Rule → Kept → QuotaCall → Option ErrorKind
refusal_in rule kept c = refusal_of kept.book (rule kept.begun kept.files) (call_of c)

-- what becomes of a call that is refused so
abbrev pub verdict_by : Option ErrorKind → Verdict
verdict_by None = Done
verdict_by (Some k) = Refused k

-- what is kept after a call that is refused so
abbrev pub kept_by : Option ErrorKind → Kept → Call → Kept
kept_by None kept c = record { book = after_call kept.book c; files = files_after kept.files c; begun = begun_after kept.begun c }
kept_by (Some k) kept c = kept

-- what is kept after a call
abbrev pub next : Rule → Kept → QuotaCall → Kept
next rule kept c = kept_by (refusal_in rule kept c) kept (call_of c)

-- what is kept after calls
abbrev pub kept_after : Rule → Kept → List QuotaCall → Kept
kept_after rule kept [] = kept
kept_after rule kept (c ∷ calls) = kept_after rule (next rule kept c) calls

-- what becomes of calls, where none fails
abbrev pub verdicts : Rule → Kept → List QuotaCall → List Verdict
verdicts rule kept [] = []
verdicts rule kept (c ∷ calls) = verdict_by (refusal_in rule kept c) ∷ verdicts rule (next rule kept c) calls

-- the storage tells the files that are kept, beside the book, and refuses by the rule once those files were begun
pub record Tells (rule : Rule) (files : Option Files) (book : Option Book) (now : Rule) (kept : Kept) : Type 0 where
  pub same_files : files ≡ Some kept.files
  pub same_book : book ≡ kept.book
  pub same_rule : now ≡ once_all kept.begun rule

-- a call that did not fail had its verdict, and left what is due
abbrev pub Answered : Rule → Kept → QuotaCall → Option Files → Option Book → Rule → Verdict → Type 0
Answered rule kept c files book now verdict =
    verdict ≢ Failed → (verdict ≡ verdict_by (refusal_in rule kept c)) × Tells rule files book now (next rule kept c)

-- no fault was counted
abbrev pub NoFault : ℕ → ℕ → Type 0
NoFault old new = HasRisen old new → ⊥

-- the first n calls were made, all of them where that is said, and the others were not
pub record MadeFirst (rule : Rule) (kept : Kept) (calls : List QuotaCall) (files : Option Files) (book : Option Book) (now : Rule) (n : ℕ) : Type 0 where
  pub within : n ≤ length calls
  pub tells : Tells rule files book now (kept_after rule kept (take n calls))

-- what an answer of the storage tells of a call
abbrev pub verdict_of : Result (Unit {0}) StoreError → Result Verdict AllocError
verdict_of (Ok x) = Ok Done
verdict_of (Err (store.Kind k)) = Ok (Refused k)
verdict_of (Err store.Failed) = Ok Failed
verdict_of (Err store.OutOfMemory) = Err alloc_error
