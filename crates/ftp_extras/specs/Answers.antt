-- What is done on a line once the archive has answered, and what is kept for the next line.
use Rattle.std.specs.Prelude.{◌≡◌, ℕ, ⊤, Bool, true, false, List, [], ◌∷◌, ◌++◌, codes, decimal, Option, Some, None, unwrap_or, Result, Ok, Err, IsSome, IfSome, IsSomeAnd, if◌then◌else◌}
use Rattle.std.specs.Option.{option_map_or, option_and_then}
use Rattle.ftp_base.specs.declared.command.DataChanCmd.{DataChanCmd}
use Rattle.ftp_base.specs.declared.command.DataChanCmd.TheVariants as move
use Rattle.ftp_base.specs.declared.error_kind.ErrorKind.{ErrorKind}
use Rattle.ftp_base.specs.declared.error_kind.ErrorKind.TheVariants as kind
use Rattle.ftp_base.specs.declared.message.ControlChanMsg.TheVariants as message
use Rattle.ftp_base.specs.declared.reply.ReplyCode.TheVariants as code
use Rattle.ftp_base.specs.declared.storage.StoreError.{StoreError}
use Rattle.ftp_base.specs.declared.storage.StoreError.TheVariants as store
use Rattle.ftp_base.specs.Outside.{HasRisen}
use Rattle.ftp_base.specs.Storage.{Files, item, meta_of}
use Rattle.ftp_transfer.specs.Listing.{facts}
use Rattle.ftp_control.specs.declared.command.Command.{Command}
use Rattle.ftp_control.specs.declared.command.Command.TheVariants as command
use Rattle.ftp_extras.specs.declared.archive.Found.{Found}
use Rattle.ftp_extras.specs.declared.archive.Request.{Request}
use Rattle.ftp_extras.specs.declared.archive.Request.TheVariants as request
use Rattle.ftp_extras.specs.declared.archive.Response.{Response}
use Rattle.ftp_extras.specs.declared.archive.Response.TheVariants as response
use Rattle.ftp_extras.specs.declared.extra.Extra.{Extra}
use Rattle.ftp_extras.specs.declared.extra.Extra.TheVariants as extra
use Rattle.ftp_extras.specs.declared.plan.Offers.{Offers}
use Rattle.ftp_extras.specs.declared.plan.Plan.{Plan}
use Rattle.ftp_extras.specs.declared.plan.Plan.TheVariants as plan
use Rattle.ftp_extras.specs.declared.word.ExtraWord.{ExtraWord}
use Rattle.ftp_extras.specs.declared.word.ExtraWord.TheVariants as word
use Rattle.ftp_extras.specs.Archive.{IsDated, Changes, told_refusal}
use Rattle.ftp_extras.specs.Extra.{AskerView, says_text, tells}
use Rattle.ftp_extras.specs.Plan.{plan_of}
use Rattle.ftp_extras.specs.ReplyLines.{OneLine, ManyLines}
use Rattle.ftp_extras.specs.Texts.{resolved, sent_text}
use Rattle.ftp_extras.specs.Words.{extra_word_of}

-- a refusal of the storage is told
abbrev pub refuses_by : ErrorKind → Extra
refuses_by k = extra.Tell (message.StorageError k)

-- the fact of a date that is known
abbrev pub date_fact : Option (List ℕ) → List ℕ
date_fact None = []
date_fact (Some at) = codes "modify=" ++ at ++ codes ";"

-- the line of facts of MLST: a blank, the facts, a blank, the path
abbrev pub facts_line : List ℕ → Found → List ℕ
facts_line path found =
    codes " " ++ facts found.meta ++ date_fact found.modified ++ codes " " ++ sent_text (resolved path)

-- SIZE: a file's bytes, as all is sent in binary
abbrev pub size_reply : Found → Extra
size_reply found =
    if found.meta.is_dir then tells code.FileError (codes "Not a file") else says_text (OneLine (codes "213") (decimal found.meta.len))

-- MDTM: the date, where it is known
abbrev pub date_reply : Option (List ℕ) → Extra
date_reply None = tells code.FileError (codes "Date not known")
date_reply (Some at) = says_text (OneLine (codes "213") at)

-- MLST
abbrev pub facts_reply : List ℕ → Found → Extra
facts_reply path found = says_text (ManyLines (codes "250") (codes "Facts") (facts_line path found ∷ []) (codes "End"))

-- what is told of what stands at a path
abbrev pub found_reply : ExtraWord → List ℕ → Found → Extra
found_reply word.Rnfr path found = tells code.FileActionPending (codes "Ready for RNTO")
found_reply word.Size path found = size_reply found
found_reply word.Mdtm path found = date_reply found.modified
found_reply word.Mlst path found = facts_reply path found
found_reply _ path found = extra.Pass

-- MFMT
abbrev pub dated_reply : List ℕ → List ℕ → Extra
dated_reply path at = says_text (OneLine (codes "213") (codes "Modify=" ++ at ++ codes "; " ++ sent_text (resolved path)))

-- what is told of a change, which listeners hear of by its notice
abbrev pub done_reply : Request → Extra
done_reply (request.Look path) = extra.Pass
done_reply (request.Remove path) = extra.Tell (message.DelFileSuccess path)
done_reply (request.MakeDirectory path) = extra.Tell (message.MkDirSuccess path)
done_reply (request.RemoveDirectory path) = extra.Tell (message.RmDirSuccess path)
done_reply (request.Rename from to) = extra.Tell (message.RenameSuccess from to)
done_reply (request.SetModified path at) = dated_reply path at

-- the path that a look is for
abbrev pub looked_at : Request → List ℕ
looked_at (request.Look path) = path
looked_at _ = []

-- what is told on a word
abbrev pub word_reply : ExtraWord → Request → Response → Extra
word_reply w r (response.Found found) = found_reply w (looked_at r) found
word_reply w r response.Done = done_reply r
word_reply w r (response.Refused k) = refuses_by k
word_reply w r response.Failed = refuses_by kind.LocalError

-- how a transfer is refused for want of what was looked at: the file, or a directory
abbrev pub refusal_for : DataChanCmd → ErrorKind → ErrorKind
refusal_for (move.Retr path) k = k
refusal_for _ kind.PermanentFileNotAvailable = kind.PermanentDirectoryNotAvailable
refusal_for _ k = k

-- how a transfer is refused for what was found: a directory is not sent, no file is stored in a file, and MLSD lists directories
-- alone (RFC 3659, section 7.2.1)
abbrev pub refused_for : DataChanCmd → Bool → Extra
refused_for (move.Retr path) true = refuses_by kind.PermanentFileNotAvailable
refused_for (move.Stor path) false = refuses_by kind.PermanentDirectoryNotAvailable
refused_for (move.Appe path) false = refuses_by kind.PermanentDirectoryNotAvailable
refused_for (move.Mlsd path) false = refuses_by kind.PermanentDirectoryNotAvailable
refused_for _ _ = extra.Pass

-- what is done on a transfer: it is refused, or goes on
abbrev pub transfer_reply : DataChanCmd → Response → Extra
transfer_reply c (response.Found found) = refused_for c found.meta.is_dir
transfer_reply c (response.Refused k) = refuses_by (refusal_for c k)
transfer_reply c response.Done = extra.Pass
transfer_reply c response.Failed = extra.Pass

-- what is done on the line of a command once the archive has answered
abbrev pub reply_by : Command → Request → Response → Extra
reply_by (command.Other w) r s = option_map_or (λ known. word_reply known r s) (extra_word_of w) extra.Pass
reply_by (command.Data c) r s = transfer_reply c s
reply_by _ r s = extra.Pass

-- what RNFR has found is kept for the next line, and nothing else is: RNTO has to follow at once (RFC 959, section 4.1.3)
abbrev pub named_by : ExtraWord → Request → Response → Option (List ℕ)
named_by word.Rnfr (request.Look path) (response.Found found) = Some path
named_by _ _ _ = None

abbrev pub kept_for_next : Command → Request → Response → Option (List ℕ)
kept_for_next (command.Other w) r s = option_and_then (λ known. named_by known r s) (extra_word_of w)
kept_for_next _ r s = None

-- an archive may answer so
abbrev pub CanAnswer : Request → Response → Type 0
CanAnswer (request.Look path) (response.Found found) = IsDated found
CanAnswer (request.Look path) response.Done = ⊥
CanAnswer r (response.Found found) = ⊥
CanAnswer r _ = ⊤

-- what an archive's answer says of the files: by the rule for the request, and what is not done changes nothing
abbrev pub IsTrueOf : Option ErrorKind → Option Files → Option Files → (ℕ × ℕ) → Request → Response → Type 0
IsTrueOf refusal old new faults r (response.Found found) =
    (IsSome old → refusal ≡ None) × (new ≡ old)
    × IfSome old (λ files. IsSomeAnd (item files (looked_at r)) (λ i. found.meta ≡ meta_of i))
IsTrueOf refusal old new faults r response.Done = (IsSome old → refusal ≡ None) × Changes r old new
IsTrueOf refusal old new faults r (response.Refused k) = (IsSome old → refusal ≡ Some k) × (new ≡ old)
IsTrueOf refusal old new faults r response.Failed = HasRisen faults.0 faults.1 × (new ≡ old)

-- an archive answers a user's request so
abbrev pub IsTold : (Files → List ℕ → Request → Option ErrorKind) → Option Files → Option Files → (ℕ × ℕ) → List ℕ → Request → Response → Type 0
IsTold refusals old new faults user r s = CanAnswer r s × IsTrueOf (told_refusal refusals old user r) old new faults r s

-- what an error answers
abbrev pub IsErrorOf : StoreError → Response → Type 0
IsErrorOf (store.Kind k) s = s ≡ response.Refused k
IsErrorOf store.Failed s = s ≡ response.Failed
IsErrorOf store.OutOfMemory s = ⊥

-- what the outcome of a change answers
abbrev pub IsResponseTo : {A : Type 0} → Result A StoreError → Response → Type 0
IsResponseTo (Ok x) s = s ≡ response.Done
IsResponseTo (Err e) s = IsErrorOf e s

-- the name under which the archive is asked
abbrev pub asking_user : AskerView → List ℕ
asking_user who = unwrap_or who.name (codes "unknown")

-- this is done, and this is kept then: at once, or by an answer of which P says what it may be
abbrev pub IsDone : (Request → Response → Type 0) → Command → Plan → Extra → Option (List ℕ) → Type 0
IsDone P c (plan.Do y) x after = (x ≡ y) × (after ≡ None)
IsDone P c (plan.Ask r) x after = (s : Response) × P r s × (x ≡ reply_by c r s) × (after ≡ kept_for_next c r s)

-- what may be done, and kept then, whatever an archive answers
abbrev pub MayDo : Offers → AskerView → Option (List ℕ) → Command → List ℕ → Extra → Option (List ℕ) → Type 0
MayDo o who before c line x after = IsDone CanAnswer c (plan_of o who before c line) x after

-- what is done, and kept then, by what this archive answers
abbrev pub DoneBy : (Files → List ℕ → Request → Option ErrorKind) → Option Files → Option Files → (ℕ × ℕ) → Offers → AskerView → Option (List ℕ) →
    Command → List ℕ → Extra → Option (List ℕ) → Type 0
DoneBy refusals old new faults o who before c line x after =
    IsDone (λ r s. IsTold refusals old new faults (asking_user who) r s) c (plan_of o who before c line) x after
