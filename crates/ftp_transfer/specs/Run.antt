-- What a run of a job sends and stores, and why it ends.
--   m              how many bytes this run moved
--   before, last   what the link's last fault was before the run, and is after it
use Rattle.std.specs.Prelude.{◌≡◌, ◌⊎◌, ℕ, ◌+◌, ◌-◌, ◌^◌, ◌<◌, ◌≤◌, List, [], ◌++◌, length, take, drop, min, Option, Some, None, IsSome, IfSome, IsSomeAnd, MatchOption, if◌then◌else◌}
use Rattle.std.specs.Option.{option_map, option_map_or}
use Rattle.ftp_base.specs.declared.command.DataChanCmd.{DataChanCmd}
use Rattle.ftp_base.specs.declared.error_kind.ErrorKind.{ErrorKind}
use Rattle.ftp_base.specs.declared.error_kind.ErrorKind.TheVariants as kind
use Rattle.ftp_base.specs.declared.fault.LinkFault.{LinkFault}
use Rattle.ftp_base.specs.Calls.{Calls, AllWell}
use Rattle.ftp_base.specs.Memory.{LinkMet, StorageMet}
use Rattle.ftp_base.specs.Outside.{HasRisen, Writes}
use Rattle.ftp_base.specs.Storage.{Files, Meaning, Rule, once_begun, meaning_of, Metadata, Begin, Append, contents, with_file, old_bytes, put}
use Rattle.ftp_transfer.specs.declared.job.Completion.{Completion}
use Rattle.ftp_transfer.specs.declared.job.Completion.TheVariants as result
use Rattle.ftp_transfer.specs.Transfer.{is_listing}

-- where a RETR reads that moved so many bytes from its offset on; there is nothing at the end of all places
abbrev pub read_place : ℕ → ℕ → ℕ
read_place offset moved = min (offset + moved) (2 ^ 64 - 1)

-- the first n bytes of a text were sent
abbrev pub SendsFront : List ℕ → ℕ → Option (List ℕ) → Option (List ℕ) → Type 0
SendsFront text n old new = (n ≤ length text) × Writes old new (take n text)

-- a storage failed: its count of faults rose, and the last call is one of those that fail
abbrev pub StorageRose : ℕ → ℕ → Option (Calls ℕ) → Option (Calls ℕ) → Type 0
StorageRose faults later old new = HasRisen faults later × StorageMet old new

-- a link failed: its count of faults rose, and its last fault is one that the list names for the last call
abbrev pub LinkRose : ℕ → ℕ → Option (Calls (ℕ × LinkFault)) → Option (Calls (ℕ × LinkFault)) → Option LinkFault → Type 0
LinkRose faults later old new last = HasRisen faults later × LinkMet old new last

-- how the calls of a storage went: all well, or the last one failed as listed and the result is a local error
abbrev pub StorageWent : Option (Calls ℕ) → Option (Calls ℕ) → Completion → Type 0
StorageWent old new r =
    AllWell (λ (call : ℕ). call) old new ⊎ ((r ≡ result.Refused kind.LocalError) × StorageMet old new)

-- a run ended with a refusal: the storage failed, the byte count stands at its end, or the storage refuses so
abbrev pub RefusedBy : Type 0 → (ErrorKind → Type 0) → ℕ → ErrorKind → Type 0
RefusedBy storage_rose refuses bytes k =
    ((k ≡ kind.LocalError) × (storage_rose ⊎ (bytes ≡ 2 ^ 64 - 1))) ⊎ refuses k

-- the result where a read or write of the link failed
abbrev pub link_failure : DataChanCmd → Completion
link_failure c = if is_listing c then result.WriteFailed else result.Refused kind.ConnectionClosed

-- a read or write of the link failed: the result says so, and the fault is what the link met
abbrev pub LinkFailed : Completion → Type 0 → Option LinkFault → Completion → Option LinkFault → Type 0
LinkFailed failure link_rose last r fault = (r ≡ failure) × link_rose × (fault ≡ last) × IsSome fault

-- no read or write of the link failed: there is no fault, and the link met none
abbrev pub LinkHeld : Option LinkFault → Option LinkFault → Option LinkFault → Type 0
LinkHeld before last fault = (fault ≡ None) × (last ≡ before)

-- a refusal has its cause, and no write failed
abbrev pub IfRefused : (ErrorKind → Type 0) → Completion → Type 0
IfRefused cause (result.Refused k) = cause k
IfRefused cause result.WriteFailed = ⊥
IfRefused cause _ = Unit {0}

-- why a run ended: the link failed, or it held and the storage or the count of bytes refused what was refused
abbrev pub Caused :
    Completion → Type 0 → Option LinkFault → Option LinkFault → Type 0 → (ErrorKind → Type 0) → ℕ → Completion → Option LinkFault → Type 0
Caused failure link_rose before last storage_rose refuses bytes r fault =
    LinkFailed failure link_rose last r fault
    ⊎ (LinkHeld before last fault × IfRefused (RefusedBy storage_rose refuses bytes) r)

-- the refusal of a call is the result, unless that call failed or memory ran out
abbrev pub EndsRefused : Type 0 → ErrorKind → Completion → Type 0
EndsRefused storage_rose k r =
    (r ≡ result.Refused k) ⊎ (r ≡ result.OutOfMemory) ⊎ (storage_rose × (r ≡ result.Refused kind.LocalError))

-- the refusal of a first call is the result, and no byte moved
abbrev pub RefusedFirst : Type 0 → ErrorKind → ℕ → Completion → Type 0
RefusedFirst storage_rose k bytes r = (bytes ≡ 0) × EndsRefused storage_rose k r

-- the first n bytes of the input were taken
abbrev pub TakesFront : List ℕ → Option (List ℕ) → ℕ → Type 0
TakesFront input later n = (n ≤ length input) × (later ≡ Some (drop n input))

-- the first n bytes of the input were put at the end of the file at a path; no byte changes nothing
abbrev pub GrowsFront : Files → Option Files → List ℕ → List ℕ → ℕ → Type 0
GrowsFront files new path input n =
    (n ≤ length input)
    × (((n ≡ 0) × (new ≡ Some files))
    ⊎ IsSomeAnd (contents files path) (λ had. new ≡ Some (with_file files path (had ++ take n input))))

-- the storage refuses to append the piece that was taken of the link's rest, of 1 to 8,192 bytes
abbrev pub RefusesAppend : Meaning → List ℕ → List ℕ → Option (List ℕ) → Option (List ℕ) → ErrorKind → Type 0
RefusesAppend meaning user path rest later k =
    (piece : List ℕ)
    × (0 < length piece)
    × (length piece ≤ 8192)
    × IfSome rest (λ l. TakesFront l later (length piece) × (piece ≡ take (length piece) l))
    × (meaning (Append user path piece) ≡ Some k)

-- where the storage refuses to append what was taken of the link's rest and not stored, that is the result
abbrev pub RefusedLast : Type 0 → Meaning → List ℕ → List ℕ → Option (List ℕ) → Option (List ℕ) → Completion → Type 0
RefusedLast storage_rose meaning user path rest later r =
    (piece left : List ℕ) (k : ErrorKind) →
    0 < length piece → rest ≡ Some (piece ++ left) → later ≡ Some left → meaning (Append user path piece) ≡ Some k → EndsRefused storage_rose k r

-- the files are the old ones, with the first m bytes of the input put at a place of the file at a path
abbrev pub IsStored : Files → Option Files → List ℕ → ℕ → List ℕ → ℕ → Type 0
IsStored files new path place input m = new ≡ Some (with_file files path (put (old_bytes files path) place (take m input)))

-- the storage refuses to begin, or, once the file was begun, to append what was taken last to it as it then was
abbrev pub RefusesStore : Rule → List ℕ → Files → Option Files → List ℕ → ℕ → Option (List ℕ) → Option (List ℕ) → ℕ → ErrorKind → Type 0
RefusesStore rule user files new path place input later m k =
    ((m ≡ 0) × (rule [] files (Begin user path place) ≡ Some k))
    ⊎ (IfSome input (λ l. IsStored files new path place l m)
    × RefusesAppend (meaning_of (once_begun (user, path) rule) new) user path (option_map (drop m) input) later k)

-- the storage refuses to append what was taken last to the file, which had been begun before and grew
abbrev pub RefusesMore : Rule → List ℕ → Files → Option Files → List ℕ → Option (List ℕ) → Option (List ℕ) → ℕ → ErrorKind → Type 0
RefusesMore rule user files new path input later m k =
    IfSome input (λ l. GrowsFront files new path l m)
    × RefusesAppend (meaning_of rule new) user path (option_map (drop m) input) later k

-- the storage stopped a job, or memory ran out
abbrev pub IsStopped : Completion → Type 0
IsStopped (result.Refused k) = Unit {0}
IsStopped result.OutOfMemory = Unit {0}
IsStopped _ = ⊥

-- nothing was begun
abbrev pub NotBegun : ℕ → Completion → Option LinkFault → Type 0
NotBegun m r fault = (m ≡ 0) × (fault ≡ None) × IsStopped r

-- the file is the old one with the first m bytes of the input put at a place, or nothing was begun
abbrev pub Stores : Files → Option Files → List ℕ → ℕ → List ℕ → ℕ → Completion → Option LinkFault → Type 0
Stores files new path place input m r fault =
    (m ≤ length input)
    × (IsStored files new path place input m
    ⊎ ((new ≡ Some files) × NotBegun m r fault))

-- where an APPE begins: behind the file, at 0 where there is said to be none, and nowhere after another refusal
abbrev pub append_place : Option ErrorKind → ℕ → Option ℕ
append_place None len = Some len
append_place (Some kind.PermanentFileNotAvailable) len = Some 0
append_place (Some _) len = None

-- the storage refuses metadata, to begin, or to append what was taken last
abbrev pub RefusesAppe : Rule → List ℕ → Files → Option Files → List ℕ → Option (List ℕ) → Option (List ℕ) → ℕ → ErrorKind → Type 0
RefusesAppe rule user files new path input later m k =
    MatchOption (append_place (rule [] files (Metadata user path)) (length (old_bytes files path))) ((m ≡ 0) × (rule [] files (Metadata user path) ≡ Some k))
    (λ place. RefusesStore rule user files new path place input later m k)

-- the rule refuses no call of a store of the whole input at a place: to begin, and once the file was begun, to append the
-- next 1 to 8,192 bytes to it as it then is
pub record TakesStore (rule : Rule) (user path : List ℕ) (files : Files) (place : ℕ) (input : List ℕ) : Type 0 where
  pub begin : rule [] files (Begin user path place) ≡ None
  pub appends :
      (m n : ℕ) → 0 < n → n ≤ 8192 → m + n ≤ length input →
      once_begun (user, path) rule [] (with_file files path (put (old_bytes files path) place (take m input))) (Append user path (take n (drop m input))) ≡ None

-- the same of an APPE, which asks for metadata first
abbrev pub TakesAppe : Rule → List ℕ → List ℕ → Files → List ℕ → Type 0
TakesAppe rule user path files input =
    MatchOption (append_place (rule [] files (Metadata user path)) (length (old_bytes files path))) ⊥
    (λ place. TakesStore rule user path files place input)

-- the rule refuses no append of the next 1 to 8,192 bytes of the input to a file that had been begun before, as it then is
abbrev pub TakesMore : Rule → List ℕ → List ℕ → Files → List ℕ → Type 0
TakesMore rule user path files input =
    (m n : ℕ) (now : Files) → GrowsFront files (Some now) path input m → 0 < n → n ≤ 8192 → m + n ≤ length input →
    rule [] now (Append user path (take n (drop m input))) ≡ None

-- the file is the old one with the first bytes of the input put behind it, or nothing was begun
abbrev pub Appends : Meaning → List ℕ → Files → Option Files → List ℕ → List ℕ → ℕ → Completion → Option LinkFault → Type 0
Appends meaning user files new path input m r fault =
    MatchOption (append_place (meaning (Metadata user path)) (length (old_bytes files path))) ((new ≡ Some files) × NotBegun m r fault)
    (λ place. Stores files new path place input m r fault)

-- how the first call of an APPE is refused that counts
abbrev pub append_refusal : Meaning → List ℕ → List ℕ → ℕ → Option ErrorKind
append_refusal meaning user path len =
    option_map_or (λ place. meaning (Begin user path place)) (append_place (meaning (Metadata user path)) len) (meaning (Metadata user path))
