-- What storages keep, which calls they refuse, and what their calls do.
--   item files path      what stands at a path
--   contents files path  the bytes of the file at a path
--   listing files dir    what a listing of a directory shows
--   files_in_order files the files under their paths, in byte order of paths
--   get bytes place      the bytes from a place on
--   put bytes place new  the bytes with others put at a place
use Rattle.std.specs.Prelude.{◌≡◌, ℕ, ◌-◌, ◌<◌, ◌≤◌, Bool, true, false, not, ◌&&◌, ◌==◌, List, [], ◌∷◌, ◌++◌, map, length, take, drop, replicate, filter, fold, Option, Some, None, IsSome, IfSome, IsSomeAnd, unwrap_or, Result, Ok, Err, MatchResult, if◌then◌else◌}
use Rattle.std.specs.List.{before_last, after_last, filter_map}
use Rattle.std.specs.Option.{option_and_then, option_map}
use Rattle.std.specs.Ordering.{nat_cmp, ordering_then}
use Rattle.std.specs.declared.cmp.Ordering.{Ordering}
use Rattle.std.specs.Cmp.Lexicographic.{slice_cmp}
use Rattle.std.specs.Str.{bytes_eq}
use Rattle.std.specs.FinMap as map
use Rattle.ftp_base.specs.declared.error_kind.ErrorKind.{ErrorKind}
use Rattle.ftp_base.specs.declared.storage.Meta.{Meta}
use Rattle.ftp_base.specs.declared.storage.FileInfo.{FileInfo}
use Rattle.ftp_base.specs.declared.storage.StoreError.{StoreError}
use Rattle.ftp_base.specs.declared.storage.StoreError.TheVariants.{Kind, Failed, OutOfMemory}

-- a directory, or a file with its bytes
pub data Item : Type 0 where
  Directory : Item
  File : (bytes : List ℕ) → Item

-- what stands at each path, in byte order of paths; the root is a directory that it leaves out
abbrev pub Files : Type 0
Files = map.FinMap (slice_cmp nat_cmp) Item

-- `/`
abbrev pub root : List ℕ
root = 47 ∷ []

-- what stands at a path
abbrev pub item : Files → List ℕ → Option Item
item files path = if bytes_eq path root then Some Directory else map.get files path

-- the bytes of a file
abbrev pub bytes_of : Item → Option (List ℕ)
bytes_of Directory = None
bytes_of (File bytes) = Some bytes

-- the bytes of the file at a path
abbrev pub contents : Files → List ℕ → Option (List ℕ)
contents files path = option_and_then bytes_of (item files path)

-- what is told of a file or a directory
abbrev pub meta_of : Item → Meta
meta_of Directory = record { is_dir = true; len = 0 }
meta_of (File bytes) = record { is_dir = false; len = length bytes }

-- the bytes from a place on
abbrev pub get : List ℕ → ℕ → List ℕ
get bytes place = drop place bytes

-- the bytes up to a place, with zeros up to it
abbrev pub cut : List ℕ → ℕ → List ℕ
cut bytes place = take place bytes ++ replicate (place - length bytes) 0

-- the bytes up to a place, with zeros up to it, and then the new ones
abbrev pub put : List ℕ → ℕ → List ℕ → List ℕ
put bytes place new = cut bytes place ++ new

-- the files with a file at a path
abbrev pub with_file : Files → List ℕ → List ℕ → Files
with_file files path bytes = map.insert files path (File bytes)

-- the bytes that a file grows from: none where there is no file
abbrev pub old_bytes : Files → List ℕ → List ℕ
old_bytes files path = unwrap_or (contents files path) []

-- the byte is `/`
abbrev pub is_slash : ℕ → Bool
is_slash byte = byte == 47

-- what is not empty, or the root
abbrev pub or_root : List ℕ → List ℕ
or_root [] = root
or_root (byte ∷ path) = byte ∷ path

-- the directory that a path lies in
abbrev pub parent : List ℕ → List ℕ
parent path = or_root (before_last is_slash path)

-- what a path is called in its directory
abbrev pub name : List ℕ → List ℕ
name path = after_last is_slash path

-- the path lies in the directory
abbrev pub is_child : List ℕ → List ℕ → Bool
is_child dir path = bytes_eq (parent path) dir && not (bytes_eq path root)

-- by names, and equal names by paths
abbrev pub place_cmp : List ℕ × List ℕ → List ℕ × List ℕ → Ordering
place_cmp a b = ordering_then (slice_cmp nat_cmp a.0 b.0) (slice_cmp nat_cmp a.1 b.1)

-- the places with an entry put under its name and path
abbrev pub with_place : map.FinMap place_cmp Meta → List ℕ × Item → map.FinMap place_cmp Meta
with_place places entry = map.insert places (name entry.0, entry.0) (meta_of entry.1)

-- the children of a directory, under their names and paths
abbrev pub children : Files → List ℕ → map.FinMap place_cmp Meta
children files dir = fold with_place map.empty (filter (λ e. is_child dir e.0) (map.entries files))

-- what a listing shows of a child, without a mode and a date
abbrev pub info_of : (List ℕ × List ℕ) × Meta → FileInfo
info_of child = record { name = child.0.0; meta = child.1; looks = None }

-- what a listing of a directory shows, in byte order of names and equal names in byte order of paths
abbrev pub listing : Files → List ℕ → List FileInfo
listing files dir = map info_of (map.entries (children files dir))

-- the file under a path, where one is
abbrev pub file_at : List ℕ × Item → Option (List ℕ × List ℕ)
file_at entry = option_map (λ bytes. (entry.0, bytes)) (bytes_of entry.1)

-- the files under their paths, in byte order of paths
abbrev pub files_in_order : Files → List (List ℕ × List ℕ)
files_in_order files = filter_map file_at (map.entries files)

-- a call whose refusal is told, with who calls
pub data Call : Type 0 where
  Metadata : (user path : List ℕ) → Call
  Listing : (user path : List ℕ) → Call
  ReadAt : (user path : List ℕ) (place : ℕ) → Call
  Begin : (user path : List ℕ) (start : ℕ) → Call
  Append : (user path bytes : List ℕ) → Call

-- which calls are refused, and how
abbrev pub Meaning : Type 0
Meaning = Call → Option ErrorKind

-- who began a file, and its path
abbrev pub BegunFile : Type 0
BegunFile = List ℕ × List ℕ

-- the meaning by the files that were begun meanwhile, the first of them first, and by what stands at each path
abbrev pub Rule : Type 0
Rule = List BegunFile → Files → Meaning

-- the rule once a file was begun
abbrev pub once_begun : BegunFile → Rule → Rule
once_begun begun rule = λ later. rule (begun ∷ later)

-- by the rule it is all one who began what
abbrev pub IsFixed : Rule → Type 0
IsFixed rule = (begun : BegunFile) → once_begun begun rule ≡ rule

-- the meaning of the files by a rule; where they are not told it refuses nothing, and binds nothing
abbrev pub meaning_of : Rule → Option Files → Meaning
meaning_of rule None call = None
meaning_of rule (Some files) call = rule [] files call

-- an answer refuses as the meaning says, unless the call failed or memory ran out
abbrev pub Refuses : Option ErrorKind → StoreError → Type 0
Refuses refusal (Kind k) = refusal ≡ Some k
Refuses refusal Failed = Unit {0}
Refuses refusal OutOfMemory = Unit {0}

-- a call is answered as the meaning says, where the storage tells what it keeps
abbrev pub Answers : {A : Type 0} → Option Files → Option ErrorKind → Result A StoreError → Type 0
Answers told refusal result = IsSome told → MatchResult result (λ _. refusal ≡ None) (Refuses refusal)

-- a call went through, as its answer says: it went well, or it failed
abbrev pub WentThrough : {A : Type 0} → Result A StoreError → Type 0
WentThrough (Ok x) = Unit {0}
WentThrough (Err Failed) = Unit {0}
WentThrough (Err (Kind k)) = ⊥
WentThrough (Err OutOfMemory) = ⊥

-- n bytes from a place of a file were read to the front of out, and none exactly where none was left
pub record ReadsFrom (place n : ℕ) (out bytes : List ℕ) : Type 0 where
  pub within : n ≤ length (get bytes place)
  pub front : take n out ≡ take n (get bytes place)
  pub end : 0 < length out → n ≡ 0 → get bytes place ≡ []

-- n bytes of the file at a path were read
abbrev pub ReadsFile : Files → List ℕ → ℕ → ℕ → List ℕ → Type 0
ReadsFile files path place n out = IsSomeAnd (contents files path) (ReadsFrom place n out)

-- the file at a path, absent or not, was cut at a place and filled with zeros up to it
abbrev pub Begins : Option Files → Option Files → List ℕ → ℕ → Type 0
Begins old new path start = IfSome old (λ files. new ≡ Some (with_file files path (cut (old_bytes files path) start)))

-- the file at a path grew by bytes at its end
abbrev pub Grows : Option Files → Option Files → List ℕ → List ℕ → Type 0
Grows old new path bytes =
    IfSome old (λ files. IsSomeAnd (contents files path) (λ had. new ≡ Some (with_file files path (had ++ bytes))))
