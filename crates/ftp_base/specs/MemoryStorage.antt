-- What a storage in memory keeps and refuses.
use Rattle.std.specs.Prelude.{◌≡◌, ℕ, ◌+◌, false, List, [], ◌++◌, map as map_list, length, Vec, Option, Some, None, Result, IsErrOf, IsTrue, ◌↔◌, nat_lt, if◌then◌else◌, refl}
use Rattle.std.specs.Coded.{Coded, code_by, coded×, coded_ℕ, coded_list, coded_option}
use Rattle.std.specs.Global.{Global}
use Rattle.std.specs.Cmp.Lexicographic.{slice_cmp}
use Rattle.std.specs.FinMap as map
use Rattle.std.specs.List.{filter_map}
use Rattle.std.specs.Ordering.{nat_cmp}
use Rattle.std.specs.Str.{bytes_eq}
use Rattle.std.specs.declared.cmp.Ordering.TheVariants.{Less}
use Rattle.ftp_base.specs.declared.error_kind.ErrorKind.{ErrorKind}
use Rattle.ftp_base.specs.declared.error_kind.ErrorKind.TheVariants as kind
use Rattle.ftp_base.specs.declared.memory_storage.Node.{Node}
use Rattle.ftp_base.specs.declared.storage.Meta.{Meta}
use Rattle.ftp_base.specs.declared.storage.StoreError.{StoreError}
use Rattle.ftp_base.specs.declared.storage.StoreError.TheVariants.{Failed}
use Rattle.ftp_base.specs.declared.memory_storage.Standing.{Standing}
use Rattle.ftp_base.specs.declared.memory_storage.Standing.TheVariants as standing
use Rattle.ftp_base.specs.Calls.{Calls, calls_code, after_call, after_fault}
use Rattle.ftp_base.specs.Memory.{faults_of, fails_next, fault_limit}
use Rattle.ftp_base.specs.Storage.{Item, Directory, File, Files, Call, Metadata, Listing, ReadAt, Begin, Append, Rule, item, bytes_of, contents, parent, root, is_child, file_at}

-- the files, how many bytes each may have, and the calls so far
pub record MemoryState : Type 0 where
  pub files : Files
  pub max_file : ℕ
  pub calls : Calls ℕ

-- an item is stored as the bytes of a file, if it is one
abbrev pub item_from : Option (List ℕ) → Item
item_from None = Directory
item_from (Some bytes) = File bytes

pub item_from-bytes_of : (i : Item) → item_from (bytes_of i) ≡ i
item_from-bytes_of Directory = refl
item_from-bytes_of (File bytes) = refl

abbrev pub item_code : Coded Item
item_code = code_by (Option (List ℕ)) (coded_option (coded_list coded_ℕ)) bytes_of item_from item_from-bytes_of

-- a state is stored as its parts
abbrev pub state_code : Coded MemoryState
state_code =
    code_by (Files × (ℕ × Calls ℕ)) (coded× (map.code (coded_list coded_ℕ) item_code) (coded× coded_ℕ (calls_code coded_ℕ)))
    (λ s. (s.files, (s.max_file, s.calls))) (λ p. record { files = p.0; max_file = p.1.0; calls = p.1.1 }) (λ _. refl)

-- what a node is
abbrev pub item_of : Node → Item
item_of node = if node.is_dir then Directory else File node.bytes

-- the items of nodes under their paths
abbrev pub items : List (Vec ℕ Global × Node) → List (List ℕ × Item)
items nodes = map_list (λ e. (e.0.items, item_of e.1)) nodes

-- the files of nodes under their paths
abbrev pub files_of : List (Vec ℕ Global × Node) → Files
files_of nodes = map.from_entries (items nodes)

-- the files among nodes, under their paths
abbrev pub files_among : List (Vec ℕ Global × Node) → List (List ℕ × List ℕ)
files_among nodes = filter_map file_at (items nodes)

-- what is told of children under their names and paths
abbrev pub placed : List ((Vec ℕ Global × Vec ℕ Global) × Meta) → List ((List ℕ × List ℕ) × Meta)
placed places = map_list (λ e. ((e.0.0.items, e.0.1.items), e.1)) places

-- what each path in a directory begins with; in the root they begin in more ways than one
abbrev pub front : List ℕ → List ℕ
front dir = if bytes_eq dir root then [] else dir ++ root

-- no path between these two lies in the directory
abbrev pub NoneBetween : List ℕ → List ℕ → List ℕ → Type 0
NoneBetween dir from to =
    (path : List ℕ) → slice_cmp nat_cmp from path ≡ Less → slice_cmp nat_cmp path to ≡ Less → is_child dir path ≡ false

-- where there is none
abbrev pub unless_there : {A : Type 0} → Option A → ErrorKind → Option ErrorKind
unless_there None k = Some k
unless_there (Some x) k = None

-- a directory can be begun as no file
abbrev pub if_file : Option Item → Option ErrorKind → Option ErrorKind
if_file (Some Directory) refusal = Some kind.FileNameNotAllowedError
if_file (Some (File bytes)) refusal = refusal
if_file None refusal = refusal

-- under a directory
abbrev pub if_directory : Option Item → ErrorKind → Option ErrorKind → Option ErrorKind
if_directory (Some Directory) k refusal = refusal
if_directory (Some (File bytes)) k refusal = Some k
if_directory None k refusal = Some k

-- so many bytes would be too many
abbrev pub if_within : ℕ → ℕ → Option ErrorKind
if_within len max_file = if nat_lt max_file len then Some kind.ExceededStorageAllocationError else None

-- how a file is refused that would have so many bytes: for its parent, for a directory at its path, for its size
abbrev pub file_refusal : Files → ℕ → List ℕ → ℕ → Option ErrorKind
file_refusal files max_file path len =
    if_directory (item files (parent path)) kind.PermanentDirectoryNotAvailable (if_file (item files path) (if_within len max_file))

-- a path is new
abbrev pub if_new : Option Item → Option ErrorKind
if_new None = None
if_new (Some i) = Some kind.FileNameNotAllowedError

-- how a directory is refused: for its parent, for what is at its path
abbrev pub directory_refusal : Files → List ℕ → Option ErrorKind
directory_refusal files path = if_directory (item files (parent path)) kind.PermanentDirectoryNotAvailable (if_new (item files path))

-- how bytes are refused that would be put at the end of a file: for want of the file, for the size
abbrev pub append_refusal : Option (List ℕ) → ℕ → ℕ → Option ErrorKind
append_refusal None max_file len = Some kind.PermanentFileNotAvailable
append_refusal (Some had) max_file len = if_within (length had + len) max_file

-- which calls are refused, and how
abbrev pub memory_meaning : Files → ℕ → Call → Option ErrorKind
memory_meaning files max_file (Metadata user path) = unless_there (item files path) kind.PermanentFileNotAvailable
memory_meaning files max_file (Listing user path) = if_directory (item files path) kind.PermanentDirectoryNotAvailable None
memory_meaning files max_file (ReadAt user path place) = unless_there (contents files path) kind.PermanentFileNotAvailable
memory_meaning files max_file (Begin user path start) = file_refusal files max_file path start
memory_meaning files max_file (Append user path bytes) = append_refusal (contents files path) max_file (length bytes)

-- the same by what stands at each path, whoever began a file, where a file may have so many bytes
abbrev pub memory_rule : ℕ → Rule
memory_rule max_file begun files = memory_meaning files max_file

-- which calls a storage in memory refuses
abbrev pub storage_rule : MemoryState → Rule
storage_rule s = memory_rule s.max_file

-- how many faults a storage in memory counted
abbrev pub storage_faults : MemoryState → ℕ
storage_faults s = faults_of s.calls

-- how many faults a storage in memory can count in all
abbrev pub storage_limit : MemoryState → ℕ
storage_limit s = fault_limit s.calls

-- what was found at a path
abbrev pub standing_item : Standing → Item
standing_item standing.Directory = Directory
standing_item (standing.File bytes) = File bytes.now

-- the state after a call that went well
abbrev pub counted : MemoryState → MemoryState
counted s = record s { calls = after_call s.calls }

-- the state after a call that failed
abbrev pub failed : MemoryState → MemoryState
failed s = record s { calls = after_fault s.calls }

-- exactly the listed calls fail, each call is counted, and how many bytes a file may have stays
pub record Counts {A : Type 0} (old new : MemoryState) (result : Result A StoreError) : Type 0 where
  pub fails : IsErrOf result Failed ↔ IsTrue (fails_next old.calls)
  pub fault_counted : IsErrOf result Failed → new ≡ failed old
  pub counted : (IsErrOf result Failed → ⊥) → new.calls ≡ after_call old.calls
  pub max_file : new.max_file ≡ old.max_file
