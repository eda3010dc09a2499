-- What a storage in memory refuses beside transfers.
use Rattle.std.specs.Prelude.{ℕ, Bool, true, false, List, Option, Some, None, if◌then◌else◌}
use Rattle.std.specs.Option.{option_map}
use Rattle.std.specs.Str.{bytes_eq}
use Rattle.ftp_base.specs.declared.error_kind.ErrorKind.{ErrorKind}
use Rattle.ftp_base.specs.declared.error_kind.ErrorKind.TheVariants as kind
use Rattle.ftp_base.specs.MemoryStorage.{directory_refusal}
use Rattle.ftp_base.specs.Moved.{is_below, has_children}
use Rattle.ftp_base.specs.Storage.{Files, root, item, meta_of, parent}
use Rattle.ftp_extras.specs.declared.archive.Request.{Request}
use Rattle.ftp_extras.specs.declared.archive.Request.TheVariants as request

-- whether a directory stands at a path, where anything does
abbrev pub kind_at : Files → List ℕ → Option Bool
kind_at files path = option_map (λ meta. meta.is_dir) (option_map meta_of (item files path))

-- a look is refused where nothing is
abbrev pub look_refusal : Option Bool → Option ErrorKind
look_refusal None = Some kind.PermanentFileNotAvailable
look_refusal (Some is_dir) = None

-- only a file is removed as one
abbrev pub remove_refusal : Option Bool → Option ErrorKind
remove_refusal (Some false) = None
remove_refusal _ = Some kind.PermanentFileNotAvailable

-- only an empty directory is removed as one, and never the root
abbrev pub emptied_refusal : Option Bool → Bool → Bool → Option ErrorKind
emptied_refusal (Some true) is_root has =
    if is_root then Some kind.PermissionDenied else (if has then Some kind.PermanentDirectoryNotEmpty else None)
emptied_refusal _ is_root has = Some kind.PermanentDirectoryNotAvailable

-- a path is taken that is free, and not below what takes it; a file also takes the place of a file
abbrev pub target_refusal : Bool → Option Bool → Bool → Option ErrorKind
target_refusal is_dir None below = if below then Some kind.FileNameNotAllowedError else None
target_refusal false (Some false) below = None
target_refusal _ (Some target) below = Some kind.FileNameNotAllowedError

-- a path is taken under a directory
abbrev pub place_refusal : Option Bool → Option ErrorKind → Option ErrorKind
place_refusal (Some true) refusal = refusal
place_refusal _ refusal = Some kind.PermanentDirectoryNotAvailable

-- what stands at a path is moved, unless it is the root
abbrev pub moving_refusal : Files → List ℕ → List ℕ → Option Bool → Option ErrorKind
moving_refusal files from to None = Some kind.PermanentFileNotAvailable
moving_refusal files from to (Some is_dir) =
    if bytes_eq from root then Some kind.PermissionDenied else
    place_refusal (kind_at files (parent to)) (target_refusal is_dir (kind_at files to) (is_below from to))

-- how a rename is refused: for what is moved, for the directory that it goes to, for the path that it takes
abbrev pub rename_refusal : Files → List ℕ → List ℕ → Option ErrorKind
rename_refusal files from to = moving_refusal files from to (kind_at files from)

-- how each request is refused; dates are not kept
abbrev pub memory_refusal : Files → Request → Option ErrorKind
memory_refusal files (request.Look path) = look_refusal (kind_at files path)
memory_refusal files (request.Remove path) = remove_refusal (kind_at files path)
memory_refusal files (request.MakeDirectory path) = directory_refusal files path
memory_refusal files (request.RemoveDirectory path) = emptied_refusal (kind_at files path) (bytes_eq path root) (has_children files path)
memory_refusal files (request.Rename from to) = rename_refusal files from to
memory_refusal files (request.SetModified path at) = Some kind.CommandNotImplemented
