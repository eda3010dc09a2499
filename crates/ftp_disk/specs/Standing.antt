-- What stands at a place, as a system tells.
use Rattle.std.specs.Prelude.{◌≡◌, ℕ, ◌<◌, ◌≤◌, [], length, Ok, Err}
use Rattle.std.specs.Fs.{file_type, metadata_len, IsFile, IsDir}
use Rattle.std.specs.IoError.{error_kind}
use Rattle.ftp_base.specs.declared.error_kind.ErrorKind.TheVariants.{PermissionDenied}
use Rattle.ftp_base.specs.declared.storage.StoreError.{StoreError}
use Rattle.ftp_base.specs.declared.storage.StoreError.TheVariants.{Kind}
use Rattle.ftp_places.specs.Place.{Location}
use Rattle.ftp_disk.specs.declared.standing.Standing.{Standing}
use Rattle.ftp_disk.specs.declared.standing.Standing.TheVariants.{Nothing, Directory, File}
use Rattle.ftp_disk.specs.FileSystem.{Answer, Told, front_of, IsAbsence}
use Rattle.ftp_disk.specs.Refusal.{refusal_of}

-- the answer tells that this stands there
abbrev pub ShowsStanding : Answer → Standing → Type 0
ShowsStanding (Ok found) Nothing = ⊥
ShowsStanding (Ok found) Directory = IsDir (file_type found)
ShowsStanding (Ok found) (File len) = IsFile (file_type found) × (len ≡ metadata_len found)
ShowsStanding (Err error) Nothing = IsAbsence (error_kind error)
ShowsStanding (Err error) Directory = ⊥
ShowsStanding (Err error) (File len) = ⊥

-- the answer is why a call is refused: what stands there is neither a directory nor a file, or the system refuses
abbrev pub ShowsRefusal : Answer → StoreError → Type 0
ShowsRefusal (Ok found) error = (error ≡ Kind PermissionDenied) × (¬ IsDir (file_type found)) × (¬ IsFile (file_type found))
ShowsRefusal (Err answer) error = error ≡ refusal_of (error_kind answer)

-- this stood at a place when it was looked at; the root is a directory without a look
pub record Stood (told : Told) (place : Location) (standing : Standing) : Type 0 where
  pub root : place.names ≡ [] → standing ≡ Directory
  pub below : 0 < length place.names → (answer : Answer) × told place answer × ShowsStanding answer standing

-- a call is refused for what was told of the place or of a directory on the way
abbrev pub WasRefused : Told → Location → StoreError → Type 0
WasRefused told place error =
    (n : ℕ) × (n ≤ length place.names) × ((answer : Answer) × told (front_of place n) answer × ShowsRefusal answer error)
