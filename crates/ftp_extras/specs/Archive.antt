-- What is asked of an archive, and what it does to the files.
use Rattle.std.specs.Prelude.{◌≡◌, ◌≤◌, ℕ, Bool, true, List, Option, Some, None, IfSome}
use Rattle.std.specs.FinMap as map
use Rattle.ftp_base.specs.declared.error_kind.ErrorKind.{ErrorKind}
use Rattle.ftp_base.specs.Storage.{Directory, Files}
use Rattle.ftp_base.specs.Moved.{moved}
use Rattle.ftp_extras.specs.declared.archive.Found.{Found}
use Rattle.ftp_extras.specs.declared.archive.Request.{Request}
use Rattle.ftp_extras.specs.declared.archive.Request.TheVariants as request
use Rattle.ftp_extras.specs.Moment.{is_moment}

-- the files once a request is done; of dates the map does not tell
abbrev pub changed_files : Request → Files → Files
changed_files (request.Look path) files = files
changed_files (request.Remove path) files = map.remove files path
changed_files (request.MakeDirectory path) files = map.insert files path Directory
changed_files (request.RemoveDirectory path) files = map.remove files path
changed_files (request.Rename from to) files = moved files from to
changed_files (request.SetModified path at) files = files

-- where the files are told, they are changed as a request asks for; where they are not told, nor are they afterwards
abbrev pub Changes : Request → Option Files → Option Files → Type 0
Changes r None new = new ≡ None
Changes r (Some files) new = new ≡ Some (changed_files r files)

-- a request names a moment where it gives a date
abbrev pub is_sound : Request → Bool
is_sound (request.SetModified path at) = is_moment at
is_sound _ = true

-- how a user's request is refused, where the files are told
abbrev pub told_refusal : (Files → List ℕ → Request → Option ErrorKind) → Option Files → List ℕ → Request → Option ErrorKind
told_refusal refusals None user r = None
told_refusal refusals (Some files) user r = refusals files user r

-- a date that was found is a moment
abbrev pub IsDated : Found → Type 0
IsDated found = IfSome found.modified (λ at. is_moment at ≡ true)

-- the requests are refused by the same rule, and no fault is forgotten
pub record ArchiveKept {S : Type 0} (refusals : S → Files → List ℕ → Request → Option ErrorKind) (faults : S → ℕ) (old new : S) : Type 0 where
  pub same_refusals : refusals new ≡ refusals old
  pub count : faults old ≤ faults new
