-- What a system tells of places before it is asked to open one.
use Rattle.std.specs.Prelude.{◌+◌, ◌<◌, ℕ, length, take, Result, Ok, Err}
use Rattle.std.specs.Fs.{file_type, IsFile, IsSymlink}
use Rattle.std.specs.IoError.{error_kind}
use Rattle.std.specs.declared.fs.attrs.Metadata.{Metadata}
use Rattle.std.specs.declared.io.Error.{Error}
use Rattle.std.specs.declared.io.ErrorKind.{ErrorKind}
use Rattle.std.specs.declared.io.ErrorKind.TheVariants.{NotFound, NotADirectory}
use Rattle.ftp_places.specs.Place.{Location, below_by}

-- what a system answers where it is asked what stands at a place
abbrev pub Answer : Type 0
Answer = Result Metadata Error

-- what was told of places
abbrev pub Told : Type 1
Told = Location → Answer → Type 0

-- where the first names of a place lead
abbrev pub front_of : Location → ℕ → Location
front_of place n = below_by place.root (take n place.names)

-- no link is told of
abbrev pub IsNoLink : Answer → Type 0
IsNoLink (Ok found) = ¬ IsSymlink (file_type found)
IsNoLink (Err error) = Unit {0}

-- a place was looked at, and what was told of it is no link
abbrev pub WasNoLink : Told → Location → Type 0
WasNoLink told place = (answer : Answer) × told place answer × IsNoLink answer

-- each directory on the way to a place, and the place, was looked at, and none was a link; the root may be one
abbrev pub IsUnlinked : Told → Location → Type 0
IsUnlinked told place = (n : ℕ) → n < length place.names → WasNoLink told (front_of place (n + 1))

-- a place was looked at, and a file stood there
abbrev pub WasFile : Told → Location → Type 0
WasFile told place = (found : Metadata) × told place (Ok found) × IsFile (file_type found)

-- nothing stands where the system answers with an error of this kind
abbrev pub IsAbsence : ErrorKind → Type 0
IsAbsence NotFound = Unit {0}
IsAbsence NotADirectory = Unit {0}
IsAbsence _ = ⊥

-- a file is told of, or that there is nothing
abbrev pub IsFileOrNothing : Answer → Type 0
IsFileOrNothing (Ok found) = IsFile (file_type found)
IsFileOrNothing (Err error) = IsAbsence (error_kind error)

-- a place was looked at, and a file stood there, or nothing
abbrev pub WasFileOrNothing : Told → Location → Type 0
WasFileOrNothing told place = (answer : Answer) × told place answer × IsFileOrNothing answer
