-- What a listing shows.
use Rattle.std.specs.Prelude.{◌≡◌, ℕ, true, false, List, [], ◌∷◌, ◌++◌, Option, Some, None, Ok, Err, All, IsSortedByKey}
use Rattle.std.specs.Cmp.Lexicographic.{slice_cmp}
use Rattle.std.specs.Fs.{file_type, IsFile, IsDir}
use Rattle.std.specs.List.{list_any}
use Rattle.std.specs.Ordering.{nat_cmp}
use Rattle.ftp_base.specs.declared.storage.Meta.{Meta}
use Rattle.ftp_base.specs.declared.storage.FileInfo.{FileInfo}
use Rattle.ftp_places.specs.Names.{is_file_name}
use Rattle.ftp_places.specs.Place.{Location, below_by}
use Rattle.ftp_disk.specs.declared.standing.Standing.{Standing}
use Rattle.ftp_disk.specs.declared.standing.Standing.TheVariants.{Nothing, Directory, File}
use Rattle.ftp_disk.specs.FileSystem.{Answer, Told, IsUnlinked}
use Rattle.ftp_disk.specs.Looks.{ShowsLooks}
use Rattle.ftp_disk.specs.Patterns.{is_wild, matches, pattern_in}
use Rattle.ftp_disk.specs.Standing.{ShowsStanding, Stood}
use Rattle.ftp_disk.specs.Visible.{is_visible_name}

-- the place of a name in a directory
abbrev pub child : Location → List ℕ → Location
child place name = below_by place.root (place.names ++ name ∷ [])

-- what is shown of what stands at a place
abbrev pub shown_meta : Standing → Option Meta
shown_meta Nothing = None
shown_meta Directory = Some (record { is_dir = true; len = 0 })
shown_meta (File len) = Some (record { is_dir = false; len = len })

-- a child of a directory, whose name clients may use, was looked at, and what is shown is what was told of it: a directory, or
-- a file with its length, and its looks
pub record WasShown (told : Told) (place : Location) (info : FileInfo) : Type 0 where
  pub visible : is_visible_name info.name ≡ true
  pub answer : Answer
  pub standing : Standing
  pub asked : told (child place info.name) answer
  pub tells : ShowsStanding answer standing
  pub meta : shown_meta standing ≡ Some info.meta
  pub looks : ShowsLooks answer info.looks

-- neither a directory nor a file is told of
abbrev pub IsNeither : Answer → Type 0
IsNeither (Ok found) = (¬ IsDir (file_type found)) × (¬ IsFile (file_type found))
IsNeither (Err error) = Unit {0}

-- a name in a directory is shown exactly if a file may have it, clients may use it, and a directory or a file is told of there
abbrev pub IsShownBy : Told → Location → List ℕ → Option FileInfo → Type 0
IsShownBy told place name (Some info) = (info.name ≡ name) × (is_file_name name ≡ true) × WasShown told place info
IsShownBy told place name None =
    is_file_name name ≡ true → is_visible_name name ≡ true → (answer : Answer) × told (child place name) answer × IsNeither answer

-- a child of a directory, whose name matches a pattern, was looked at, and this is shown of it
abbrev pub IsShownOf : Told → Location → List ℕ → FileInfo → Type 0
IsShownOf told place pattern info = (matches pattern info.name ≡ true) × WasShown told place info

-- a file is listed alone, under its name
pub record ListsFile (told : Told) (place : Location) (infos : List FileInfo) : Type 0 where
  pub dir : Location
  pub info : FileInfo
  pub leads : place ≡ child dir info.name
  pub alone : infos ≡ info ∷ []
  pub shown : WasShown told dir info

-- of the directory before a place the children are listed that match the pattern in its last name; no name before that has a wildcard
pub record ListsMatches (told : Told) (place : Location) (infos : List FileInfo) : Type 0 where
  pub dir : Location
  pub name : List ℕ
  pub leads : place ≡ child dir name
  pub wild : is_wild (pattern_in name) ≡ true
  pub plain : list_any is_wild dir.names ≡ false
  pub unlinked : IsUnlinked told dir
  pub shown : All (IsShownOf told dir (pattern_in name)) infos

-- what is listed where this stands
abbrev pub Lists : Told → Location → Standing → List FileInfo → Type 0
Lists told place Nothing infos = ListsMatches told place infos
Lists told place Directory infos = All (WasShown told place) infos
Lists told place (File len) infos = ListsFile told place infos

-- what stands at a place, over no link, was looked at, and this is listed of it, in byte order of names
pub record IsListingOf (told : Told) (place : Location) (infos : List FileInfo) : Type 0 where
  pub unlinked : IsUnlinked told place
  pub standing : Standing
  pub stood : Stood told place standing
  pub listed : Lists told place standing infos
  pub in_order : IsSortedByKey (λ info. info.name) (slice_cmp nat_cmp) infos
