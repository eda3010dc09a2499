-- Storages over homes: what callers see of one, and what its calls tell.
use Rattle.std.specs.Prelude.{◌≡◌, ℕ, List, Option, Some, string_bytes, Bool, false, is_some}
use Rattle.std.specs.Option.{option_map, option_map_or}
use Rattle.ftp_base.specs.declared.storage.Meta.{Meta}
use Rattle.ftp_base.specs.declared.storage.FileInfo.{FileInfo}
use Rattle.ftp_places.specs.Names.{names_of}
use Rattle.ftp_places.specs.Place.{Location, below_by}
use Rattle.ftp_disk.specs.declared.home.Home.{Home}
use Rattle.ftp_disk.specs.declared.opened.Opened.{Opened}
use Rattle.ftp_disk.specs.declared.standing.Standing.{Standing}
use Rattle.ftp_disk.specs.FileSystem.{Told, IsUnlinked}
use Rattle.ftp_disk.specs.Home.{home_of}
use Rattle.ftp_disk.specs.Listing.{IsListingOf, shown_meta}
use Rattle.ftp_disk.specs.Standing.{Stood}

-- an upload stands beside its path
abbrev pub is_apart : {F : Type 0} → Option (Opened F) → Bool
is_apart opened = option_map_or (λ o. is_some o.apart) opened false

-- the system that is asked, the homes of users, whether uploads from the front stand beside their path until they came whole, whether
-- one does, and how many calls failed
pub record DiskState (S : Type 0) : Type 0 where
  pub system : S
  pub homes : List (List ℕ × Home)
  pub is_whole : Bool
  pub is_apart : Bool
  pub faults : ℕ

-- where a user's path leads: below the user's home
abbrev pub place_in_home : List (List ℕ × Home) → List ℕ → List ℕ → Option Location
place_in_home homes user path = option_map (λ home. below_by (string_bytes home.root) (names_of path)) (home_of homes user)

-- a user's path leads over no link
pub record IsReached (told : Told) (homes : List (List ℕ × Home)) (user path : List ℕ) : Type 0 where
  pub place : Location
  pub leads : place_in_home homes user path ≡ Some place
  pub unlinked : IsUnlinked told place

-- what stands where a user's path leads, over no link, was looked at, and this is told of it
pub record WasFound (told : Told) (homes : List (List ℕ × Home)) (user path : List ℕ) (meta : Meta) : Type 0 where
  pub place : Location
  pub leads : place_in_home homes user path ≡ Some place
  pub unlinked : IsUnlinked told place
  pub standing : Standing
  pub stood : Stood told place standing
  pub shown : shown_meta standing ≡ Some meta

-- what a listing of a user's path tells: the children of a directory, a file alone, or what matches a pattern
pub record WasListed (told : Told) (homes : List (List ℕ × Home)) (user path : List ℕ) (infos : List FileInfo) : Type 0 where
  pub place : Location
  pub leads : place_in_home homes user path ≡ Some place
  pub listing : IsListingOf told place infos
