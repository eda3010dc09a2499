-- What the calls of a storage over homes tell, by the state that they are asked of.
use Rattle.std.proofs.Common.{◌≡◌, ℕ, List, Some, IfOk, OnOk, Result, Ok, Err, false, subst}
use Rattle.ftp_base.specs.declared.storage.Meta.{Meta}
use Rattle.ftp_base.specs.declared.storage.FileInfo.{FileInfo}
use Rattle.ftp_places.specs.Place.{Location}
use Rattle.ftp_disk.specs.declared.standing.Standing.{Standing}
use Rattle.ftp_disk.specs.FileSystem.{Told, IsUnlinked}
use Rattle.ftp_disk.specs.Standing.{Stood}
use Rattle.ftp_disk.specs.Listing.{IsListingOf, shown_meta}
use Rattle.ftp_disk.specs.Disk.{DiskState, place_in_home, IsReached, WasFound, WasListed}

-- a place is reached in the state that is the same
pub IsReached-same :
    {S : Type 0} (told : S → Told) (s t : DiskState S) (user path : List ℕ) (place : Location) → s ≡ t →
    place_in_home s.homes user path ≡ Some place → IsUnlinked (told s.system) place → IsReached (told t.system) t.homes user path
IsReached-same {S} told s t user path place e leads unlinked =
    subst (λ (x : DiskState S). IsReached (told x.system) x.homes user path) e (record { place = place; leads = leads; unlinked = unlinked })

-- a place is reached in the state that is the same, where a call went well
pub IsReached-ok :
    {S V E : Type 0} (told : S → Told) (s t : DiskState S) (user path : List ℕ) (place : Location) (r : Result V E) → s ≡ t →
    place_in_home s.homes user path ≡ Some place → OnOk r (IsUnlinked (told s.system) place) → OnOk r (IsReached (told t.system) t.homes user path)
IsReached-ok told s t user path place (Ok v) e leads unlinked = IsReached-same told s t user path place e leads unlinked
IsReached-ok told s t user path place (Err x) e leads unlinked = tt

-- a place is reached, also once the file that was open is closed
pub IsReached-closed :
    {S : Type 0} (told : S → Told) (s t : DiskState S) (user path : List ℕ) → s ≡ record t { is_apart = false } →
    IsReached (told s.system) s.homes user path → IsReached (told t.system) t.homes user path
IsReached-closed {S} told s t user path e h = subst (λ (x : DiskState S). IsReached (told x.system) x.homes user path) e h

-- what was found is told by the state that is the same
pub WasFound-same :
    {S : Type 0} (told : S → Told) (s t : DiskState S) (user path : List ℕ) (place : Location) (standing : Standing) (meta : Meta) → s ≡ t →
    place_in_home t.homes user path ≡ Some place → IsUnlinked (told s.system) place → Stood (told s.system) place standing → shown_meta standing ≡ Some meta →
    WasFound (told t.system) t.homes user path meta
WasFound-same {S} told s t user path place standing meta e leads unlinked stood shown =
    subst (λ (x : DiskState S). WasFound (told x.system) t.homes user path meta) e
    (record { place = place; leads = leads; unlinked = unlinked; standing = standing; stood = stood; shown = shown })

-- what was listed is told by the state that is the same
pub WasListed-same :
    {S V E : Type 0} (items : V → List FileInfo) (told : S → Told) (s t : DiskState S) (user path : List ℕ) (place : Location) (r : Result V E) → s ≡ t →
    place_in_home t.homes user path ≡ Some place → IfOk r (λ v. IsListingOf (told s.system) place (items v)) →
    IfOk r (λ v. WasListed (told t.system) t.homes user path (items v))
WasListed-same {S} items told s t user path place (Ok v) e leads listing =
    subst (λ (x : DiskState S). WasListed (told x.system) t.homes user path (items v)) e (record { place = place; leads = leads; listing = listing })
WasListed-same items told s t user path place (Err x) e leads listing = tt
