-- The records in blocks, and where a key stands among them, or would stand.
use Rattle.std.specs.Prelude.{◌≡◌, ℕ, ◌+◌, ◌<◌, ◌≤◌, List, length, take, slice_get, Some}
use Rattle.std.specs.List.{flat_map}
use Rattle.std.specs.Map.{keys_of}
use Rattle.std.specs.List.Sorted.{IsStrictlySortedBy}
use Rattle.std.specs.declared.vec.Vec.{Vec}
use Rattle.std.specs.declared.cmp.Ordering.TheVariants.{Less, Equal}
use Rattle.ftp_lockout.specs.declared.places.Place.{Place}
use Rattle.ftp_lockout.specs.declared.cache.Failures.{Failures}
use Rattle.ftp_lockout.specs.declared.key.LoginKey.{LoginKey}
use Rattle.ftp_lockout.specs.Keys.{key_cmp}

-- the keys of the records rise
abbrev pub AreInKeyOrder : List (LoginKey × Failures) → Type 0
AreInKeyOrder records = IsStrictlySortedBy key_cmp (keys_of records)

-- the records of all blocks, one block after the other
abbrev pub records_in : {Z : Type 0} → List (Vec (LoginKey × Failures) Z) → List (LoginKey × Failures)
records_in blocks = flat_map (λ v. v.items) blocks

-- a block has 1 to 128 records, and memory for 128
pub record IsBlock {Z : Type 0} (block : Vec (LoginKey × Failures) Z) : Type 0 where
  pub filled : 0 < length block.items
  pub few : length block.items ≤ 128
  pub roomy : 128 ≤ block.cap

-- each of them is a block
abbrev pub AreBlocks : {Z : Type 0} → List (Vec (LoginKey × Failures) Z) → Type 0
AreBlocks {Z} blocks = (i : ℕ) (v : Vec (LoginKey × Failures) Z) → slice_get blocks i ≡ Some v → IsBlock v

-- each of them has at most 128 records, and memory for 128
abbrev pub AreRoomy : {Z : Type 0} → List (Vec (LoginKey × Failures) Z) → Type 0
AreRoomy {Z} blocks = (i : ℕ) (v : Vec (LoginKey × Failures) Z) → slice_get blocks i ≡ Some v → (length v.items ≤ 128) × (128 ≤ v.cap)

-- how many records stand before a place
abbrev pub place_in : {Z : Type 0} → List (Vec (LoginKey × Failures) Z) → Place → ℕ
place_in blocks place = length (records_in (take place.block blocks)) + place.index

-- a record stands at the place
pub record HasPlace {Z : Type 0} (blocks : List (Vec (LoginKey × Failures) Z)) (place : Place) : Type 0 where
  pub block : place.block < length blocks
  pub index : (v : Vec (LoginKey × Failures) Z) → slice_get blocks place.block ≡ Some v → place.index < length v.items

-- a record can go before the place, or to the end of its block
pub record HasGap {Z : Type 0} (blocks : List (Vec (LoginKey × Failures) Z)) (place : Place) : Type 0 where
  pub block : place.block < length blocks
  pub index : (v : Vec (LoginKey × Failures) Z) → slice_get blocks place.block ≡ Some v → place.index ≤ length v.items

-- the block of the place is not full
abbrev pub IsOpen : {Z : Type 0} → List (Vec (LoginKey × Failures) Z) → Place → Type 0
IsOpen {Z} blocks place = (v : Vec (LoginKey × Failures) Z) → slice_get blocks place.block ≡ Some v → length v.items < 128

-- the key stands at the place
pub record IsAt (records : List (LoginKey × Failures)) (key : LoginKey) (place : ℕ) : Type 0 where
  pub within : place < length records
  pub here : (r : LoginKey × Failures) → slice_get records place ≡ Some r → key_cmp r.0 key ≡ Equal

-- the key would go before the place: lower keys before it, and higher keys from it on
pub record IsGapFor (records : List (LoginKey × Failures)) (key : LoginKey) (place : ℕ) : Type 0 where
  pub within : place ≤ length records
  pub lower : (i : ℕ) (r : LoginKey × Failures) → i < place → slice_get records i ≡ Some r → key_cmp r.0 key ≡ Less
  pub higher : (i : ℕ) (r : LoginKey × Failures) → place ≤ i → slice_get records i ≡ Some r → key_cmp key r.0 ≡ Less
