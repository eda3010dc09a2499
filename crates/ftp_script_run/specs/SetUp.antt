-- The storage that the lines of a script set up, with its budgets.
use Rattle.std.specs.Prelude.{◌≡◌, ℕ, Bool, true, false, List, [], fold, Some, None}
use Rattle.std.specs.List.{list_any}
use Rattle.std.specs.FinMap as map
use Rattle.ftp_base.specs.Storage.{Directory, with_file}
use Rattle.ftp_base.specs.MemoryStorage.{MemoryState}
use Rattle.ftp_audit.specs.Book.{new_book}
use Rattle.ftp_audit.specs.Quota.{QuotaState, with_budget}
use Rattle.ftp_text.specs.declared.setup.Item.{Item}
use Rattle.ftp_text.specs.declared.setup.Item.TheVariants as item

-- an empty storage on which no call was made
abbrev pub new_storage : ℕ → List ℕ → MemoryState
new_storage max fails = record { files = map.empty; max_file = max; calls = record { made = 0; faults = 0; failing = fails } }

-- a storage in memory, with the budgets around it
abbrev pub StorageState : Type 0
StorageState = QuotaState MemoryState

-- a storage without budgets
abbrev pub unlimited : MemoryState → StorageState
unlimited storage = record { inner = storage; accounts = None }

-- the storage with what an item sets up
abbrev pub set_up : StorageState → Item → StorageState
set_up storage (item.Storage max fails) = record storage { inner = new_storage max fails }
set_up storage (item.Dir path) = record storage { inner = record storage.inner { files = map.insert storage.inner.files path Directory } }
set_up storage (item.File bytes path) = record storage { inner = record storage.inner { files = with_file storage.inner.files path bytes } }
set_up storage (item.Quota default) = record storage { accounts = Some (new_book default) }
set_up storage (item.Budget bytes user) = record storage { accounts = with_budget storage.accounts user bytes }
set_up storage _ = storage

-- the storage that items set up; without lines on them, no call fails, files have at most 16,777,216 bytes, and there are no
-- budgets
abbrev pub storage_in : List Item → StorageState
storage_in items = fold set_up (unlimited (new_storage 16777216 [])) items

-- whether the item is an event
abbrev pub is_event : Item → Bool
is_event (item.Event e) = true
is_event _ = false

-- whether an event is among these items
abbrev pub has_event : List Item → Bool
has_event items = list_any is_event items

-- until an event comes, the storage is the one that these items set up
abbrev pub IsSetUp : StorageState → List Item → Type 0
IsSetUp storage items = has_event items ≡ false → storage ≡ storage_in items
