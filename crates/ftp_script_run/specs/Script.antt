-- A script, by the bytes of a whole source: the items whose lines these are, up to the first line that is none's there.
use Rattle.std.specs.Prelude.{◌≡◌, ℕ, ◌+◌, ◌-◌, ◌<◌, ◌≤◌, ◌==◌, ◌&&◌, not, nat_le, Bool, true, false, List, [], ◌∷◌, ◌++◌, length, Option, Some, None, is_some, is_none}
use Rattle.std.specs.List.{list_any}
use Rattle.ftp_base.specs.MemoryStorage.{directory_refusal}
use Rattle.ftp_events.specs.Covers.{is_covered}
use Rattle.ftp_control.specs.Lines.{first_line, behind_line}
use Rattle.ftp_audit.specs.Quota.{own_budget_of}
use Rattle.ftp_text.specs.declared.setup.Item.{Item}
use Rattle.ftp_text.specs.declared.setup.Item.TheVariants as item
use Rattle.ftp_text.specs.Setup.{IsItemOf}
use Rattle.ftp_script_run.specs.SetUp.{storage_in, has_event}

-- whether the item is the link of this number
abbrev pub is_link : ℕ → Item → Bool
is_link n (item.Link m chunk fails bytes) = n == m
is_link n _ = false

-- whether the item sets up a part of the storage
abbrev pub is_stored : Item → Bool
is_stored (item.Storage max fails) = true
is_stored (item.Dir path) = true
is_stored (item.File bytes path) = true
is_stored _ = false

-- whether the item says something: its line is not skipped
abbrev pub says : Item → Bool
says item.Skip = false
says _ = true

-- whether the link of this number is among these items
abbrev pub has_link : ℕ → List Item → Bool
has_link n items = list_any (is_link n) items

-- whether a part of the storage is set up by these items
abbrev pub has_stored : List Item → Bool
has_stored items = list_any is_stored items

-- whether the path is new, and its parent a directory, in the storage that these items set up
abbrev pub is_free : List Item → List ℕ → Bool
is_free before path = is_none (directory_refusal (storage_in before).inner.files path)

-- whether these items set up budgets
abbrev pub has_quota : List Item → Bool
has_quota before = is_some (storage_in before).accounts

-- whether these items set up no budget of the user's own
abbrev pub has_no_budget : List Item → List ℕ → Bool
has_no_budget before user = is_none (own_budget_of (storage_in before).accounts user)

-- whether the line of an item may stand behind the lines of these: the options are the first that says something, the
-- storage comes before any directory, file and event, directories and files have a free path and come before any event, a
-- file is no longer than the storage allows, budgets are set up once and before any event, a user's own behind that and once, a
-- link has a new number, and an event comes behind its link
abbrev pub may_stand : List Item → Item → Bool
may_stand before item.Skip = true
may_stand before (item.Options mode lo hi host active idle lockout restart) = not (list_any says before)
may_stand before (item.Storage max fails) = not (has_event before) && not (has_stored before)
may_stand before (item.Dir path) = not (has_event before) && is_free before path
may_stand before (item.File bytes path) =
    not (has_event before) && (is_free before path && nat_le (length bytes) (storage_in before).inner.max_file)
may_stand before (item.Quota default) = not (has_event before) && not (has_quota before)
may_stand before (item.Budget bytes user) = not (has_event before) && (has_quota before && has_no_budget before user)
may_stand before (item.Link n chunk fails bytes) = not (has_link n before)
may_stand before (item.Event e) = is_covered (λ n. has_link n before) e.kind

-- the line is that of the item and may stand behind the lines of these: it is no longer than any line, and up to its end the
-- source has given no more bytes than any script has
pub record ComesNext (before : List Item) (taken : ℕ) (line : List ℕ) (i : Item) : Type 0 where
  pub spelled : IsItemOf line i
  pub stands : may_stand before i ≡ true
  pub short : length line ≤ 65536
  pub small : taken ≤ 16777216

-- how many bytes the first line and its line feed are
abbrev pub line_size : List ℕ → ℕ
line_size bytes = length bytes - length (behind_line bytes)

-- behind the lines of some items, which are so many bytes, stand the lines of further items, up to the end, or up to a line
-- that is no item's there, with its number, counted from 1
abbrev pub Continues : List Item → ℕ → List ℕ → List Item → Option ℕ → Type 0
Continues before taken bytes [] None = bytes ≡ []
Continues before taken bytes [] (Some k) =
    (0 < length bytes) × ((i : Item) → ComesNext before (taken + line_size bytes) (first_line bytes) i → ⊥) × (k ≡ length before + 1)
Continues before taken bytes (i ∷ items) bad =
    (0 < length bytes) × ComesNext before (taken + line_size bytes) (first_line bytes) i
    × Continues (before ++ i ∷ []) (taken + line_size bytes) (behind_line bytes) items bad

-- the items are those of the lines of the bytes, skipped lines included, up to the first bad line, where there is one
pub record IsScriptOf (bytes : List ℕ) (items : List Item) (bad : Option ℕ) : Type 0 where
  pub lines : Continues [] 0 bytes items bad
