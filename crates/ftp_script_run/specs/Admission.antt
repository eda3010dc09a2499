-- What is kept of the lines of a script, to say which lines may follow.
use Rattle.std.specs.Prelude.{◌≡◌, ℕ, true, false, List, [], ◌∷◌, ◌++◌, Result, Ok, Err}
use Rattle.std.specs.List.{list_any}
use Rattle.std.specs.Ordering.{nat_cmp}
use Rattle.std.specs.BTreeSet.{contains}
use Rattle.ftp_text.specs.declared.fault.LineFault.{LineFault}
use Rattle.ftp_text.specs.declared.fault.LineFault.TheVariants as fault
use Rattle.ftp_text.specs.declared.setup.Item.{Item}
use Rattle.ftp_script_run.specs.declared.admission.Admission.{Admission}
use Rattle.ftp_script_run.specs.Script.{says, has_stored, has_link, may_stand, ComesNext}
use Rattle.ftp_script_run.specs.SetUp.{storage_in, has_event}

-- what is kept of these items: whether one says something, is an event, or sets up a part of the storage, how
-- long a file may be, and which links there are
pub record Remembers (a : Admission) (before : List Item) : Type 0 where
  pub begun : a.begun ≡ list_any says before
  pub event : a.has_event ≡ has_event before
  pub stored : a.has_stored ≡ has_stored before
  pub longest : a.max_file ≡ (storage_in before).inner.max_file
  pub links : (n : ℕ) → contains nat_cmp a.links n ≡ has_link n before

-- an item was let in behind these items where it may stand there, and is then among them
abbrev pub LetsIn : {T : Type 0} → List Item → Item → Result T LineFault → Admission → Type 0
LetsIn before i (Ok x) later = (may_stand before i ≡ true) × Remembers later (before ++ i ∷ [])
LetsIn before i (Err fault.Bad) later = (may_stand before i ≡ false) × Remembers later before
LetsIn before i (Err fault.Memory) later = Remembers later before

-- a line gave its item behind these items, which is then among them, or it is no item's there
abbrev pub GivesItem : List Item → ℕ → List ℕ → Result Item LineFault → Admission → Type 0
GivesItem before taken line (Ok i) later = ComesNext before taken line i × Remembers later (before ++ i ∷ [])
GivesItem before taken line (Err fault.Bad) later = ((i : Item) → ComesNext before taken line i → ⊥) × Remembers later before
GivesItem before taken line (Err fault.Memory) later = Remembers later before
