-- What a run keeps while it goes on.
--
-- A script begins anew, or goes on from the state of a hub: then its log stands behind any log that may have come before, which is
-- one that has this state.
use Rattle.std.specs.Prelude.{◌≡◌, ℕ, ◌+◌, ◌⊎◌, true, false, List, [], ◌∷◌, ◌++◌, length, map, reverse, Option, Some, None, IfSome}
use Rattle.ftp_base.specs.Memory.{LinkState}
use Rattle.ftp_base.specs.Outside.{Writes}
use Rattle.ftp_options.specs.declared.options.Options.{Options}
use Rattle.ftp_options.specs.Builder.{settings_of}
use Rattle.ftp_events.specs.declared.entry.Entry.{Entry}
use Rattle.ftp_events.specs.Leads.{Outside, HasLinks, Leads}
use Rattle.ftp_events.specs.Log.{past_of}
use Rattle.ftp_control.specs.Writing.{WritesFront}
use Rattle.ftp_hub.specs.declared.hub.Hub.{Hub}
use Rattle.ftp_hub.specs.declared.state.HubState.{HubState}
use Rattle.ftp_hub.specs.Runs.{is_linked}
use Rattle.ftp_hub.specs.Stands.{Stands, count_of, options_of}
use Rattle.ftp_text.specs.declared.setup.Item.{Item}
use Rattle.ftp_text.specs.declared.setup.Item.TheVariants as item
use Rattle.ftp_text.specs.Setup.{IsItem}
use Rattle.ftp_script_run.specs.declared.text_script.ScriptReader.{ScriptReader}
use Rattle.ftp_script_run.specs.Script.{has_link, may_stand}
use Rattle.ftp_script_run.specs.ScriptReader.{Follows, HasRead}
use Rattle.ftp_script_run.specs.SetUp.{StorageState, has_event}
use Rattle.ftp_script_run.specs.declared.run.Run.{Run}
use Rattle.ftp_script_run.specs.Items.{events_in, options_in}
use Rattle.ftp_script_run.specs.Legal.{memory_views, start_of}
use Rattle.ftp_script_run.specs.Resumed.{HasState}
use Rattle.ftp_script_run.specs.Outcome.{log_lines}

-- ---- what came before

-- options and a state that a script goes on from; nothing, where it begins anew
abbrev pub Before : Type 0
Before = Option (Options × HubState)

-- the front is a log that may have come before
abbrev pub MayPrecede : Before → List Entry → Type 0
MayPrecede None front = front ≡ []
MayPrecede (Some b) front = HasState b.0 front b.1

-- the options are those of the items, or those that the script goes on under
abbrev pub AreOptions : Before → List Item → Options → Type 0
AreOptions None items o = settings_of o ≡ options_in items
AreOptions (Some b) items o = o ≡ b.0

-- how many events were counted before
abbrev pub events_before : Before → ℕ
events_before None = 0
events_before (Some b) = b.1.events

-- ---- what is kept

-- the storage and the links of a run
abbrev pub outside : Run → Outside StorageState LinkState
outside run = record { storage = run.storage; links = run.links }

-- a hub stands for the log behind the front; if an event came, its slots and jobs have their links; and its ended jobs were run
pub record HasRun (hub : Hub) (front : List Entry) (items : List Item) (log : List Entry) (now : Outside StorageState LinkState) : Type 0 where
  pub stands : Stands hub (log ++ front)
  pub has_links : (log ≡ []) ⊎ HasLinks (options_of hub) (past_of (log ++ front)) now.links
  pub led : Leads memory_views (options_of hub) front log (start_of items) now

-- what is kept of these items and their log
pub record Keeps (before : Before) (run : Run) (items : List Item) (log : List Entry) : Type 0 where
  pub events : map (λ (e : Entry). e.event) (reverse log) ≡ events_in items
  pub options : AreOptions before items (options_of run.hub)
  pub count : count_of run.hub ≡ events_before before + length (events_in items)
  pub start : has_event items ≡ false → outside run ≡ start_of items
  pub links : (n : ℕ) → has_link n items ≡ true → is_linked run.links n ≡ true
  pub hub : (front : List Entry) → MayPrecede before front → HasRun run.hub front items log (outside run)

-- ---- one more item

-- where a script goes on, no options come, and an event comes behind the links of the slots and jobs that are there
abbrev pub MayGoOn : Before → Run → Item → Type 0
MayGoOn None run i = Unit {0}
MayGoOn (Some b) run (item.Options mode lo hi host active idle lockout restart) = ⊥
MayGoOn (Some b) run (item.Event e) = (front : List Entry) → HasState b.0 front b.1 → HasLinks b.0 (past_of front) run.links
MayGoOn (Some b) run _ = Unit {0}

-- the item may come behind the items that are kept
pub record MayCome (before : Before) (run : Run) (items : List Item) (i : Item) : Type 0 where
  pub stands : may_stand items i ≡ true
  pub goes_on : MayGoOn before run i

-- the item is lawful, and may come behind the items that are kept
abbrev pub MayTake : Run → Item → Type 0
MayTake run i = IsItem i × ((before : Before) × (items : List Item) × (log : List Entry) × Keeps before run items log × MayCome before run items i)

-- the item was taken: its entries are in the log
abbrev pub Takes : Run → Item → Run → List Entry → Type 0
Takes old i new entries =
    (before : Before) (items : List Item) (log : List Entry) → Keeps before old items log → MayCome before old items i →
    Keeps before new (items ++ i ∷ []) (entries ++ log)

-- an item was taken behind others: the entries that came are in the log, and were written
abbrev pub IsTaken : Before → Run → List Item → List Entry → Option (List ℕ) → Option (List ℕ) → Type 0
IsTaken before run items log old new = (entries : List Entry) × Keeps before run items (entries ++ log) × Writes old new (log_lines entries)

-- nothing was written, or an item was taken and a part from the front of the entries that came was written
abbrev pub IsPartlyTaken : Before → Run → List Item → List Entry → Option (List ℕ) → Option (List ℕ) → Type 0
IsPartlyTaken before run items log old new =
    (new ≡ old) ⊎ ((entries : List Entry) × Keeps before run items (entries ++ log) × WritesFront old new (log_lines entries))

-- items were read and their log was written, on the way through these bytes, where they are told
pub record Running (before : Before) (all : Option (List ℕ)) (reader : ScriptReader) (run : Run) (buffer : List ℕ) (left old new : Option (List ℕ)) : Type 0 where
  pub items : List Item
  pub log : List Entry
  pub known : Follows reader items
  pub kept : Keeps before run items log
  pub read : IfSome all (λ bytes. HasRead items bytes reader buffer left)
  pub written : Writes old new (log_lines log)
