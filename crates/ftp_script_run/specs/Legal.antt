-- The legal log of a script's items, the newest entry first, and what it does to their storage and links.
use Rattle.std.specs.Prelude.{ℕ, ◌≡◌, ◌≤◌, List, [], map as map_list, reverse, Some}
use Rattle.std.specs.FinMap as map
use Rattle.ftp_base.specs.LinkTable.{Numbered}
use Rattle.ftp_base.specs.Memory.{LinkState, fault_limit, link_fault_limit}
use Rattle.ftp_base.specs.MemoryStorage.{memory_rule}
use Rattle.ftp_options.specs.declared.options.Options.{Options}
use Rattle.ftp_options.specs.Settings.{Settings}
use Rattle.ftp_options.specs.Builder.{settings_of}
use Rattle.ftp_events.specs.declared.entry.Entry.{Entry}
use Rattle.ftp_events.specs.Leads.{Views, Outside, Leads}
use Rattle.ftp_events.specs.Right.{IsRight, IsActed}
use Rattle.ftp_text.specs.declared.setup.Item.{Item}
use Rattle.ftp_audit.specs.Quota.{quota_rule}
use Rattle.ftp_script_run.specs.SetUp.{StorageState, storage_in}
use Rattle.ftp_script_run.specs.Items.{events_in, options_in, links_in}

-- a storage in memory, with its budgets, and a link in memory tell all
abbrev pub memory_views : Views StorageState LinkState
memory_views =
    record {
      files = λ s. Some s.inner.files;
      rule = λ s. quota_rule s.accounts (memory_rule s.inner.max_file);
      storage_faults = λ s. s.inner.calls.faults;
      storage_limit = λ s. fault_limit s.inner.calls;
      storage_calls = λ s. Some s.inner.calls;
      left = λ l. Some l.left;
      sending = λ l. record { sent = Some l.sent; closed = l.closed; last_fault = l.last_fault };
      link_faults = λ l. l.calls.faults;
      link_limit = λ l. link_fault_limit l.calls;
      link_calls = λ l. Some l.calls;
    }

-- the storage and all links as the items set them up; an event can use no link before its line
abbrev pub start_of : List Item → Outside StorageState LinkState
start_of items = record { storage = storage_in items; links = links_in items }

-- of a storage and its links no more calls failed than were listed to come
pub record FailsAsListed (old new : Outside StorageState LinkState) : Type 0 where
  pub storage : new.storage.inner.calls.faults ≤ fault_limit old.storage.inner.calls
  pub links :
      (n : ℕ) (before after : LinkState) → map.get old.links n ≡ Some before → map.get new.links n ≡ Some after →
      after.calls.faults ≤ link_fault_limit before.calls

-- by options with these settings each decision and each action is due, and each header was read and each job was run, at its
-- end, from old to new
pub record IsDue (settings : Settings) (log : List Entry) (old new : Outside StorageState LinkState) : Type 0 where
  pub options : Options
  pub set : settings_of options ≡ settings
  pub right : IsRight options log
  pub acted : IsActed options log
  pub led : Leads memory_views options [] log old new

-- the entries are those of the script's events, in their order; all that they say is due, and leaves these links and this
-- storage, of which no more calls failed than the script lists
pub record IsLegal (items : List Item) (log : List Entry) (links : Numbered LinkState) (storage : StorageState) : Type 0 where
  pub events : map_list (λ (e : Entry). e.event) (reverse log) ≡ events_in items
  pub due : IsDue (options_in items) log (start_of items) (record { storage = storage; links = links })
  pub listed : FailsAsListed (start_of items) (record { storage = storage; links = links })
