-- The entries that wait in a queue.
use Rattle.std.specs.Prelude.{ℕ, Bool, false, nat_le, Option, Some, None}
use Rattle.std.specs.Ordering.{nat_cmp}
use Rattle.std.specs.Option.{option_map_or}
use Rattle.std.specs.BTreeMap.{get, btree_map_len}
use Rattle.ftp_events.specs.declared.entry.Entry.{Entry}
use Rattle.ftp_shared.specs.declared.entry_queue.EntryQueue.{EntryQueue}
use Rattle.ftp_shared.specs.declared.entry_queue.Taken.{Taken}
use Rattle.ftp_shared.specs.declared.entry_queue.Taken.TheVariants as taken

-- the entry that waits at a place
abbrev pub waits_at : EntryQueue → ℕ → Option Entry
waits_at queue place = get nat_cmp queue.waiting place

-- how many entries wait
abbrev pub waiting_count : EntryQueue → ℕ
waiting_count queue = btree_map_len queue.waiting

-- all entries were given
abbrev pub has_ended : EntryQueue → Bool
has_ended queue = option_map_or (λ count. nat_le count queue.next) queue.end false

-- the entry that was given, if one was
abbrev pub taken_entry : Taken → Option Entry
taken_entry (taken.Given entry) = Some entry
taken_entry _ = None
