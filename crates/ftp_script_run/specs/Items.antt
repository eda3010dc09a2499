-- What the items of a script ask for: events, options and links.
use Rattle.std.specs.Prelude.{ℕ, false, List, [], ◌∷◌, filter_map, Option, Some, None}
use Rattle.std.specs.FinMap as map
use Rattle.ftp_base.specs.declared.fault.LinkFault.{LinkFault}
use Rattle.ftp_base.specs.LinkTable.{Numbered}
use Rattle.ftp_base.specs.Memory.{LinkState}
use Rattle.ftp_options.specs.Builder.{defaults}
use Rattle.ftp_options.specs.Settings.{Settings}
use Rattle.ftp_events.specs.declared.event.HubEvent.{HubEvent}
use Rattle.ftp_text.specs.declared.setup.Item.{Item}
use Rattle.ftp_text.specs.declared.setup.Item.TheVariants as item
use Rattle.ftp_text.specs.Settings.{settings_in}

-- the event of an item
abbrev pub event_in : Item → Option HubEvent
event_in (item.Event e) = Some e
event_in _ = None

-- the events, in their order
abbrev pub events_in : List Item → List HubEvent
events_in items = filter_map event_in items

-- the settings that the first options line asks for; else those of a builder on which nothing was set
abbrev pub options_in : List Item → Settings
options_in [] = defaults
options_in (item.Options mode lo hi host active idle lockout restart ∷ items) =
    settings_in (Some (item.Options mode lo hi host active idle lockout restart))
options_in (_ ∷ items) = options_in items

-- a link that gives these bytes, on which no call was made, and of whose calls these fail
abbrev pub new_link : ℕ → List (ℕ × LinkFault) → List ℕ → LinkState
new_link chunk fails bytes =
    record {
      left = bytes;
      sent = [];
      closed = false;
      last_fault = None;
      chunk = chunk;
      calls = record { made = 0; faults = 0; failing = fails };
    }

-- the number and the link of an item
abbrev pub link_in : Item → Option (ℕ × LinkState)
link_in (item.Link n chunk fails bytes) = Some (n, new_link chunk fails bytes)
link_in _ = None

-- the links by their numbers
abbrev pub links_in : List Item → Numbered LinkState
links_in items = map.from_entries (filter_map link_in items)
