-- The events of a log, and one more item.
use Rattle.std.proofs.Common.{◌≡◌, false, List, [], ◌∷◌, ◌++◌, map, reverse, refl, sym, ap, ◌∙◌}
use Rattle.std.proofs.lemmas.List.{append-nil, map-append, reverse-append}
use Rattle.ftp_events.specs.declared.entry.Entry.{Entry}
use Rattle.ftp_events.specs.declared.event.HubEvent.{HubEvent}
use Rattle.ftp_text.specs.declared.setup.Item.{Item}
use Rattle.ftp_text.specs.declared.setup.Item.TheVariants as item
use Rattle.ftp_script_run.specs.SetUp.{has_event}
use Rattle.ftp_script_run.specs.Items.{events_in}
use Rattle.ftp_script_run.proofs.ItemLemmas.{events_in-append}

-- an item that is no event
pub events-other : (items : List Item) (log : List Entry) (i : Item) →
    events_in (i ∷ []) ≡ [] →
    map (λ (e : Entry). e.event) (reverse log) ≡ events_in items →
    map (λ (e : Entry). e.event) (reverse log) ≡ events_in (items ++ i ∷ [])
events-other items log i none events =
    events ∙ sym (events_in-append items (i ∷ []) ∙ ap (λ (es : List HubEvent). events_in items ++ es) none ∙ append-nil (events_in items))

-- the events of a log with a newer entry
events-newer : (log : List Entry) (e : Entry) → map (λ (x : Entry). x.event) (reverse (e ∷ log)) ≡ map (λ (x : Entry). x.event) (reverse log) ++ e.event ∷ []
events-newer log e =
    ap (map (λ (x : Entry). x.event)) (reverse-append (e ∷ []) log)
    ∙ map-append (λ (x : Entry). x.event) (reverse log) (e ∷ [])

-- an event with its entry
pub events-more : (items : List Item) (log : List Entry) (event : HubEvent) (e : Entry) →
    e.event ≡ event →
    map (λ (x : Entry). x.event) (reverse log) ≡ events_in items →
    map (λ (x : Entry). x.event) (reverse (e ∷ log)) ≡ events_in (items ++ item.Event event ∷ [])
events-more items log event e same events =
    events-newer log e
    ∙ ap (λ (es : List HubEvent). es ++ e.event ∷ []) events
    ∙ ap (λ (x : HubEvent). events_in items ++ x ∷ []) same
    ∙ sym (events_in-append items (item.Event event ∷ []))

pub no_events : (items : List Item) → has_event items ≡ false → events_in items ≡ []
no_events [] h = refl
no_events (item.Skip ∷ items) h = no_events items h
no_events (item.Options mode lo hi host active idle lockout restart ∷ items) h = no_events items h
no_events (item.Storage max fails ∷ items) h = no_events items h
no_events (item.Dir path ∷ items) h = no_events items h
no_events (item.File bytes path ∷ items) h = no_events items h
no_events (item.Quota default ∷ items) h = no_events items h
no_events (item.Budget bytes user ∷ items) h = no_events items h
no_events (item.Link n chunk fails bytes ∷ items) h = no_events items h
no_events (item.Event e ∷ items) h = absurd cc

some_events : (before : List HubEvent) (event : HubEvent) → before ++ event ∷ [] ≡ [] → ⊥
some_events [] event is = cc
some_events (first ∷ before) event is = cc

-- without an event there is no entry
pub no-entry : (items : List Item) (log : List Entry) → map (λ (e : Entry). e.event) (reverse log) ≡ events_in items → has_event items ≡ false → log ≡ []
no-entry items [] events none = refl
no-entry items (e ∷ log) events none = absurd (some_events (map (λ (x : Entry). x.event) (reverse log)) e.event (sym (events-newer log e) ∙ events ∙ no_events items none))
