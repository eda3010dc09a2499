-- What listeners hear of an entry.
use Rattle.std.specs.Prelude.{◌≡◌, List, ◌++◌, Option, Some, None, IfSome}
use Rattle.ftp_base.specs.declared.notice.DataEvent.{DataEvent}
use Rattle.ftp_base.specs.declared.notice.EventMeta.{EventMeta}
use Rattle.ftp_base.specs.declared.notice.Notice.TheVariants.{Presence, Data}
use Rattle.ftp_base.specs.declared.notice.PresenceEvent.{PresenceEvent}
use Rattle.ftp_events.specs.declared.action.Action.{Action}
use Rattle.ftp_events.specs.declared.action.Action.TheVariants.{Notify}

-- the data event that an action notifies of
abbrev pub data_told : Action → Option (DataEvent × EventMeta)
data_told (Notify session meta (Data event)) = Some (event, meta)
data_told _ = None

-- the coming or going that an action notifies of
abbrev pub presence_told : Action → Option (PresenceEvent × EventMeta)
presence_told (Notify session meta (Presence event)) = Some (event, meta)
presence_told _ = None

-- these events were heard in this order, behind all that was heard before, where that is told
abbrev pub HearsAll : {E : Type 0} → Option (List (E × EventMeta)) → Option (List (E × EventMeta)) → List (E × EventMeta) → Type 0
HearsAll old new events = IfSome old (λ heard. new ≡ Some (heard ++ events))
