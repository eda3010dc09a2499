-- The replies that a session was sent and was not handed yet.
use Rattle.std.specs.Prelude.{◌≡◌, ℕ, Bool, true, false, List, [], ◌∷◌, ◌++◌, drop, filter_map, nat_eq, Option, Some, None, if◌then◌else◌}
use Rattle.std.specs.Option.{option_map_or}
use Rattle.std.specs.HashMap as map
use Rattle.ftp_base.specs.declared.reply.Reply.{Reply}
use Rattle.ftp_events.specs.declared.action.Action.{Action}
use Rattle.ftp_events.specs.declared.action.Action.TheVariants as action
use Rattle.ftp_events.specs.declared.entry.Entry.{Entry}
use Rattle.ftp_events.specs.declared.event.EventKind.{EventKind}
use Rattle.ftp_events.specs.declared.event.EventKind.TheVariants as kind
use Rattle.ftp_events.specs.Log.{named_session}
use Rattle.ftp_events.specs.Right.{reply_to}
use Rattle.ftp_events.specs.Words.{is_number}
use Rattle.ftp_shared.specs.declared.outbox.Outbox.{Outbox}

-- the replies to session s among some actions
abbrev pub replies_in : List Action → ℕ → List (ℕ × Reply)
replies_in actions s = filter_map (reply_to s) actions

-- the actions of the newest entry
abbrev pub newest : List Entry → List Action
newest [] = []
newest (e ∷ log) = e.actions

-- the replies to session s that were sorted in
abbrev pub sorted : Outbox → ℕ → List (ℕ × Reply)
sorted box s = option_map_or (λ v. v.items) (map.get nat_eq box.waiting s) []

-- those of the newest entry that were not
abbrev pub unsorted : Outbox → List Action → ℕ → List (ℕ × Reply)
unsorted box actions s = if is_number box.told s then [] else replies_in (drop box.next actions) s

-- the replies to session s that were not handed out
abbrev pub outbox_in : Outbox → List Action → ℕ → List (ℕ × Reply)
outbox_in box actions s = sorted box s ++ unsorted box actions s

-- where these are the actions of a journal's newest entry
abbrev pub outbox_of : Outbox → List Entry → ℕ → List (ℕ × Reply)
outbox_of box journal s = outbox_in box (newest journal) s

-- an event of a ticket
abbrev pub has_ticket : EventKind → Bool
has_ticket (kind.End ticket) = true
has_ticket (kind.Piece ticket) = true
has_ticket _ = false

-- the session that is handed its replies with the entry of an event
abbrev pub own_session : EventKind → Option ℕ
own_session k = if has_ticket k then None else named_session k

-- the outboxes after an entry that is handed to a session, or to none
abbrev pub outbox_after : Option ℕ → Entry → (ℕ → List (ℕ × Reply)) → ℕ → List (ℕ × Reply)
outbox_after own e old s = if is_number own s then [] else old s ++ replies_in e.actions s

-- xs are the last of ys
abbrev pub IsRest : List (ℕ × Reply) → List (ℕ × Reply) → Type 0
IsRest xs ys = (first : List (ℕ × Reply)) × (ys ≡ first ++ xs)

-- the session that has a reply waiting because of an action: the one that it is for, unless that was handed its own
abbrev pub waits : Option ℕ → Action → Option ℕ
waits own (action.Reply session delay reply) = if is_number own session then None else Some session
waits own _ = None

-- the sessions that have replies waiting because of these actions, one for each reply
abbrev pub others_in : Option ℕ → List Action → List ℕ
others_in own actions = filter_map (waits own) actions
