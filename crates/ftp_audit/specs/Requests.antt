-- What is known of a transfer until it is settled: who asked for it, from where, what it is, when it started and how far it came.
use Rattle.std.specs.Prelude.{ℕ, ◌+◌, List, [], ◌∷◌, Bool, false, ◌==◌, Option, Some, None, if◌then◌else◌}
use Rattle.std.specs.List.{list_any}
use Rattle.std.specs.Option.{option_and_then, option_map}
use Rattle.ftp_base.specs.declared.net.IpAddr.{IpAddr}
use Rattle.ftp_options.specs.declared.options.Options.{Options}
use Rattle.ftp_transfer.specs.declared.job.Ticket.{Ticket}
use Rattle.ftp_events.specs.declared.action.Action.{Action}
use Rattle.ftp_events.specs.declared.action.Action.TheVariants.{Start}
use Rattle.ftp_events.specs.declared.entry.Entry.{Entry}
use Rattle.ftp_events.specs.declared.session.Pending.{Pending}
use Rattle.ftp_events.specs.Login.{logged_user}
use Rattle.ftp_events.specs.Slot.{queued_by}
use Rattle.ftp_events.specs.Statuses.{word_of}
use Rattle.ftp_events.specs.Tallies.{saturated}
use Rattle.ftp_events.specs.Transfer.{same_ticket}
use Rattle.ftp_events.specs.Words.{◌⇒◌∣◌, latest}
use Rattle.ftp_laws.specs.Fates.{queues, settles}
use Rattle.ftp_laws.specs.Pieces.{moved_by}
use Rattle.ftp_audit.specs.declared.guest.Guest.{Guest}
use Rattle.ftp_audit.specs.declared.request.Request.{Request}
use Rattle.ftp_audit.specs.Guests.{guest_in}

-- the entry completes or cancels the transfer
abbrev pub settles_in : Entry → Ticket → Bool
settles_in e t = list_any (settles t) e.actions

-- a transfer that was queued for a client
abbrev pub request_of : IpAddr → Pending → Request
request_of client p = record { client = client; user = p.user; word = word_of p.command; path = p.path; started = None; moved = 0 }

-- the transfer that an entry queues for a session: for its user, at the path in its directory, as they are then; of its offset nothing is told
abbrev pub request_by : Entry → Guest → Option Request
request_by e g = option_map (request_of g.client) (queued_by e.decision e.event.kind (logged_user g.login g.name) g.cwd 0)

-- the transfer as it was asked for, until an entry settles it
abbrev pub asked_for_in : Options → List Entry → Ticket → Option Request
asked_for_in o [] t = None
asked_for_in o (e ∷ log) t =
    settles_in e t ⇒ None
    ∣ queues t e.decision ⇒ option_and_then (request_by e) (guest_in o log t.session)
    ∣ asked_for_in o log t

-- the action starts the transfer
abbrev pub begins_it : Ticket → Action → Bool
begins_it t (Start ticket number) = same_ticket ticket t
begins_it t _ = false

-- what an entry tells of the start of a transfer: one that is queued has not started before
abbrev pub start_by : Ticket → Entry → Option (Option ℕ)
start_by t e =
    list_any (begins_it t) e.actions ⇒ Some (Some e.event.at)
    ∣ queues t e.decision ⇒ Some None
    ∣ None

-- the moment at which the transfer started
abbrev pub started_in_log : List Entry → Ticket → Option ℕ
started_in_log log t = latest None (start_by t) log

-- how many bytes the pieces of the transfer have moved
abbrev pub pieces_moved : List Entry → Ticket → ℕ
pieces_moved [] t = 0
pieces_moved (e ∷ log) t = queues t e.decision ⇒ 0 ∣ pieces_moved log t + moved_by t e

-- a transfer with its start and its bytes
abbrev pub with_progress : Option ℕ → ℕ → Request → Request
with_progress started moved r = record r { started = started; moved = moved }

-- what the log tells of a transfer that is not settled
abbrev pub request_in : Options → List Entry → Ticket → Option Request
request_in o log t = option_map (with_progress (started_in_log log t) (saturated (pieces_moved log t))) (asked_for_in o log t)

-- so many bytes more, up to the last of their type
abbrev pub more_moved : ℕ → ℕ → ℕ
more_moved moved n = if n == 0 then moved else saturated (moved + n)

-- a transfer of which so many bytes more have moved
abbrev pub with_more : ℕ → Request → Request
with_more n r = record r { moved = more_moved r.moved n }

-- a transfer that starts at a moment
abbrev pub begun_at : ℕ → Request → Request
begun_at at r = record r { started = Some at }

-- what an entry that queues a transfer makes of what is known of it, with what is known of its session
abbrev pub request_asked : Entry → Ticket → Option Guest → Option Request → Option Request
request_asked e t g r = queues t e.decision ⇒ option_and_then (request_by e) g ∣ r

-- what an entry's decision makes of it
abbrev pub request_decided : Entry → Ticket → Option Guest → Option Request → Option Request
request_decided e t g r = option_map (with_more (moved_by t e)) (request_asked e t g r)

-- what actions make of it, the first one first
abbrev pub request_acted : ℕ → List Action → Ticket → Option Request → Option Request
request_acted at actions t r =
    list_any (settles t) actions ⇒ None
    ∣ list_any (begins_it t) actions ⇒ option_map (begun_at at) r
    ∣ r

-- what an entry makes of it
abbrev pub request_by_entry : Entry → Ticket → Option Guest → Option Request → Option Request
request_by_entry e t g r = request_acted e.event.at e.actions t (request_decided e t g r)
