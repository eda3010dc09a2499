-- What holds of every right log, in plain words.
use Rattle.std.specs.Prelude.{ℕ, ◌+◌, ◌^◌, ◌≡◌, ◌≢◌, ◌≤◌, ◌<◌, ◌↔◌, ◌⊎◌, List, [], ◌∷◌, ◌++◌, map, length, true, false, Some, None, decimal, is_some, if◌then◌else◌}
use Rattle.std.specs.List.{flat_map, join_with_byte, list_any, range_with_len}
use Rattle.ftp_base.specs.declared.net.IpAddr.{IpAddr}
use Rattle.ftp_base.specs.declared.net.IpAddr.TheVariants.{V4}
use Rattle.ftp_options.specs.declared.options.Options.{Options}
use Rattle.ftp_options.specs.Modes.{is_legacy}
use Rattle.ftp_transfer.specs.declared.job.Outcome.{Outcome}
use Rattle.ftp_transfer.specs.declared.job.Ticket.{Ticket}
use Rattle.ftp_events.specs.declared.decision.Decision.TheVariants.{Finished, Moved, Cut, Stopped}
use Rattle.ftp_events.specs.declared.entry.Entry.{Entry}
use Rattle.ftp_events.specs.declared.event.Answer.{Answer}
use Rattle.ftp_events.specs.declared.event.Answer.TheVariants.{Done}
use Rattle.ftp_events.specs.declared.event.EventKind.{EventKind}
use Rattle.ftp_events.specs.declared.event.EventKind.TheVariants.{Sweep, Scavenge}
use Rattle.ftp_events.specs.declared.event.HubEvent.{HubEvent}
use Rattle.ftp_events.specs.declared.session.Login.TheVariants.{LoggedIn}
use Rattle.ftp_events.specs.declared.session.Pending.{Pending}
use Rattle.ftp_events.specs.declared.session.Running.{Running}
use Rattle.ftp_events.specs.declared.session.Session.{Session}
use Rattle.ftp_events.specs.declared.session.Slot.TheVariants.{Empty}
use Rattle.ftp_events.specs.Acts.{pending_in, acts_for}
use Rattle.ftp_events.specs.Board.{holder}
use Rattle.ftp_events.specs.Fate.{AwaitsConnection, AwaitsEarlierEnd, cancels, settlement, is_running, is_pending, wait, fate}
use Rattle.ftp_events.specs.Headline.{AllServed, IsClosed}
use Rattle.ftp_events.specs.History.{concerns}
use Rattle.ftp_events.specs.Isolation.{client_log, IsApart, locks_by_address}
use Rattle.ftp_events.specs.Leads.{header_to_read}
use Rattle.ftp_events.specs.Log.{past_of, is_refusal, is_stopped, job_ticket, named_session, new_number}
use Rattle.ftp_events.specs.Login.{logged_user}
use Rattle.ftp_events.specs.Right.{IsRight, IsActed, next_entry, log_of, events_of, replies}
use Rattle.ftp_events.specs.Running.{running_count}
use Rattle.ftp_events.specs.Session.{session, running_job, live_count, live_sessions}
use Rattle.ftp_events.specs.Text.{port_target, six_numbers}
use Rattle.ftp_events.specs.Transfer.{moves_file}
use Rattle.ftp_laws.specs.Alone.{IsActedButStops, SameServed}
use Rattle.ftp_laws.specs.Census.{IsCensus, IsAscending, has}
use Rattle.ftp_laws.specs.Holds.{WaitsOn, EndsHold}
use Rattle.ftp_laws.specs.Fates.{was_queued, queue_count, settle_count, can_cancel, LosesSlot, CutsIt}
use Rattle.ftp_laws.specs.Jobs.{started_count, completed_count, cut_count, starts_there, has_brought}
use Rattle.ftp_laws.specs.Links.{start_count}
use Rattle.ftp_laws.specs.Moments.{IsLatest, NeverFalls}
use Rattle.ftp_laws.specs.Notices.{notices, NoneLoggedOut, LastLoggedOut, HasEnded}
use Rattle.ftp_laws.specs.Offsets.{TakesRest, EndsWell}
use Rattle.ftp_laws.specs.Pieces.{piece_bytes, was_aborted}
use Rattle.ftp_laws.specs.Replies.{was_opened}
use Rattle.ftp_laws.specs.Stops.{parting}
use Rattle.ftp_laws.specs.Transfers.{transfer_of, WasQueuedSo, was_started}

-- whatever happens and is answered, there is a right and acted log of it
abbrev pub RightLogsExist : Type 0
RightLogsExist =
    (o : Options) (told : List (HubEvent × Answer)) →
    IsRight o (log_of o told) × IsActed o (log_of o told)

-- a right and acted log is the one that its events and answers give
abbrev pub RightLogsAreDetermined : Type 0
RightLogsAreDetermined =
    (o : Options) (log : List Entry) → IsRight o log → IsActed o log →
    log_of o (events_of log) ≡ log

-- every data connection goes to the holder of its key or is closed, and every admitted PASV gets the first free port or is told that there is none
abbrev pub RightLogsServe : Type 0
RightLogsServe =
    (o : Options) (log : List Entry) → is_legacy o.mode ≡ false → IsRight o log → IsActed o log →
    AllServed o log

-- a port is held for a client by the live session of that client whose slot waits for the port, and by nobody else
abbrev pub HoldersWait : Type 0
HoldersWait =
    (o : Options) (log : List Entry) (a : IpAddr) (p s : ℕ) → is_legacy o.mode ≡ false → IsRight o log →
    (holder o (past_of log) a p ≡ Some s) ↔ WaitsOn o (past_of log) s a p

-- a session holds one port at most
abbrev pub HoldsOnePort : Type 0
HoldsOnePort =
    (o : Options) (log : List Entry) (a b : IpAddr) (p q s : ℕ) → is_legacy o.mode ≡ false → IsRight o log →
    holder o (past_of log) a p ≡ Some s → holder o (past_of log) b q ≡ Some s →
    (a ≡ b) × (p ≡ q)

-- a hold stays, but for a data connection to its key, a grant of another port to its holder, the connection of a PORT of its holder,
-- an ABOR of its holder, the end of its holder, or a stop
abbrev pub HoldsEndOnlySo : Type 0
HoldsEndOnlySo =
    (o : Options) (log : List Entry) (e : Entry) (a : IpAddr) (p s : ℕ) → is_legacy o.mode ≡ false → IsRight o (e ∷ log) →
    holder o (past_of log) a p ≡ Some s →
    (holder o (past_of (e ∷ log)) a p ≡ Some s) ⊎ ((holder o (past_of (e ∷ log)) a p ≡ None) × EndsHold o e s a p)

-- after each of these, unless it was refused, the port is free
abbrev pub EachEndsHold : Type 0
EachEndsHold =
    (o : Options) (log : List Entry) (e : Entry) (a : IpAddr) (p s : ℕ) → is_legacy o.mode ≡ false → IsRight o (e ∷ log) →
    holder o (past_of log) a p ≡ Some s → EndsHold o e s a p → is_refusal e.decision ≡ false →
    holder o (past_of (e ∷ log)) a p ≡ None

-- the notifications of a session are numbered 1, 2, 3 .. without gaps
abbrev pub NoticesAreNumbered : Type 0
NoticesAreNumbered =
    (o : Options) (log : List Entry) (s : ℕ) → IsRight o log → IsActed o log →
    map (λ n. n.0) (notices log s) ≡ range_with_len 1 (length (notices log s))

-- a live session counts its notifications
abbrev pub NoticesAreCounted : Type 0
NoticesAreCounted =
    (o : Options) (log : List Entry) (s : ℕ) (v : Session) → IsRight o log → IsActed o log →
    session o (past_of log) s ≡ Some v →
    v.notices ≡ length (notices log s)

-- the last notification of a session that has ended says that it has logged out, and no other does
abbrev pub EndedAreLoggedOut : Type 0
EndedAreLoggedOut =
    (o : Options) (log : List Entry) (s : ℕ) → IsRight o log → IsActed o log →
    HasEnded o (past_of log) s →
    LastLoggedOut (notices log s)

-- no notification of a live session says so
abbrev pub LiveAreNotLoggedOut : Type 0
LiveAreNotLoggedOut =
    (o : Options) (log : List Entry) (s : ℕ) (v : Session) → IsRight o log → IsActed o log →
    session o (past_of log) s ≡ Some v →
    NoneLoggedOut (notices log s)

-- where failed logins of one address lock no other, the entries of a client whose numbers nobody else brings in are a right log by themselves,
-- and acted but for a Shutdown, which names every session
abbrev pub ClientsAreIsolated : Type 0
ClientsAreIsolated =
    (o : Options) (log : List Entry) (a : IpAddr) → is_legacy o.mode ≡ false → locks_by_address o.lockout ≡ true →
    IsApart log a → IsRight o log → IsActed o log →
    IsRight o (client_log log a) × IsActedButStops o (client_log log a)

-- they serve what the client's events and answers give with nobody else there: the same decisions, and the same actions but for a Shutdown
abbrev pub ClientsAreServedAlone : Type 0
ClientsAreServedAlone =
    (o : Options) (log : List Entry) (a : IpAddr) → is_legacy o.mode ≡ false → locks_by_address o.lockout ≡ true →
    IsApart log a → IsRight o log → IsActed o log →
    SameServed (log_of o (events_of (client_log log a))) (client_log log a)

-- before any stop they are just that
abbrev pub ClientsAreAsIfAlone : Type 0
ClientsAreAsIfAlone =
    (o : Options) (log : List Entry) (a : IpAddr) → is_legacy o.mode ≡ false → locks_by_address o.lockout ≡ true →
    IsApart log a → IsRight o log → IsActed o log → is_stopped (past_of log) ≡ false →
    log_of o (events_of (client_log log a)) ≡ client_log log a

-- no link takes two transfers
abbrev pub LinksTakeOneJob : Type 0
LinksTakeOneJob =
    (o : Options) (log : List Entry) (n : ℕ) → IsRight o log → IsActed o log →
    start_count n log ≤ 1

-- the transfers that a session has started are those of it that were completed, and one more where a job of it runs
abbrev pub SessionsRunOneJob : Type 0
SessionsRunOneJob =
    (o : Options) (log : List Entry) (s : ℕ) → IsRight o log → IsActed o log →
    started_count s log ≡ completed_count s log + cut_count s log + (if is_some (running_job o (past_of log) s) then 1 else 0)

-- a transfer starts on a link that its entry, or an earlier one, attached to its session
abbrev pub StartsOnOwnLink : Type 0
StartsOnOwnLink =
    (o : Options) (log : List Entry) (e : Entry) (s n : ℕ) → IsRight o (e ∷ log) → IsActed o (e ∷ log) →
    list_any (starts_there s n) e.actions ≡ true →
    has_brought s n (e ∷ log) ≡ true

-- after a RETR, STOR or APPE that succeeded a live session has the offset 0, and after any other end the one that it had
abbrev pub EndsSetOffset : Type 0
EndsSetOffset =
    (o : Options) (log : List Entry) (e : Entry) (ticket : Ticket) (outcome : Outcome) (v : Session) →
    job_ticket e.event.kind ≡ Some ticket → e.answer ≡ Done outcome → e.decision ≡ Finished →
    session o (past_of log) ticket.session ≡ Some v →
    (w : Session) × (session o (past_of (e ∷ log)) ticket.session ≡ Some w) × (w.offset ≡ (if moves_file outcome.result then 0 else v.offset))

-- the offset of a session that stays live stays, but for a REST, or the end of a RETR, STOR or APPE of it that succeeded
abbrev pub OffsetsLast : Type 0
OffsetsLast =
    (o : Options) (log : List Entry) (e : Entry) (s : ℕ) (v w : Session) → IsRight o (e ∷ log) →
    session o (past_of log) s ≡ Some v → session o (past_of (e ∷ log)) s ≡ Some w →
    (w.offset ≡ v.offset) ⊎ (TakesRest e s ⊎ EndsWell e s)

-- a transfer has a fate where it was queued, and none where it was not
abbrev pub QueuedHaveFates : Type 0
QueuedHaveFates =
    (o : Options) (log : List Entry) (t : Ticket) → IsRight o log → IsActed o log →
    is_some (fate o log t) ≡ was_queued t log

-- one that was completed or cancelled waits for nothing
abbrev pub SettledDoNotWait : Type 0
SettledDoNotWait =
    (o : Options) (log : List Entry) (t : Ticket) → IsRight o log → IsActed o log →
    is_some (settlement log t) ≡ true →
    wait o (past_of log) t ≡ None

-- a transfer is completed or cancelled once at most
abbrev pub SettledOnce : Type 0
SettledOnce =
    (o : Options) (log : List Entry) (t : Ticket) → IsRight o log → IsActed o log →
    settle_count t log ≤ 1

-- it is cancelled by another grant, the connection of a PORT, one that is turned away, a slot that stood too long, an ABOR, the end of a session, or its cut alone,
-- where that concerns its session, as a stop concerns every session
abbrev pub CancelledOnlySo : Type 0
CancelledOnlySo =
    (o : Options) (log : List Entry) (e : Entry) (t : Ticket) → IsRight o (e ∷ log) → IsActed o (e ∷ log) →
    list_any (cancels t) e.actions ≡ true →
    (can_cancel e.decision ≡ true) × (concerns o (past_of log) e t.session ≡ true)

-- it is cancelled exactly where its session loses the slot in which it waits, or it runs and is cut
abbrev pub CancelledWithSlot : Type 0
CancelledWithSlot =
    (o : Options) (log : List Entry) (e : Entry) (t : Ticket) → IsRight o (e ∷ log) → IsActed o (e ∷ log) →
    (list_any (cancels t) e.actions ≡ true) ↔ (LosesSlot o (past_of log) e t ⊎ CutsIt o (past_of log) e t)

-- a transfer that runs is in no slot
abbrev pub RunningAreInNoSlot : Type 0
RunningAreInNoSlot =
    (o : Options) (log : List Entry) (t : Ticket) → IsRight o log → IsActed o log →
    is_running t (running_job o (past_of log) t.session) ≡ true →
    is_pending t (pending_in (session o (past_of log) t.session)) ≡ false

-- a transfer is queued once at most
abbrev pub QueuedOnce : Type 0
QueuedOnce =
    (o : Options) (log : List Entry) (t : Ticket) → IsRight o log → IsActed o log →
    queue_count t log ≤ 1

-- a transfer that runs was queued, and was neither completed nor cancelled
abbrev pub RunningAreUnsettled : Type 0
RunningAreUnsettled =
    (o : Options) (log : List Entry) (s : ℕ) (r : Running) → IsRight o log → IsActed o log →
    running_job o (past_of log) s ≡ Some r →
    (was_queued r.job.ticket log ≡ true) × (settlement log r.job.ticket ≡ None)

-- while a transfer waits for an earlier end, a transfer of its session with a smaller number runs
abbrev pub EarlierEndsAreOfRunning : Type 0
EarlierEndsAreOfRunning =
    (o : Options) (log : List Entry) (t : Ticket) → IsRight o log →
    fate o log t ≡ Some AwaitsEarlierEnd →
    (r : Running) × (running_job o (past_of log) t.session ≡ Some r) × (r.job.ticket.session ≡ t.session) × (r.job.ticket.nr < t.nr)

-- while a transfer waits for a connection, its session holds the port for which its slot waits
abbrev pub AwaitedPortsAreHeld : Type 0
AwaitedPortsAreHeld =
    (o : Options) (log : List Entry) (t : Ticket) → is_legacy o.mode ≡ false → IsRight o log →
    fate o log t ≡ Some AwaitsConnection →
    (a : IpAddr) × (p : ℕ) × WaitsOn o (past_of log) t.session a p × (holder o (past_of log) a p ≡ Some t.session)

-- a transfer that waits is as its entry queued it, for the session that it waits in
abbrev pub WaitingAreAsQueued : Type 0
WaitingAreAsQueued =
    (o : Options) (log : List Entry) (s : ℕ) (p : Pending) → IsRight o log →
    pending_in (session o (past_of log) s) ≡ Some p →
    (p.ticket.session ≡ s) × WasQueuedSo o (past_of log) p

-- so is one that runs
abbrev pub RunningAreAsQueued : Type 0
RunningAreAsQueued =
    (o : Options) (log : List Entry) (s : ℕ) (r : Running) → IsRight o log →
    running_job o (past_of log) s ≡ Some r →
    (r.job.ticket.session ≡ s) × WasQueuedSo o (past_of log) (transfer_of r.job)

-- a transfer that runs was started on the link of its job, and on no other
abbrev pub RunningAreAsStarted : Type 0
RunningAreAsStarted =
    (o : Options) (log : List Entry) (s n : ℕ) (r : Running) → IsRight o log → IsActed o log →
    running_job o (past_of log) s ≡ Some r →
    (was_started r.job.ticket n log ≡ true) ↔ (n ≡ r.job.number)

-- one that runs counts the bytes of all its pieces
abbrev pub PiecesAreCounted : Type 0
PiecesAreCounted =
    (o : Options) (log : List Entry) (s : ℕ) (r : Running) → IsRight o log →
    running_job o (past_of log) s ≡ Some r →
    r.job.done ≡ piece_bytes r.job.ticket (past_of log)

-- and is marked exactly where an ABOR of its session that was to stop it came after its start
abbrev pub AbortedAreMarked : Type 0
AbortedAreMarked =
    (o : Options) (log : List Entry) (s : ℕ) (r : Running) → IsRight o log → IsActed o log →
    running_job o (past_of log) s ≡ Some r →
    r.marked ≡ was_aborted r.job.ticket r.job.number log

-- the count of live sessions is the length of a list that has each of them once, and nothing else
abbrev pub LiveAreCounted : Type 0
LiveAreCounted =
    (o : Options) (log : List Entry) → IsRight o log →
    (numbers : List ℕ) × IsCensus (λ s. is_some (session o (past_of log) s)) numbers × (live_count (past_of log) ≡ length numbers)

-- the count of running jobs is that of a list of the sessions for which one runs
abbrev pub RunningAreCounted : Type 0
RunningAreCounted =
    (o : Options) (log : List Entry) → IsRight o log → IsActed o log →
    (numbers : List ℕ) × IsCensus (λ s. is_some (running_job o (past_of log) s)) numbers × (running_count (past_of log) ≡ length numbers)

-- no reply goes to a number that no entry has opened as a session
abbrev pub RepliesFollowOpenings : Type 0
RepliesFollowOpenings =
    (o : Options) (log : List Entry) (s : ℕ) → IsRight o log → IsActed o log →
    was_opened s log ≡ false →
    replies log s ≡ []

-- after a stop no session is live, and nobody holds a port
abbrev pub NothingIsLeft : Type 0
NothingIsLeft =
    (o : Options) (log : List Entry) → IsRight o log → is_stopped (past_of log) ≡ true →
    ((s : ℕ) → session o (past_of log) s ≡ None) × ((a : IpAddr) (p : ℕ) → holder o (past_of log) a p ≡ None)

-- a new connection that comes then and is not refused is turned away and closed
abbrev pub NewcomersAreClosed : Type 0
NewcomersAreClosed =
    (o : Options) (log : List Entry) (e : Entry) → IsRight o (e ∷ log) → IsActed o (e ∷ log) → is_stopped (past_of log) ≡ true →
    is_some (new_number e.event.kind e.decision) ≡ true → is_refusal e.decision ≡ false →
    IsClosed e

-- nothing is decided for a session then but the pieces and the end of a job that ran
abbrev pub OnlyEndsAreServed : Type 0
OnlyEndsAreServed =
    (o : Options) (log : List Entry) (e : Entry) (s : ℕ) → IsRight o (e ∷ log) → is_stopped (past_of log) ≡ true →
    named_session e.event.kind ≡ Some s → is_refusal e.decision ≡ false →
    (e.decision ≡ Finished) ⊎ ((e.decision ≡ Moved) ⊎ (e.decision ≡ Cut))

-- another stop does nothing then
abbrev pub StopsAgainDoNothing : Type 0
StopsAgainDoNothing =
    (o : Options) (log : List Entry) (e : Entry) → IsRight o log → IsActed o (e ∷ log) → is_stopped (past_of log) ≡ true →
    e.decision ≡ Stopped →
    e.actions ≡ []

-- and no header is read
abbrev pub NoHeaderIsRead : Type 0
NoHeaderIsRead =
    (o : Options) (log : List Entry) (k : EventKind) → is_stopped (past_of log) ≡ true →
    header_to_read o (past_of log) k ≡ None

-- a stop does its part for each live session, one after the other
abbrev pub StopsPartWithAll : Type 0
StopsPartWithAll =
    (o : Options) (log : List Entry) (e : Entry) → IsActed o (e ∷ log) → e.decision ≡ Stopped →
    e.actions ≡ flat_map (acts_for o (past_of log) e) (live_sessions o (past_of log))

-- these ascend, and are the sessions that are live
abbrev pub LiveAreInOrder : Type 0
LiveAreInOrder =
    (o : Options) (log : List Entry) → IsRight o log →
    IsAscending (live_sessions o (past_of log)) × ((s : ℕ) → has (live_sessions o (past_of log)) s ≡ is_some (session o (past_of log) s))

-- a session's part is that its transfer is cancelled, its link closed, its logout told, and its own connection closed
abbrev pub PartingsAreTheSame : Type 0
PartingsAreTheSame =
    (o : Options) (log : List Entry) (e : Entry) (s : ℕ) (v : Session) → IsRight o (e ∷ log) → e.decision ≡ Stopped →
    session o (past_of log) s ≡ Some v →
    acts_for o (past_of log) e s ≡ parting s v

-- a scavenging changes nothing: without it the log is right and acted too, and has the same next entry
abbrev pub ScavengesChangeNothing : Type 0
ScavengesChangeNothing =
    (o : Options) (newer older : List Entry) (e : Entry) → e.event.kind ≡ Scavenge →
    IsRight o (newer ++ e ∷ older) → IsActed o (newer ++ e ∷ older) →
    IsRight o (newer ++ older) × IsActed o (newer ++ older) ×
    ((event : HubEvent) (answer : Answer) → next_entry o (newer ++ older) event answer ≡ next_entry o (newer ++ e ∷ older) event answer)

-- where moments never fall a sweep changes nothing: without it the log is right and acted too, and has the same next entry
abbrev pub SweepsChangeNothing : Type 0
SweepsChangeNothing =
    (o : Options) (newer older : List Entry) (e : Entry) → e.event.kind ≡ Sweep →
    NeverFalls (newer ++ e ∷ older) → IsRight o (newer ++ e ∷ older) → IsActed o (newer ++ e ∷ older) →
    IsRight o (newer ++ older) × IsActed o (newer ++ older) ×
    ((event : HubEvent) (answer : Answer) → IsLatest event.at (newer ++ e ∷ older) →
    next_entry o (newer ++ older) event answer ≡ next_entry o (newer ++ e ∷ older) event answer)

-- a PORT with the six numbers that a passive reply shows asks for the address and the port of that reply
abbrev pub PassiveRepliesAreReadBack : Type 0
PassiveRepliesAreReadBack = (ip port : ℕ) → ip < 2 ^ 32 → port < 2 ^ 16 →
    port_target (join_with_byte 44 (map decimal (six_numbers ip port))) ≡ Some (record { ip = V4 ip; port = port })

-- the age of an empty slot counts from no moment
abbrev pub EmptySlotsHaveNoAge : Type 0
EmptySlotsHaveNoAge = (o : Options) (past : List Entry) (s : ℕ) (v : Session) → session o past s ≡ Some v → v.slot ≡ Empty → v.slot_at ≡ 0

-- a slot has something only where its session is logged in
abbrev pub SlotsNeedLogins : Type 0
SlotsNeedLogins =
    (o : Options) (log : List Entry) (s : ℕ) (v : Session) → IsRight o log →
    session o (past_of log) s ≡ Some v → v.slot ≢ Empty → v.login ≡ LoggedIn

-- a transfer waits only in a slot that has something
abbrev pub WaitingAreInSlots : Type 0
WaitingAreInSlots =
    (o : Options) (log : List Entry) (s : ℕ) (v : Session) (p : Pending) → IsRight o log →
    session o (past_of log) s ≡ Some v → v.pending ≡ Some p → v.slot ≢ Empty

-- it is for the user who is logged in
abbrev pub WaitingAreOfUsers : Type 0
WaitingAreOfUsers =
    (o : Options) (log : List Entry) (s : ℕ) (v : Session) (p : Pending) → IsRight o log →
    session o (past_of log) s ≡ Some v → v.pending ≡ Some p → p.user ≡ logged_user v.login v.name
