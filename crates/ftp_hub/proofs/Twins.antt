-- The job that starts with an entry is that of the transfer which was copied before it.
use Rattle.std.proofs.Common.{◌≡◌, refl, sym, ap, ◌∙◌, ℕ, Bool, true, false, not, cond, ◌||◌, List, [], ◌∷◌, ◌++◌, Option, Some, None, Ok}
use Rattle.std.proofs.lemmas.Bool.{or_parts}
use Rattle.std.specs.Prelude.{flat_map, nat_eq, unwrap_or}
use Rattle.ftp_events.specs.Session.{live_sessions}
use Rattle.std.specs.Option.{option_and_then, option_map, option_or}
use Rattle.std.specs.HashMap as map
use Rattle.ftp_hub.proofs.Common.{Action, Answer, Decision, Entry, EventKind, Hub, IpAddr, Options, Pending, Running, Session, Stands, Ticket, V4, acts, decide, holder, is_refusal, is_used, named_session, new_number, past_of, running_job, session, session_acts, starting}
use Rattle.ftp_base.specs.declared.command.DataChanCmd.{DataChanCmd}
use Rattle.ftp_base.specs.declared.net.IpAddr.TheVariants.{V6}
use Rattle.ftp_base.specs.Net.{is_v6}
use Rattle.ftp_base.specs.declared.notice.Notice.{Notice}
use Rattle.ftp_base.specs.declared.reply.Reply.{Reply}
use Rattle.ftp_base.specs.declared.reply.Reply.TheVariants as reply
use Rattle.ftp_options.specs.Modes.{is_control_port, is_pooled, is_proxy}
use Rattle.ftp_transfer.specs.declared.job.Job.{Job}
use Rattle.ftp_events.specs.declared.action.Action.TheVariants as action
use Rattle.ftp_events.specs.declared.decision.Decision.TheVariants as decision
use Rattle.ftp_events.specs.declared.event.Answer.TheVariants.{Header}
use Rattle.ftp_events.specs.declared.event.EventKind.TheVariants as kind
use Rattle.ftp_events.specs.declared.session.Slot.{Slot}
use Rattle.ftp_events.specs.declared.session.Slot.TheVariants.{Empty, Waits, Linked}
use Rattle.ftp_events.specs.Acts.{acts_for, cancellations, closings, completions, cuttings, drop_acts, farewells, link_in, notice_and_reply, notice_for, notifications, presence_for, refused_link, reply_acts, start_acts, stays}
use Rattle.ftp_events.specs.Board.{Target, holder_of_target}
use Rattle.ftp_events.specs.Classes.{is_ending}
use Rattle.ftp_events.specs.ConnectionRows.{arrival_row, header_row}
use Rattle.ftp_events.specs.Log.{is_stopped}
use Rattle.ftp_events.specs.Decide.{due}
use Rattle.ftp_laws.proofs.Cases.{by_completion, by_test}
use Rattle.ftp_laws.proofs.AfterLemmas.{stopped-over}
use Rattle.ftp_events.specs.History.{All, Nobody, One, subject, meant}
use Rattle.ftp_events.specs.Login.{logged_user, login_by}
use Rattle.ftp_events.specs.Reply.{delay_of, message_for, reply_for}
use Rattle.ftp_events.specs.Slot.{asked_command, drops, startable, with_link}
use Rattle.ftp_events.specs.Transfer.{pending_of}
use Rattle.ftp_laws.proofs.ClassLemmas.{stop-is}
use Rattle.ftp_laws.proofs.SubjectLemmas.{all-stop, one-meant, by_subject}
use Rattle.ftp_handlers.specs.Handlers.{asked_for}
use Rattle.ftp_hub.specs.Stands.{pending_for}
use Rattle.ftp_hub.proofs.Clients.{header-counts, row-counts}
use Rattle.ftp_hub.specs.Twin.{arrival_holder, can_start, concerned_in, first_start, job_at, started_for, started_job, subject_in, waiting_in}

-- where no value comes of any, none comes
none-after : {A B : Type 0} (f : A → Option B) → ((y : A) → f y ≡ None) → (x : Option A) → option_and_then f x ≡ None
none-after f none None = refl
none-after f none (Some y) = none y

-- it is the same whether the transfer is looked at first, or what starts
pub start-either : (x : Option Pending) (at : Option (Ticket × ℕ)) → option_and_then (λ a. option_map (λ p. job_at p a) x) at ≡ option_and_then (λ p. option_map (job_at p) at) x
start-either None None = refl
start-either None (Some a) = refl
start-either (Some p) None = refl
start-either (Some p) (Some a) = refl

-- the first start is among the first actions, or else among the others
first-append : (xs ys : List Action) → first_start (xs ++ ys) ≡ option_or (first_start xs) (first_start ys)
first-append [] ys = refl
first-append (action.Start t n ∷ xs) ys = refl
first-append (a ∷ xs) ys = first-append xs ys

first-completions : (s : ℕ) (k : EventKind) (d : Decision) (b : Bool) (job : Option Running) → first_start (completions s k d b job) ≡ None
first-completions s k d b job =
    by_completion (λ xs. first_start xs ≡ None) s k d b job refl (λ t x y. refl) (λ r x y. first-cut b r)
  where
    first-cut : (b : Bool) (r : Running) → first_start (cuttings s b (Some r)) ≡ None
    first-cut true r = refl
    first-cut false r = refl

first-cancellations : (s : ℕ) (b : Bool) (p : Option Pending) → first_start (cancellations s b p) ≡ None
first-cancellations s b None = refl
first-cancellations s true (Some p) = refl
first-cancellations s false (Some p) = refl

first-closings : (n : Option ℕ) → first_start (closings n) ≡ None
first-closings None = refl
first-closings (Some n) = refl

first-drop_acts : (s : ℕ) (b : Bool) (d : Decision) (slot : Slot) (p : Option Pending) → first_start (drop_acts s b d slot p) ≡ None
first-drop_acts s b d slot p = go (drops d slot)
  where
    go : (c : Bool) → first_start (cond c (cancellations s b p ++ closings (link_in slot)) []) ≡ None
    go true = first-append (cancellations s b p) (closings (link_in slot)) ∙ rw (first-cancellations s b p, first-closings (link_in slot)) refl
    go false = refl

first-refused : (k : EventKind) (d : Decision) → first_start (refused_link k d) ≡ None
first-refused k decision.Turned = first-closings (new_number k decision.Turned)
first-refused k (decision.HeaderFault fault) = first-closings (new_number k (decision.HeaderFault fault))
first-refused k d = refl

first-notifications : (s : ℕ) (v : Session) (user : List ℕ) (what : Option Notice) → first_start (notifications s v user what) ≡ None
first-notifications s v user None = refl
first-notifications s v user (Some what) = refl

first-reply_acts : (s delay : ℕ) (r : Reply) → first_start (reply_acts s delay r) ≡ None
first-reply_acts s delay reply.None = refl
first-reply_acts s delay (reply.CodeAndMsg c msg) = refl

first-told : (o : Options) (s : ℕ) (k : EventKind) (answer : Answer) (d : Decision) (job : Option Running) (v : Session) → first_start (notice_and_reply o s k answer d job v) ≡ None
first-told o s k answer d job v =
    let m = message_for v job k answer d in
    let user = logged_user (unwrap_or (login_by d) v.login) v.name in
    let what = notice_for m (presence_for d) in
    let r = reply_for o v m k d in
    first-append (notifications s v user what) (reply_acts s (delay_of d) r)
    ∙ ap (λ x. option_or x (first_start (reply_acts s (delay_of d) r))) (first-notifications s v user what)
    ∙ first-reply_acts s (delay_of d) r

first-farewells : (s : ℕ) (d : Decision) → first_start (farewells s d) ≡ None
first-farewells s d = go (is_ending d)
  where
    go : (c : Bool) → first_start (cond c (action.Close s ∷ []) []) ≡ None
    go true = refl
    go false = refl

-- the ticket and the link of a job
abbrev at_of : Running → Ticket × ℕ
at_of r = (r.job.ticket, r.job.number)

-- the job of what runs
abbrev job_in : Option Running → Option Job
job_in r = option_map (λ r. r.job) r

first-start_acts : (j : Option Running) → first_start (start_acts j) ≡ option_map at_of j
first-start_acts None = refl
first-start_acts (Some j) = refl

or-none : {A : Type 0} → (x : Option A) → option_or x None ≡ x
or-none None = refl
or-none (Some x) = refl

-- what starts among the actions of a live session
first-live : (o : Options) (s : ℕ) (k : EventKind) (answer : Answer) (d : Decision) (job : Option Running) (v : Session) → first_start (session_acts o s k answer d job (Some v)) ≡ option_map at_of (starting k d job v)
first-live o s k answer d job v =
    let c = completions s k d (stays d (Some v)) job in
    let l = drop_acts s (stays d (Some v)) d v.slot v.pending in
    let r = refused_link k d in
    let n = notice_and_reply o s k answer d job v in
    let b = start_acts (starting k d job v) in
    first-append (c ++ l ++ r ++ n ++ b) (farewells s d)
    ∙ ap (option_or (first_start (c ++ l ++ r ++ n ++ b))) (first-farewells s d)
    ∙ or-none (first_start (c ++ l ++ r ++ n ++ b))
    ∙ first-append (c ++ l ++ r ++ n) b
    ∙ ap (λ x. option_or x (first_start b)) (first-append (c ++ l ++ r) n ∙ ap (option_or (first_start (c ++ l ++ r))) (first-told o s k answer d job v) ∙ or-none (first_start (c ++ l ++ r))
    ∙ first-append (c ++ l) r ∙ ap (option_or (first_start (c ++ l))) (first-refused k d) ∙ or-none (first_start (c ++ l))
    ∙ first-append c l ∙ ap (option_or (first_start c)) (first-drop_acts s (stays d (Some v)) d v.slot v.pending) ∙ or-none (first_start c)
    ∙ first-completions s k d (stays d (Some v)) job)
    ∙ first-start_acts (starting k d job v)

-- nothing starts for a session that is not live
first-gone : (o : Options) (s : ℕ) (k : EventKind) (answer : Answer) (d : Decision) (job : Option Running) → first_start (session_acts o s k answer d job None) ≡ None
first-gone o s k answer d job =
    let c = completions s k d (stays d None) job in
    let l = drop_acts s (stays d None) d Empty None in
    let r = refused_link k d in
    first-append (c ++ l ++ r ++ [] ++ []) (farewells s d)
    ∙ ap (option_or (first_start (c ++ l ++ r ++ [] ++ []))) (first-farewells s d)
    ∙ or-none (first_start (c ++ l ++ r ++ [] ++ []))
    ∙ first-append (c ++ l ++ r ++ []) [] ∙ or-none (first_start (c ++ l ++ r ++ []))
    ∙ first-append (c ++ l ++ r) [] ∙ or-none (first_start (c ++ l ++ r))
    ∙ first-append (c ++ l) r ∙ ap (option_or (first_start (c ++ l))) (first-refused k d) ∙ or-none (first_start (c ++ l))
    ∙ first-append c l ∙ ap (option_or (first_start c)) (first-drop_acts s (stays d None) d Empty None) ∙ or-none (first_start c)
    ∙ first-completions s k d (stays d None) job

-- where nothing starts in any part, nothing starts
first-parts : (f : ℕ → List Action) (xs : List ℕ) → ((s : ℕ) → first_start (f s) ≡ None) → first_start (flat_map f xs) ≡ None
first-parts f [] none = refl
first-parts f (x ∷ xs) none = first-append (f x) (flat_map f xs) ∙ rw (none x, first-parts f xs none) refl

-- the job of a copy of the transfer, at what starts
abbrev job_from : Option Pending → Option (Ticket × ℕ) → Option Job
job_from p at = option_and_then (λ p. option_map (job_at p) at) p

-- a job that can start is that of the transfer in the slot
startable-is : (slot : Slot) (p : Option Pending) (job : Option Running) → job_from p (option_map at_of (startable slot p job)) ≡ job_in (startable slot p job)
startable-is (Linked n) (Some p) None = refl
startable-is (Linked n) (Some p) (Some j) = refl
startable-is (Linked n) None job = refl
startable-is Empty None job = refl
startable-is Empty (Some p) job = refl
startable-is (Waits port) None job = refl
startable-is (Waits port) (Some p) job = refl

-- or that of the transfer that is queued, whatever ticket the copy has
queued-is : (slot : Slot) (t u : Ticket) (user dir : List ℕ) (n : ℕ) (c : Option DataChanCmd) (job : Option Running) → job_from (option_map (pending_of u user dir n) c) (option_map at_of (startable slot (option_map (pending_of t user dir n) c) job)) ≡ job_in (startable slot (option_map (pending_of t user dir n) c) job)
queued-is (Linked m) t u user dir n (Some c) None = refl
queued-is (Linked m) t u user dir n (Some c) (Some j) = refl
queued-is (Linked m) t u user dir n None job = refl
queued-is Empty t u user dir n None job = refl
queued-is Empty t u user dir n (Some c) job = refl
queued-is (Waits port) t u user dir n None job = refl
queued-is (Waits port) t u user dir n (Some c) job = refl

starting-is : (k : EventKind) (d : Decision) (v : Session) (job : Option Running) → job_from (can_start d (asked_for k v) v.pending) (option_map at_of (starting k d job v)) ≡ job_in (starting k d job v)
starting-is k (decision.Attached s) v job = startable-is (with_link v.slot (new_number k (decision.Attached s))) v.pending job
starting-is k (decision.Queued t) v job = queued-is v.slot t _ _ v.cwd v.offset (asked_command k) job
starting-is k decision.Finished v job = startable-is v.slot v.pending None
starting-is k decision.Cut v job = startable-is v.slot v.pending None
starting-is k d v job = none-after (λ (p : Pending). option_map (job_at p) None) (λ p. refl) v.pending

-- the transfer that an event asks for, by the session that it is about
asked-none : (k : EventKind) (v : Option Session) → asked_command k ≡ None → option_and_then (asked_for k) v ≡ None
asked-none k None e = refl
asked-none k (Some v) e = rw e refl

asked-subject : (hub : Hub) (k : EventKind) (answer : Answer) → pending_for hub k ≡ option_and_then (asked_for k) (subject_in hub k answer)
asked-subject hub (kind.Proxied n raw trace) answer = sym (asked-none (kind.Proxied n raw trace) (subject_in hub (kind.Proxied n raw trace) answer) refl)
asked-subject hub (kind.DataIn n raw port) answer = sym (asked-none (kind.DataIn n raw port) (subject_in hub (kind.DataIn n raw port) answer) refl)
asked-subject hub k answer = refl

-- the session that holds what a connection comes for, by the tables
arrival-held :
    (hub : Hub) (log : List Entry) (client : IpAddr) (port : ℕ) → Stands hub log → is_v6 client ≡ false →
    arrival_holder hub client port ≡ holder hub.options (past_of log) client port
arrival-held hub log (V4 a) port st v4 = st.tables.holders a port
arrival-held hub log (V6 a) port st v4 = cc

-- where nobody holds a port, nobody does by the tables
nobody-held :
    (hub : Hub) (log : List Entry) (client : IpAddr) (port : ℕ) → Stands hub log →
    ((a : IpAddr) (p : ℕ) → holder hub.options (past_of log) a p ≡ None) →
    arrival_holder hub client port ≡ holder hub.options (past_of log) client port
nobody-held hub log (V4 a) port st nobody = st.tables.holders a port
nobody-held hub log (V6 a) port st nobody = sym (nobody (V6 a) port)

-- the session that an event is meant for, by the tables
concerned-by :
    (hub : Hub) (log : List Entry) (at : ℕ) (k : EventKind) (answer : Answer) → Stands hub log →
    (is_stopped (past_of log) ≡ true → (a : IpAddr) (p : ℕ) → holder hub.options (past_of log) a p ≡ None) →
    is_refusal (due hub.options (past_of log) at k answer) ≡ false →
    concerned_in hub k answer ≡ option_or (named_session k) (holder_of_target hub.options (past_of log) k answer)
concerned-by hub log at (kind.DataIn n raw port) answer st nobody counts =
    let o = hub.options in
    let past = past_of log in
    let placed = (row-counts (not (is_pooled o.mode) || is_v6 raw.ip) (is_used past n) (cond (is_stopped past) decision.Turned (arrival_row o past raw raw.ip port)) counts).0 in
    arrival-held hub log raw.ip port st (or_parts (not (is_pooled o.mode)) (is_v6 raw.ip) placed).1
concerned-by hub log at (kind.Proxied n raw trace) (Header (Ok line)) st nobody counts = by_port (is_control_port o.mode line.destination.port)
  where
    o : Options
    o = hub.options

    past : List Entry
    past = past_of log

    row : is_refusal (cond (is_stopped past) decision.Turned (header_row o past raw (Header (Ok line)))) ≡ false
    row = (row-counts (not (is_proxy o.mode) || is_v6 raw.ip) (is_used past n) (cond (is_stopped past) decision.Turned (header_row o past raw (Header (Ok line)))) counts).1

    v4 : is_stopped past ≡ false → (is_v6 line.source.ip || is_v6 line.destination.ip) ≡ false
    v4 going =
        header-counts (is_v6 line.source.ip || is_v6 line.destination.ip) (is_control_port o.mode line.destination.port)
        (arrival_row o past raw line.source.ip line.destination.port)
        (sym (ap (λ b. is_refusal (cond b decision.Turned (header_row o past raw (Header (Ok line))))) going) ∙ row)

    held : arrival_holder hub line.source.ip line.destination.port ≡ holder o past line.source.ip line.destination.port
    held =
        by_test (is_stopped past)
        (λ stopped. nobody-held hub log line.source.ip line.destination.port st (nobody stopped))
        (λ going. arrival-held hub log line.source.ip line.destination.port st (or_parts (is_v6 line.source.ip) (is_v6 line.destination.ip) (v4 going)).0)

    by_port :
        (c : Bool) →
        cond c None (arrival_holder hub line.source.ip line.destination.port) ≡
        option_and_then (λ (t : Target). holder o past t.client t.port) (cond c None (Some (record { client = line.source.ip; port = line.destination.port })))
    by_port true = refl
    by_port false = held
concerned-by hub log at k answer st nobody counts = refl

-- so is the one that an entry which counts is meant for
concerned-is : (hub : Hub) (log : List Entry) (e : Entry) → Stands hub log → e.decision ≡ decide hub.options log e.event e.answer → is_refusal e.decision ≡ false → concerned_in hub e.event.kind e.answer ≡ meant hub.options (past_of log) e
unfolding decide
concerned-is hub log e st due counts =
    concerned-by hub log e.event.at e.event.kind e.answer st (λ stopped. (stopped-over hub.options log st.right stopped).free) (sym (ap is_refusal due) ∙ counts)

-- the job of the copy is the job that starts
pub job-is :
    (hub : Hub) (log : List Entry) (e : Entry) → Stands hub log →
    e.decision ≡ decide hub.options log e.event e.answer →
    e.actions ≡ acts hub.options log e →
    option_and_then (λ p. option_map (job_at p) (first_start e.actions)) (can_start e.decision (pending_for hub e.event.kind) (waiting_in hub e.event.kind e.answer))
    ≡ started_job hub.options (past_of log) e
unfolding acts
job-is hub log e st due acted = go (is_refusal e.decision) refl
  where
    o : Options
    o = hub.options

    past : List Entry
    past = past_of log

    k : EventKind
    k = e.event.kind

    copied : Option Pending
    copied = can_start e.decision (pending_for hub k) (waiting_in hub k e.answer)

    live : (s : ℕ) → is_refusal e.decision ≡ false → subject o past e ≡ One s → (v : Option Session) → session o past s ≡ v → job_from copied (first_start e.actions) ≡ job_in (option_and_then (starting k e.decision (running_job o past s)) v)
    live s counts about None known =
        let done : e.actions ≡ session_acts o s k e.answer e.decision (running_job o past s) None = acted ∙ rw (counts, about, known) refl in
        ap (λ x. job_from copied (first_start x)) done
        ∙ ap (job_from copied) (first-gone o s k e.answer e.decision (running_job o past s))
        ∙ none-after (λ (p : Pending). option_map (job_at p) None) (λ p. refl) copied
    live s counts about (Some v) known =
        let done : e.actions ≡ session_acts o s k e.answer e.decision (running_job o past s) (Some v) = acted ∙ rw (counts, about, known) refl in
        let found : subject_in hub k e.answer ≡ Some v =
        ap (option_and_then (map.get nat_eq hub.sessions)) (concerned-is hub log e st due counts ∙ one-meant o past e s about) ∙ st.tables.sessions s ∙ known
        in
        let asked : pending_for hub k ≡ asked_for k v = asked-subject hub k e.answer ∙ ap (option_and_then (asked_for k)) found in
        let waits : waiting_in hub k e.answer ≡ v.pending = ap (option_and_then (λ (x : Session). x.pending)) found in
        ap (λ x. job_from copied (first_start x)) done
        ∙ ap (job_from copied) (first-live o s k e.answer e.decision (running_job o past s) v)
        ∙ ap (λ x. job_from (can_start e.decision x (waiting_in hub k e.answer)) (option_map at_of (starting k e.decision (running_job o past s) v))) asked
        ∙ ap (λ x. job_from (can_start e.decision (asked_for k v) x) (option_map at_of (starting k e.decision (running_job o past s) v))) waits
        ∙ starting-is k e.decision v (running_job o past s)

    nobody : is_refusal e.decision ≡ false → subject o past e ≡ Nobody → job_from copied (first_start e.actions) ≡ None
    nobody counts about =
        let done : e.actions ≡ refused_link k e.decision = acted ∙ rw (counts, about) refl in
        ap (λ x. job_from copied (first_start x)) done ∙ ap (job_from copied) (first-refused k e.decision) ∙ none-after (λ (p : Pending). option_map (job_at p) None) (λ p. refl) copied

    part : e.decision ≡ decision.Stopped → (s : ℕ) → first_start (acts_for o past e s) ≡ None
    part stopped s = go (session o past s)
      where
        go : (v : Option Session) → first_start (session_acts o s k e.answer e.decision (running_job o past s) v) ≡ None
        go None = first-gone o s k e.answer e.decision (running_job o past s)
        go (Some v) = first-live o s k e.answer e.decision (running_job o past s) v ∙ rw stopped refl

    all : is_refusal e.decision ≡ false → subject o past e ≡ All → job_from copied (first_start e.actions) ≡ None
    all counts about =
        let done : e.actions ≡ flat_map (acts_for o past e) (live_sessions o past) = acted ∙ rw (counts, about) refl in
        ap (λ x. job_from copied (first_start x)) done
        ∙ ap (job_from copied) (first-parts (acts_for o past e) (live_sessions o past) (part (stop-is e.decision (all-stop o past e about))))
        ∙ none-after (λ (p : Pending). option_map (job_at p) None) (λ p. refl) copied

    counting : is_refusal e.decision ≡ false → job_from copied (first_start e.actions) ≡ started_for o past e (subject o past e)
    counting counts =
        by_subject o past e
        (λ about. nobody counts about ∙ sym (ap (started_for o past e) about))
        (λ s about. live s counts about (session o past s) refl ∙ sym (ap (started_for o past e) about))
        (λ about. all counts about ∙ sym (ap (started_for o past e) about))

    go : (b : Bool) → is_refusal e.decision ≡ b → job_from copied (first_start e.actions) ≡ started_job o past e
    go true refused =
        let done : e.actions ≡ [] = acted ∙ rw refused refl in
        ap (λ x. job_from copied (first_start x)) done ∙ none-after (λ (p : Pending). option_map (job_at p) None) (λ p. refl) copied ∙ rw refused refl
    go false counts = counting counts ∙ rw counts refl
