-- A session and a job that runs have their links.
use Rattle.std.proofs.Common.{◌≡◌, refl, sym, ap, ◌∙◌, subst, ℕ, Bool, true, false, not, cond, ◌&&◌, ◌||◌, List, [], ◌∷◌, Option, Some, None}
use Rattle.std.specs.Prelude.{OnSome, is_some, nat_eq}
use Rattle.std.proofs.lemmas.Bool.{or_parts}
use Rattle.std.proofs.lemmas.Option.{same_Some}
use Rattle.std.specs.FinMap as table
use Rattle.std.specs.Ordering.{nat_cmp, eq_by_cmp}
use Rattle.std.specs.Cmp.{nat_cmp_total}
use Rattle.std.specs.HashMap as map
use Rattle.std.specs.Option.{option_and_then, option_map_or}
use Rattle.ftp_hub.proofs.Common.{Answer, Decision, Entry, EventKind, Hub, has, IsRight, Options, Pending, Running, Session, Stands, Ticket, decide, history, is_linked, is_used, job_ticket, kept_running, new_number, past_of, running_job, session}
use Rattle.ftp_base.specs.LinkTable.{Numbered}
use Rattle.ftp_base.specs.declared.net.SocketAddr.{SocketAddr}
use Rattle.ftp_base.specs.Net.{is_v6}
use Rattle.ftp_options.specs.Modes.{is_pooled, is_proxy}
use Rattle.ftp_transfer.specs.declared.job.Job.{Job}
use Rattle.ftp_events.specs.declared.decision.Decision.TheVariants as decision
use Rattle.ftp_events.specs.declared.event.EventKind.TheVariants as kind
use Rattle.ftp_events.specs.declared.session.Slot.{Slot}
use Rattle.ftp_events.specs.declared.session.Slot.TheVariants.{Empty, Waits, Linked}
use Rattle.ftp_events.specs.Covers.{link_number, is_covered}
use Rattle.ftp_events.specs.Leads.{HasLinks, header_to_read, job_of_ticket}
use Rattle.ftp_events.specs.Transfer.{same_ticket}
use Rattle.ftp_events.specs.Acts.{link_in, slot_of}
use Rattle.ftp_events.specs.Slot.{Lane, drops, lane, lane_of, lane_after, queued_in, with_link}
use Rattle.ftp_events.specs.Log.{is_stopped}
use Rattle.ftp_events.specs.Decide.{due}
use Rattle.ftp_laws.proofs.EntryLemmas.{past-more, history-more}
use Rattle.ftp_laws.proofs.KeptLemmas.{kept-same}
use Rattle.ftp_laws.proofs.LaneLemmas.{ended-empty}
use Rattle.ftp_laws.proofs.LinkLemmas.{is_attached}
use Rattle.ftp_laws.proofs.QuestionLemmas.{session-told}
use Rattle.ftp_hub.specs.Runs.{has_link_of, job_due}
use Rattle.ftp_hub.specs.Stands.{header_for, job_for}

-- the link of a job
abbrev link_at : Option Running → Option ℕ
link_at None = None
link_at (Some r) = Some r.job.number

-- the link of a slot and that of a job are among those that are linked
record AreLinked (linked : ℕ → Bool) (l : Lane) : Type 0 where
  slot : (n : ℕ) → link_in l.slot ≡ Some n → linked n ≡ true
  running : (n : ℕ) → link_at l.running ≡ Some n → linked n ≡ true

-- a job that starts has the link of its slot
lane_of-linked :
    (linked : ℕ → Bool) (slot : Slot) (pending : Option Pending) (running : Option Running) →
    ((n : ℕ) → link_in slot ≡ Some n → linked n ≡ true) →
    ((n : ℕ) → link_at running ≡ Some n → linked n ≡ true) →
    AreLinked linked (lane_of slot pending running)
lane_of-linked linked Empty pending running s r = record { slot = s; running = r }
lane_of-linked linked (Waits port) pending running s r = record { slot = s; running = r }
lane_of-linked linked (Linked m) None running s r = record { slot = s; running = r }
lane_of-linked linked (Linked m) (Some p) None s r = record { slot = λ n x. cc; running = λ n x. s n x }
lane_of-linked linked (Linked m) (Some p) (Some job) s r = record { slot = s; running = r }

-- a link comes for a slot with a connection
with_link-linked :
    (linked : ℕ → Bool) (slot : Slot) (number : Option ℕ) →
    ((n : ℕ) → number ≡ Some n → linked n ≡ true) →
    ((n : ℕ) → link_in slot ≡ Some n → linked n ≡ true) →
    (n : ℕ) → link_in (with_link slot number) ≡ Some n → linked n ≡ true
with_link-linked linked (Waits port) (Some m) came s n x = came n x
with_link-linked linked (Waits port) None came s n x = s n x
with_link-linked linked Empty number came s n x = s n x
with_link-linked linked (Linked m) number came s n x = s n x

-- a slot that is dropped has no link
dropped-linked :
    (linked : ℕ → Bool) (b : Bool) (l : Lane) → AreLinked linked l →
    AreLinked linked (record { slot = cond b Empty l.slot; pending = cond b None l.pending; running = l.running })
dropped-linked linked true l h = record { slot = λ n x. cc; running = h.running }
dropped-linked linked false l h = h

-- so it is with a connection that was made
made-linked :
    (linked : ℕ → Bool) (number : Option ℕ) → ((n : ℕ) → number ≡ Some n → linked n ≡ true) →
    (n : ℕ) → link_in (option_map_or Linked number Empty) ≡ Some n → linked n ≡ true
made-linked linked None came n x = cc
made-linked linked (Some m) came n x = came n x

-- so it is after each entry whose connection is linked
lane_after-linked :
    (linked : ℕ → Bool) (k : EventKind) (d : Decision) (queued : Option Pending) (l : Lane) →
    (is_attached d ≡ true → (n : ℕ) → new_number k d ≡ Some n → linked n ≡ true) →
    AreLinked linked l →
    AreLinked linked (lane_after k d queued l)
lane_after-linked linked k (decision.Granted port) queued l came h = record { slot = λ n x. cc; running = h.running }
lane_after-linked linked k decision.PortOk queued l came h = record { slot = made-linked linked (new_number k decision.PortOk) (came refl); running = h.running }
lane_after-linked linked k (decision.Attached q) queued l came h =
    lane_of-linked linked (with_link l.slot (new_number k (decision.Attached q))) l.pending l.running
    (with_link-linked linked l.slot (new_number k (decision.Attached q)) (came refl) h.slot)
    h.running
lane_after-linked linked k (decision.Queued t) queued l came h = lane_of-linked linked l.slot queued l.running h.slot h.running
lane_after-linked linked k decision.Finished queued l came h = lane_of-linked linked l.slot l.pending None h.slot (λ n x. cc)
lane_after-linked linked k decision.Cut queued l came h = lane_of-linked linked l.slot l.pending None h.slot (λ n x. cc)
lane_after-linked linked k d queued l came h = dropped-linked linked (drops d l.slot) l h

-- a job that is marked or counted keeps its link
kept-linked :
    (linked : ℕ → Bool) (d : Decision) (given : Answer) (l : Lane) → AreLinked linked l →
    AreLinked linked (record { slot = l.slot; pending = l.pending; running = kept_running d given l.running })
kept-linked linked d given l h = record { slot = h.slot; running = λ n x. by_job (kept_running d given l.running) refl n x }
  where
    by_job : (j : Option Running) → kept_running d given l.running ≡ j → (n : ℕ) → link_at j ≡ Some n → linked n ≡ true
    by_job None is n x = cc
    by_job (Some j) is n x =
        let was = kept-same d given l.running j is in
        h.running n (ap link_at was.1 ∙ ap (λ (job : Job). Some job.number) was.2 ∙ x)

-- no control connection is attached
connect-attaches : (misplaced used stopped : Bool) → is_attached (cond misplaced decision.Misplaced (cond used decision.UsedNumber (cond stopped decision.Turned decision.Opened))) ≡ false
connect-attaches true used stopped = refl
connect-attaches false true stopped = refl
connect-attaches false false true = refl
connect-attaches false false false = refl

-- what is attached, or taken for a PORT, is the connection that comes with the event
attached-link : (o : Options) (past : List Entry) (at : ℕ) (k : EventKind) (answer : Answer) (d : Decision) (n : ℕ) → d ≡ due o past at k answer → is_attached d ≡ true → new_number k d ≡ Some n → link_number k ≡ Some n
attached-link o past at (kind.Proxied m raw trace) answer d n is t e = e
attached-link o past at (kind.DataIn m raw port) answer d n is t e = e
attached-link o past at (kind.Accepted s m raw) answer d n is t e = e
attached-link o past at (kind.Port s text m) answer decision.PortOk n is t e = e
attached-link o past at (kind.Connect s raw local trace) answer d n is t e =
    let none : is_attached d ≡ false = ap is_attached is ∙ connect-attaches (is_proxy o.mode || (is_pooled o.mode && (is_v6 raw.ip || is_v6 local.ip))) (is_used past s) (is_stopped past) in
    let clash : true ≡ false = sym t ∙ none in
    cc
attached-link o past at k answer d n is t e = cc

-- where each session and each job has its link, so has what each history tells
lane-linked :
    {L : Type 0} (o : Options) (log : List Entry) (s : ℕ) (links : Numbered L) →
    IsRight o log → HasLinks o (past_of log) links →
    AreLinked (is_linked links) (lane (history o (past_of log) s))
lane-linked o log s links r has =
    record { slot = by_session (session o past s) refl; running = by_job (running_job o past s) refl }
  where
    past : List Entry
    past = past_of log

    by_session :
        (v : Option Session) → session o past s ≡ v →
        (n : ℕ) → link_in (lane (history o past s)).slot ≡ Some n → is_linked links n ≡ true
    by_session None x n h =
        let z : None ≡ Some n = sym (ap link_in (ended-empty o log s r x).0) ∙ h in
        cc
    by_session (Some v) x n h =
        let told = session-told o past s v x in
        has.slots s n (rw x (sym (ap (λ (w : Session). link_in w.slot) told.told) ∙ h))

    by_job :
        (job : Option Running) → running_job o past s ≡ job →
        (n : ℕ) → link_at (running_job o past s) ≡ Some n → is_linked links n ≡ true
    by_job None x n h =
        let z : None ≡ Some n = sym (ap link_at x) ∙ h in
        cc
    by_job (Some job) x n h =
        subst (λ (m : ℕ). is_linked links m ≡ true) (same_Some _ _ (sym (ap link_at x) ∙ h)) (has.jobs s job x)

-- and the other way round
lane-has :
    {L : Type 0} (o : Options) (past : List Entry) (links : Numbered L) →
    ((s : ℕ) → AreLinked (is_linked links) (lane (history o past s))) →
    HasLinks o past links
lane-has o past links h =
    record {
      slots = λ s n x. by_session s (session o past s) refl n x;
      jobs = λ s r x. (h s).running r.job.number (ap link_at x);
    }
  where
    by_session :
        (s : ℕ) (v : Option Session) → session o past s ≡ v →
        (n : ℕ) → link_in (slot_of v) ≡ Some n → is_linked links n ≡ true
    by_session s None x n i = cc
    by_session s (Some v) x n i =
        (h s).slot n (ap (λ (w : Session). link_in w.slot) (session-told o past s v x).told ∙ i)

-- each session and each job still has its link after an event that is covered
pub links-more :
    {L : Type 0} (o : Options) (e : Entry) (log : List Entry) (old new : Numbered L) →
    IsRight o (e ∷ log) → HasLinks o (past_of log) old →
    is_covered (is_linked old) e.event.kind ≡ true →
    ((n : ℕ) → is_linked old n ≡ true → is_linked new n ≡ true) →
    HasLinks o (past_of (e ∷ log)) new
unfolding decide
links-more o e log old new r has covered keeps =
    past-more (λ past. HasLinks o past new) e log
    (lane-has o past new before)
    (λ counts. lane-has o (e ∷ past) new after)
  where
    past : List Entry
    past = past_of log

    before : (s : ℕ) → AreLinked (is_linked new) (lane (history o past s))
    before s =
        let was = lane-linked o log s old r.0 has in
        record { slot = λ n x. keeps n (was.slot n x); running = λ n x. keeps n (was.running n x) }

    came : is_attached e.decision ≡ true → (n : ℕ) → new_number e.event.kind e.decision ≡ Some n → is_linked new n ≡ true
    came takes n x =
        let link = attached-link o past e.event.at e.event.kind e.answer e.decision n r.1 takes x in
        keeps n (sym (ap (λ (number : Option ℕ). option_map_or (is_linked old) number true) link) ∙ covered)

    after : (s : ℕ) → AreLinked (is_linked new) (lane (history o (e ∷ past) s))
    after s =
        history-more (λ h. AreLinked (is_linked new) (lane h)) o past e s
        (λ n.
        kept-linked (is_linked new) e.decision e.answer (lane_after e.event.kind e.decision (queued_in [] e) (lane []))
        (lane_after-linked (is_linked new) e.event.kind e.decision (queued_in [] e) (lane []) came
        (record { slot = λ m x. cc; running = λ m x. cc })))
        (λ c.
        kept-linked (is_linked new) e.decision e.answer (lane_after e.event.kind e.decision (queued_in (history o past s) e) (lane (history o past s)))
        (lane_after-linked (is_linked new) e.event.kind e.decision (queued_in (history o past s) e) (lane (history o past s)) came
        (before s)))
        (before s)

-- under the same options
pub has_links-under :
    {L : Type 0} (o same : Options) (past : List Entry) (links : Numbered L) →
    o ≡ same → HasLinks o past links → HasLinks same past links
has_links-under o same past links e has = subst (λ (x : Options). HasLinks x past links) e has

-- a link in place of another leaves every number its link
pub insert-linked : {L : Type 0} (old : Numbered L) (number n : ℕ) (link : L) → is_linked old n ≡ true → is_linked (table.insert old number link) n ≡ true
insert-linked {L} old number n link has = ap is_some (table.get-insert nat_cmp_total old number link n) ∙ go (eq_by_cmp nat_cmp n number)
  where
    go : (b : Bool) → is_some (cond b (Some link) (table.get old n)) ≡ true
    go true = refl
    go false = has

-- what holds of a link that was lent
pub lent-so : {A : Type 0} {P : Type 0} (lent : Option A) (x : A) → lent ≡ Some x → OnSome lent P → P
lent-so {A} {P} lent x is holds = subst (λ (l : Option A). OnSome l P) is holds

-- one that is given back leaves every number its link
pub lent-linked : {L : Type 0} (old new : Numbered L) (number n : ℕ) (after : L) → new ≡ table.insert old number after → is_linked old n ≡ true → is_linked new n ≡ true
lent-linked old new number n after is has = ap (λ links. is_linked links n) is ∙ insert-linked old number n after has

-- the header to be read is that by the hub's tables
pub header-due :
    (hub : Hub) (log : List Entry) (k : EventKind) →
    Stands hub log → header_to_read hub.options (past_of log) k ≡ header_for hub k
header-due hub log (kind.Proxied n raw trace) st =
    ap (λ b. cond (((not (is_proxy hub.options.mode) || is_v6 raw.ip) || b) || is_stopped (past_of log)) None (Some n)) (sym (st.tables.numbers n))
    ∙ ap (λ b. cond (((not (is_proxy hub.options.mode) || is_v6 raw.ip) || has hub.numbers n) || b) None (Some n)) (sym st.tables.stopped)
header-due hub log k st = refl

-- a header is read behind a proxy of version 4, for a number that was not used, where there was no stop
pub header-parts :
    (hub : Hub) (n trace : ℕ) (raw : SocketAddr) → is_some (header_for hub (kind.Proxied n raw trace)) ≡ true →
    ((not (is_proxy hub.options.mode) || is_v6 raw.ip) ≡ false) × (has hub.numbers n ≡ false) × (hub.stopped ≡ false)
header-parts hub n trace raw read =
    (first.0, first.1, both.1)
  where
    strange : Bool
    strange = not (is_proxy hub.options.mode) || is_v6 raw.ip

    go : (b : Bool) → is_some (cond b None (Some n)) ≡ true → b ≡ false
    go true h = cc
    go false h = refl

    both : ((strange || has hub.numbers n) ≡ false) × (hub.stopped ≡ false)
    both = or_parts (strange || has hub.numbers n) hub.stopped (go ((strange || has hub.numbers n) || hub.stopped) read)

    first : (strange ≡ false) × (has hub.numbers n ≡ false)
    first = or_parts strange (has hub.numbers n) both.0

-- and it is that of the connection that comes with the event
pub header-number :
    (hub : Hub) (k : EventKind) (n : ℕ) → is_some (header_for hub k) ≡ true → link_number k ≡ Some n → header_for hub k ≡ Some n
header-number hub (kind.Proxied m raw trace) n read link =
    let parts = header-parts hub m trace raw read in
    rw (parts.0, parts.1, parts.2) link
header-number hub k n read link = cc

-- the job to be run is that of the hub's table
pub job-due :
    (hub : Hub) (log : List Entry) (k : EventKind) (taken : Option Job) →
    Stands hub log → taken ≡ job_for hub k →
    job_due hub.options (past_of log) k ≡ taken
job-due hub log k taken st is = by_ticket (job_ticket k) ∙ sym is
  where
    by_ticket :
        (t : Option Ticket) →
        option_and_then (λ (t : Ticket). job_of_ticket (running_job hub.options (past_of log) t.session) t) t
        ≡ option_and_then (λ (t : Ticket). job_of_ticket (map.get nat_eq hub.jobs t.session) t) t
    by_ticket None = refl
    by_ticket (Some t) = ap (λ (x : Option Running). job_of_ticket x t) (sym (st.tables.jobs t.session))

-- the job of a ticket runs
ticket-runs : (x : Option Running) (t : Ticket) (job : Job) → job_of_ticket x t ≡ Some job → (r : Running) × (x ≡ Some r) × (r.job ≡ job)
ticket-runs None t job h = cc
ticket-runs (Some r) t job h = go (same_ticket r.job.ticket t && not r.marked) h
  where
    go : (b : Bool) → cond b (Some r.job) None ≡ Some job → (u : Running) × (Some r ≡ Some u) × (u.job ≡ job)
    go true e = (r, refl, same_Some _ _ e)
    go false e = cc

-- where each running job has its link, so has the one that is to be run
pub has_link_of-due :
    {L : Type 0} (o : Options) (past : List Entry) (k : EventKind) (links : Numbered L) →
    HasLinks o past links →
    has_link_of links (job_due o past k) ≡ true
has_link_of-due o past k links has = by_ticket (job_ticket k)
  where
    by_job :
        (t : Ticket) (job : Option Job) → job_of_ticket (running_job o past t.session) t ≡ job →
        has_link_of links job ≡ true
    by_job t None runs = refl
    by_job t (Some job) runs =
        let x = ticket-runs (running_job o past t.session) t job runs in
        subst (λ (i : Job). is_linked links i.number ≡ true) x.2 (has.jobs t.session x.0 x.1)

    by_ticket :
        (t : Option Ticket) →
        has_link_of links (option_and_then (λ (t : Ticket). job_of_ticket (running_job o past t.session) t) t) ≡ true
    by_ticket None = refl
    by_ticket (Some t) = by_job t (job_of_ticket (running_job o past t.session) t) refl
