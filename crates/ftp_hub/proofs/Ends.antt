-- The tables after transfers that are queued, after those that go on, and after those that end.
use Rattle.std.proofs.Common.{◌≡◌, refl, sym, ap, ◌∙◌, subst, ℕ, ◌+◌, Bool, true, false, cond, ◌&&◌, ◌||◌, List, ◌∷◌, Option, Some, None, Result, arith, eq-eqb, eqb-true}
use Rattle.std.specs.Prelude.{◌==◌, nat_eq}
use Rattle.std.specs.Option.{option_map, option_or}
use Rattle.std.specs.HashMap as map
use Rattle.std.proofs.lemmas.Option.{same_Some}
use Rattle.ftp_hub.proofs.Common.{Action, Answer, Decision, Entry, EventKind, Hub, HubEvent, Jobs, Options, Pending, Running, Serves, Session, Stands, Starts, Tables, Ticket, V4, acts, decide, entry, failures, failures_in, has, held_after, history, holder, holder_at, ipv4, is_used, job_ticket, kept_running, named_session, new_number, next_running, notices_of, past_of, running_after, running_job, session, session_acts, session_after, starting, stopped, waiting_port}
use Rattle.ftp_lockout.specs.Failures.{Table}
use Rattle.ftp_switchboard.specs.Board.{Board}
use Rattle.ftp_switchboard.specs.Used.{Used}
use Rattle.ftp_proxy.specs.declared.error.ProxyError.{ProxyError}
use Rattle.ftp_proxy.specs.declared.header.ProxyHeader.{ProxyHeader}
use Rattle.ftp_transfer.specs.declared.job.Job.{Job}
use Rattle.ftp_transfer.specs.declared.job.Outcome.{Outcome}
use Rattle.ftp_events.specs.declared.decision.Decision.TheVariants as decision
use Rattle.ftp_events.specs.declared.event.Answer.TheVariants as answer
use Rattle.ftp_events.specs.declared.event.EventKind.TheVariants as kind
use Rattle.ftp_events.specs.declared.session.Opening.{Opening}
use Rattle.ftp_events.specs.declared.session.Slot.TheVariants.{Empty}
use Rattle.ftp_events.specs.Acts.{acts_of, completions, stays}
use Rattle.ftp_events.specs.Classes.{slot_move}
use Rattle.ftp_events.specs.Decide.{due}
use Rattle.ftp_events.specs.Opening.{opener}
use Rattle.ftp_events.specs.History.{One, opens, concerns, subject}
use Rattle.ftp_events.specs.Log.{is_stopped}
use Rattle.ftp_events.specs.Running.{ended}
use Rattle.ftp_events.specs.Slot.{Lane, lane, moved, queued_in}
use Rattle.ftp_events.specs.Session.{life_by, is_live, session_by_history}
use Rattle.ftp_events.specs.CommandRows.{Around, is_logged_in, if_logged_in, can_queue, transfer_row, command_row}
use Rattle.ftp_events.specs.EndRows.{can_end, can_move, end_row, moved_row, outcome_row, piece_row, unless_marked}
use Rattle.ftp_events.specs.Transfer.{same_ticket}
use Rattle.ftp_events.specs.Words.{is_number, total}
use Rattle.ftp_laws.proofs.Cases.{job-named}
use Rattle.ftp_laws.proofs.QuestionLemmas.{counting-counts, history-own, running-other, session-other}
use Rattle.ftp_laws.proofs.LaneLemmas.{ended-empty}
use Rattle.ftp_laws.proofs.PortLemmas.{named-target}
use Rattle.ftp_laws.proofs.SubjectLemmas.{named-one, one-concerns}
use Rattle.ftp_laws.proofs.TableLemmas.{holder-named}
use Rattle.ftp_handlers.specs.Handlers.{is_auth, is_transfer}
use Rattle.ftp_hub.specs.Arrivals.{is_accepted}
use Rattle.ftp_hub.specs.Endings.{is_piece}
use Rattle.ftp_hub.proofs.Running.{count-start, running-acts}
use Rattle.ftp_hub.proofs.Decisions.{Comes, Passes}
use Rattle.ftp_hub.proofs.Commands.{IsPlain}
use Rattle.ftp_hub.proofs.Failures.{FailuresMoved, failures-stay}
use Rattle.ftp_hub.proofs.Moved.{Moved, Sessions, SessionsMoved}
use Rattle.ftp_hub.proofs.Named.{serves-named}
use Rattle.ftp_laws.proofs.LockoutLemmas.{failures-other, tells_failures}

-- ---- transfers that are queued

-- the row of a transfer is that of its session
pub transfer-row : (o : Options) (a : Around) (k : EventKind) (s : ℕ) (v : Session) → is_transfer k ≡ true → named_session k ≡ Some s → if_logged_in v (transfer_row s v) ≡ command_row o a k v
transfer-row o a (kind.Transfer q c') s v c n = ap (λ (x : ℕ). if_logged_in v (transfer_row x v)) (sym (same_Some _ _ n))
transfer-row o a (kind.Stou q word) s v c n = ap (λ (x : ℕ). if_logged_in v (transfer_row x v)) (sym (same_Some _ _ n))
transfer-row o a k s v c n = cc

-- it is plain
pub transfer-plain : (k : EventKind) → is_transfer k ≡ true → IsPlain k
transfer-plain (kind.End t) c = cc
transfer-plain (kind.Piece t) c = cc
transfer-plain (kind.Accepted s n raw) c = cc
transfer-plain k c = record { no_end = refl; no_link = refl }

-- a job may start with its decision
transfer-decides : (b c : Bool) (t : Ticket) → Comes (cond b (cond c (decision.Queued t) decision.NoSlot) decision.NotLoggedIn)
transfer-decides true true t = record { passes = record { counts = refl; plain = refl; unopened = λ k. refl; no_grant = refl; keeps = refl; lives = refl; as_many = λ n. refl }; silent = λ k answer. refl; unfinished = refl; kept = λ answer job. refl }
transfer-decides true false t = record { passes = record { counts = refl; plain = refl; unopened = λ k. refl; no_grant = refl; keeps = refl; lives = refl; as_many = λ n. refl }; silent = λ k answer. refl; unfinished = refl; kept = λ answer job. refl }
transfer-decides false c t = record { passes = record { counts = refl; plain = refl; unopened = λ k. refl; no_grant = refl; keeps = refl; lives = refl; as_many = λ n. refl }; silent = λ k answer. refl; unfinished = refl; kept = λ answer job. refl }

pub transfer-comes : (s : ℕ) (v : Session) (d : Decision) → d ≡ if_logged_in v (transfer_row s v) → Comes d
transfer-comes s v d e = subst Comes (sym e) (transfer-decides (is_logged_in v.login) (can_queue v.slot v.pending) (record { session = s; nr = v.tickets + 1 }))

-- ---- transfers that go on, and those that end

-- an event that tells of a job is its end, or a piece of it
pub by_telling : (P : EventKind → Type 0) (k : EventKind) (t : Ticket) → job_ticket k ≡ Some t → P (kind.End t) → P (kind.Piece t) → P k
by_telling P (kind.End u) t h e p = subst (λ (x : Ticket). P (kind.End x)) (sym (same_Some _ _ h)) e
by_telling P (kind.Piece u) t h e p = subst (λ (x : Ticket). P (kind.Piece x)) (sym (same_Some _ _ h)) p
by_telling P k t h e p = cc

-- so a piece is one of its ticket
pub piece-is : (k : EventKind) (t : Ticket) → is_piece k ≡ true → job_ticket k ≡ Some t → k ≡ kind.Piece t
piece-is (kind.Piece u) t p h = ap kind.Piece (same_Some _ _ h)
piece-is k t p h = cc

-- equal tickets are the same
same-ticket : (a b : Ticket) → a ≡ b → same_ticket a b ≡ true
same-ticket a b e = rw (eq-eqb a.session b.session (ap (λ (t : Ticket). t.session) e), eq-eqb a.nr b.nr (ap (λ (t : Ticket). t.nr) e)) refl

-- what is due of a job that is not to stop: on a piece of it, or on its end
abbrev pub row_of : EventKind → Job → Answer → Decision
row_of (kind.Piece t) job answer = moved_row job answer
row_of k job answer = outcome_row job answer

-- what is due on a piece or the end of a job
abbrev pub job_row : EventKind → Ticket → Answer → Option Running → Decision
job_row k t answer None = decision.UnknownNumber
job_row k t answer (Some r) = cond (same_ticket r.job.ticket t) (unless_marked r (row_of k r.job answer)) decision.UnknownNumber

-- it is due by the table of jobs
pub end-due : (hub : Hub) (log : List Entry) (event : HubEvent) (answer : Answer) (t : Ticket) (x : Option Running) → Stands hub log → job_ticket event.kind ≡ Some t → map.get nat_eq hub.jobs t.session ≡ x → decide hub.options log event answer ≡ job_row event.kind t answer x
unfolding decide
end-due hub log event answer t x st told there =
    by_telling (λ (k : EventKind). due o past event.at k answer ≡ job_row k t answer (running_job o past t.session)) event.kind t told
    (by_end (running_job o past t.session)) (by_piece (running_job o past t.session))
    ∙ ap (job_row event.kind t answer) (sym (st.tables.jobs t.session) ∙ there)
  where
    o : Options
    o = hub.options

    past : List Entry
    past = past_of log

    by_end : (x : Option Running) → end_row t answer x ≡ job_row (kind.End t) t answer x
    by_end None = refl
    by_end (Some r) = refl

    by_piece : (x : Option Running) → piece_row t answer x ≡ job_row (kind.Piece t) t answer x
    by_piece None = refl
    by_piece (Some r) = refl

-- a job that is not to stop is decided by its row
pub going-due :
    (hub : Hub) (log : List Entry) (event : HubEvent) (answer : Answer) (t : Ticket) (r : Running) →
    Stands hub log → job_ticket event.kind ≡ Some t → map.get nat_eq hub.jobs t.session ≡ Some r →
    same_ticket r.job.ticket t ≡ true → r.marked ≡ false →
    decide hub.options log event answer ≡ row_of event.kind r.job answer
going-due hub log event answer t r st told there same going =
    end-due hub log event answer t (Some r) st told there
    ∙ ap (λ b. cond b (unless_marked r (row_of event.kind r.job answer)) decision.UnknownNumber) same
    ∙ ap (λ b. cond b decision.Cut (row_of event.kind r.job answer)) going

-- the row of an outcome is the same for both
pub row-done : (k : EventKind) (job : Job) (outcome : Outcome) → row_of k job (answer.Done outcome) ≡ cond (can_end job outcome) decision.Finished decision.NotExpected
row-done (kind.Piece t) job outcome = refl
row-done k job outcome = refl

-- the end of a job is told by an outcome
pub row-unmoved : (k : EventKind) (job : Job) (bytes : ℕ) → is_piece k ≡ false → row_of k job (answer.Moved bytes) ≡ decision.NotExpected
row-unmoved (kind.Piece t) job bytes h = cc
row-unmoved k job bytes h = refl

-- a job that was not run neither goes on nor ends
pub row-unrun : (k : EventKind) (job : Job) → row_of k job answer.None ≡ decision.NotExpected
row-unrun (kind.Piece t) job = refl
row-unrun k job = refl

pub row-headed : (k : EventKind) (job : Job) (line : Result ProxyHeader ProxyError) → row_of k job (answer.Header line) ≡ decision.NotExpected
row-headed (kind.Piece t) job line = refl
row-headed k job line = refl

-- a job that runs ends with an outcome that it accepts
pub finish-due : (hub : Hub) (log : List Entry) (event : HubEvent) (outcome : Outcome) (t : Ticket) (r : Running) → Stands hub log → job_ticket event.kind ≡ Some t → map.get nat_eq hub.jobs t.session ≡ Some r → r.job.ticket ≡ t → r.marked ≡ false → can_end r.job outcome ≡ true → decision.Finished ≡ decide hub.options log event (answer.Done outcome)
finish-due hub log event outcome t r st told there same going fits =
    sym (going-due hub log event (answer.Done outcome) t r st told there (same-ticket r.job.ticket t same) going
    ∙ row-done event.kind r.job outcome
    ∙ ap (λ b. cond b decision.Finished decision.NotExpected) fits)

-- it goes on with a piece that it accepts
pub move-due : (hub : Hub) (log : List Entry) (event : HubEvent) (bytes : ℕ) (t : Ticket) (r : Running) → Stands hub log → event.kind ≡ kind.Piece t → map.get nat_eq hub.jobs t.session ≡ Some r → r.job.ticket ≡ t → r.marked ≡ false → can_move r.job bytes ≡ true → decision.Moved ≡ decide hub.options log event (answer.Moved bytes)
move-due hub log event bytes t r st is there same going fits =
    sym (going-due hub log event (answer.Moved bytes) t r st (ap job_ticket is) there (same-ticket r.job.ticket t same) going
    ∙ ap (λ (k : EventKind). row_of k r.job (answer.Moved bytes)) is
    ∙ ap (λ b. cond b decision.Moved decision.NotExpected) fits)

-- and where it is to stop it is cut
pub cut-due : (hub : Hub) (log : List Entry) (event : HubEvent) (given : Answer) (t : Ticket) (r : Running) → Stands hub log → job_ticket event.kind ≡ Some t → map.get nat_eq hub.jobs t.session ≡ Some r → r.job.ticket ≡ t → r.marked ≡ true → decision.Cut ≡ decide hub.options log event given
cut-due hub log event given t r st told there same stops =
    sym (end-due hub log event given t (Some r) st told there
    ∙ ap (λ b. cond b (unless_marked r (row_of event.kind r.job given)) decision.UnknownNumber) (same-ticket r.job.ticket t same)
    ∙ ap (λ b. cond b decision.Cut (row_of event.kind r.job given)) stops)

pub finished-passes : Passes decision.Finished
finished-passes = record { counts = refl; plain = refl; unopened = λ k. refl; no_grant = refl; keeps = refl; lives = refl; as_many = λ n. refl }

pub moved-passes : Passes decision.Moved
moved-passes = record { counts = refl; plain = refl; unopened = λ k. refl; no_grant = refl; keeps = refl; lives = refl; as_many = λ n. refl }

pub cut-passes : Passes decision.Cut
cut-passes = record { counts = refl; plain = refl; unopened = λ k. refl; no_grant = refl; keeps = refl; lives = refl; as_many = λ n. refl }

-- a session that is not live stays so
lost-session : (o : Options) (past : List Entry) (e : Entry) (s : ℕ) → opens e s ≡ false → concerns o past e s ≡ true → life_by e.decision ≡ None → session o past s ≡ None → session o (e ∷ past) s ≡ None
lost-session o past e s n c life none = rw (n, c, life) (go (is_live (history o past s)) (opener past s) none)
  where
    go : (b : Bool) (opening : Option Opening) → cond b (option_map (session_by_history s (history o past s)) opening) None ≡ None → cond b (option_map (session_by_history s (e ∷ history o past s)) opening) None ≡ None
    go true None h = refl
    go true (Some opening) h = cc
    go false opening h = refl

-- the tables after a piece or the end of a transfer whose session has ended: its slot is empty, and nothing starts
pub serves-lost :
    (old new : Hub) (log : List Entry) (event : HubEvent) (given : Answer) (d : Decision) (done : List Action) (t : Ticket) (r : Running) (after : Option Running) →
    Stands old log → Passes d → job_ticket event.kind ≡ Some t →
    map.get nat_eq old.jobs t.session ≡ Some r → map.get nat_eq old.sessions t.session ≡ None →
    d ≡ decide old.options log event given →
    done ≡ session_acts old.options t.session event.kind given d (Some r) None →
    ((number : Option ℕ) (queued : Option Pending) (l : Lane) → l.slot ≡ Empty → l.running ≡ Some r → kept_running d given (moved (slot_move d) number queued l).running ≡ after) →
    new.options ≡ old.options → new.sessions ≡ old.sessions →
    ((q : ℕ) → map.get nat_eq new.jobs q ≡ cond (t.session == q) after (map.get nat_eq old.jobs q)) →
    (map.hash_map_len new.jobs ≡ running_after d done (map.hash_map_len old.jobs)) →
    new.numbers ≡ old.numbers → new.board ≡ old.board → new.failures ≡ old.failures → new.stopped ≡ old.stopped →
    Serves old new log event given d done
unfolding acts
serves-lost old new log event given d done t r after st passes told there none right completes goes same sessions jobs as_many numbers board failed stopped =
    record {
      decision = right;
      done = completes ∙ sym due_acts;
      tables = subst (Tables new) (sym (counting-counts e log passes.counts)) (record {
        sessions = λ q.
            ap (λ (m : Sessions). map.get nat_eq m q) sessions ∙ st.tables.sessions q
            ∙ sym (session_then q (t.session == q) refl)
            ∙ ap (λ (o : Options). session o (e ∷ past) q) (sym same);
        live = ap map.hash_map_len sessions ∙ st.tables.live ∙ sym (passes.as_many _);
        jobs = λ q. jobs q ∙ job_then q (t.session == q) refl ∙ ap (λ (o : Options). running_job o (e ∷ past) q) (sym same);
        running = as_many ∙ ap (running_after d done) st.tables.running;
        numbers = λ q.
            ap (λ (x : Used). has x q) numbers ∙ st.tables.numbers q
            ∙ sym (ap (λ (n : Option ℕ). is_number n q || is_used past q) (by_telling (λ (k : EventKind). new_number k d ≡ None) event.kind t told refl refl));
        holders = λ a p.
            ap (λ (x : Board). holder_at x a p) board ∙ st.tables.holders a p
            ∙ sym (holder-named o past e t.session (V4 a) p (record { plain = passes.plain; named = named; no_target = named-target o event.kind given t.session named }) passes.no_grant
            ∙ ap (λ b. cond (b && is_number (holder o past (V4 a) p) t.session) None (holder o past (V4 a) p)) passes.keeps)
            ∙ ap (λ (o : Options). holder o (e ∷ past) (V4 a) p) (sym same);
        failures = λ key.
            ap (λ (x : Option Table). failures_in x key) failed ∙ st.tables.failures key
            ∙ sym (failures-other o past e key (by_telling (λ (k : EventKind). tells_failures k ≡ false) event.kind t told refl refl))
            ∙ ap (λ (o : Options). failures o (e ∷ past) key) (sym same);
        stopped = stopped ∙ st.tables.stopped ∙ sym (ap (λ b. b || is_stopped past) passes.plain);
      });
    }
  where
    o : Options
    o = old.options

    past : List Entry
    past = past_of log

    e : Entry
    e = entry event given d done

    named : named_session event.kind ≡ Some t.session
    named = job-named event.kind t told

    about : subject o past e ≡ One t.session
    about = named-one o past e t.session passes.plain named

    gone : session o past t.session ≡ None
    gone = sym (st.tables.sessions t.session) ∙ none

    ran : running_job o past t.session ≡ Some r
    ran = sym (st.tables.jobs t.session) ∙ there

    due_acts : acts_of o past e ≡ session_acts o t.session event.kind given d (Some r) None
    due_acts = rw (passes.counts, about, gone, ran) refl

    unopened : (q : ℕ) → opens e q ≡ false
    unopened q = rw (passes.unopened event.kind) refl

    concerned : (q : ℕ) → concerns o past e q ≡ (t.session == q)
    concerned q = one-concerns o past e t.session q about

    own : concerns o past e t.session ≡ true
    own = concerned t.session ∙ eq-eqb t.session t.session refl

    session_then : (q : ℕ) (b : Bool) → (t.session == q) ≡ b → session o (e ∷ past) q ≡ session o past q
    session_then q true h =
        let same_number : t.session ≡ q = eqb-true t.session q h in
        subst (λ (n : ℕ). session o (e ∷ past) n ≡ session o past n) same_number
        (lost-session o past e t.session (unopened t.session) own passes.lives gone ∙ sym gone)
    session_then q false h = session-other o past e q (unopened q) (concerned q ∙ h)

    job_then : (q : ℕ) (b : Bool) → (t.session == q) ≡ b → cond b after (map.get nat_eq old.jobs q) ≡ running_job o (e ∷ past) q
    job_then q true h =
        let same_number : t.session ≡ q = eqb-true t.session q h in
        let bare = ended-empty o log t.session st.right gone in
        let before : List Entry = history o past t.session in
        subst (λ (n : ℕ). after ≡ running_job o (e ∷ past) n) same_number
        (sym (ap (λ l. (lane l).running) (history-own o past e t.session (unopened t.session) own)
        ∙ goes (new_number event.kind d) (queued_in before e) (lane before) bare.0 ran))
    job_then q false h = st.tables.jobs q ∙ sym (running-other o past e q (unopened q) (concerned q ∙ h))

-- the jobs after the end of a transfer of a live session, behind which another may start
jobs-finished :
    (old taken new : Jobs) (s q : ℕ) (k : EventKind) (given : Answer) (d : Decision) (job : Running) (v : Session) →
    option_or (starting k d (Some job) v) None ≡ next_running k given d (Some job) v →
    ((n : ℕ) → map.get nat_eq taken n ≡ cond (s == n) None (map.get nat_eq old n)) → Starts taken new s (starting k d (Some job) v) →
    map.get nat_eq new q ≡ cond (s == q) (next_running k given d (Some job) v) (map.get nat_eq old q)
jobs-finished old taken new s q k given d job v ends took begins =
    begins.jobs q ∙ ap (λ (x : Option Running). cond (s == q) (option_or begun x) x) (took q) ∙ go (s == q)
  where
    begun : Option Running
    begun = starting k d (Some job) v

    go : (b : Bool) → cond b (option_or begun (cond b None (map.get nat_eq old q))) (cond b None (map.get nat_eq old q)) ≡ cond b (next_running k given d (Some job) v) (map.get nat_eq old q)
    go true = ends
    go false = refl

-- and how many run
running-finished :
    (o : Options) (s : ℕ) (k : EventKind) (given : Answer) (d : Decision) (job : Running) (v : Session) (old taken new : Jobs) →
    stopped d + total ended (completions s k d (stays d (Some v)) (Some job)) ≡ 1 →
    map.hash_map_len taken + 1 ≡ map.hash_map_len old → Starts taken new s (starting k d (Some job) v) →
    map.hash_map_len new ≡ running_after d (session_acts o s k given d (Some job) (Some v)) (map.hash_map_len old)
running-finished o s k given d job v old taken new one fewer begins =
    omega (arith, begins.len, fewer, one, running-acts o s k given d (Some job) v (map.hash_map_len old), count-start (starting k d (Some job) v))

-- what is the same on a piece as at the end of a job is that of the end of its ticket
as-told : {A : Type 0} (f : Ticket → EventKind → A) (k : EventKind) (t u : Ticket) → u ≡ t → job_ticket k ≡ Some t → f t (kind.End t) ≡ f t (kind.Piece t) → f u (kind.End u) ≡ f t k
as-told f k t u same told both =
    ap (λ (x : Ticket). f x (kind.End x)) same ∙ by_telling (λ (x : EventKind). f t (kind.End t) ≡ f t x) k t told refl both

-- the tables after a piece or the end of a transfer of a live session
pub serves-told :
    (old new : Hub) (log : List Entry) (event : HubEvent) (given : Answer) (d : Decision) (done : List Action) (t : Ticket) (v after : Session) →
    Stands old log → Passes d → job_ticket event.kind ≡ Some t → map.get nat_eq old.sessions t.session ≡ Some v →
    d ≡ decide old.options log event given →
    done ≡ session_acts old.options t.session event.kind given d (map.get nat_eq old.jobs t.session) (Some v) →
    Moved old new event given d done t.session v after →
    ((client waited : Option ℕ) (a p : ℕ) (before : Option ℕ) → held_after d t.session client waited a p before ≡ before) →
    new.numbers ≡ old.numbers → new.board ≡ old.board → new.failures ≡ old.failures → new.stopped ≡ old.stopped →
    Serves old new log event given d done
serves-told old new log event given d done t v after st passes told there right acts moved holds numbers board failed stopped =
    serves-named old new log event given d done t.session v after st (job-named event.kind t told)
    (by_telling (λ (k : EventKind). is_accepted k ≡ false) event.kind t told refl refl) passes.counts
    (sym (st.tables.sessions t.session) ∙ there) right acts
    (record {
      moved = moved;
      numbers = λ q.
          ap (λ (x : Used). has x q) numbers
          ∙ ap (λ (n : Option ℕ). is_number n q || has old.numbers q) (sym (by_telling (λ (k : EventKind). new_number k d ≡ None) event.kind t told refl refl));
      holders = λ shared a p. same_board a p ∙ sym (holds (ipv4 v.opening.client) (waiting_port v.slot) a p (holder_at old.board a p));
      alone = λ alone. same_board;
      failures = subst (λ (x : Option Table). FailuresMoved old x event v) (sym failed) (failures-stay old event v unsaid);
      stopped = stopped;
    })
    (λ said.
    let clash : true ≡ false = sym said ∙ unsaid in
    cc)
  where
    unsaid : is_auth event.kind ≡ false
    unsaid = by_telling (λ (k : EventKind). is_auth k ≡ false) event.kind t told refl refl

    same_board : (a p : ℕ) → holder_at new.board a p ≡ holder_at old.board a p
    same_board a p = ap (λ (x : Board). holder_at x a p) board

-- the tables after the end of a transfer of a live session, behind which another may start: it is told as by the end of its ticket
pub serves-ended :
    (old new : Hub) (log : List Entry) (event : HubEvent) (given : Answer) (d : Decision) (done : List Action) (t : Ticket) (job : Running) (v after : Session) (taken : Jobs) →
    Stands old log → Passes d → job_ticket event.kind ≡ Some t →
    map.get nat_eq old.jobs t.session ≡ Some job → map.get nat_eq old.sessions t.session ≡ Some v → job.job.ticket ≡ t →
    d ≡ decide old.options log event given →
    done ≡ session_acts old.options job.job.ticket.session (kind.End job.job.ticket) given d (Some job) (Some v) →
    session_acts old.options t.session (kind.End t) given d (Some job) (Some v) ≡ session_acts old.options t.session (kind.Piece t) given d (Some job) (Some v) →
    after ≡ session_after event.at (kind.End job.job.ticket) given d (notices_of (kind.End job.job.ticket) d given) (Some job) v →
    session_after event.at (kind.End t) given d (notices_of (kind.End t) d given) (Some job) v ≡ session_after event.at (kind.Piece t) given d (notices_of (kind.Piece t) d given) (Some job) v →
    SessionsMoved old.sessions new.sessions d t.session after →
    ((n : ℕ) → map.get nat_eq taken n ≡ cond (t.session == n) None (map.get nat_eq old.jobs n)) → map.hash_map_len taken + 1 ≡ map.hash_map_len old.jobs →
    Starts taken new.jobs job.job.ticket.session (starting (kind.End job.job.ticket) d (Some job) v) →
    starting (kind.End job.job.ticket) d (Some job) v ≡ starting event.kind d (Some job) v →
    option_or (starting event.kind d (Some job) v) None ≡ next_running event.kind given d (Some job) v →
    stopped d + total ended (completions t.session event.kind d (stays d (Some v)) (Some job)) ≡ 1 →
    ((client waited : Option ℕ) (a p : ℕ) (before : Option ℕ) → held_after d t.session client waited a p before ≡ before) →
    new.options ≡ old.options → new.numbers ≡ old.numbers → new.board ≡ old.board → new.failures ≡ old.failures → new.stopped ≡ old.stopped →
    Serves old new log event given d done
serves-ended old new log event given d done t job v after taken st passes told there_job there same right acts acts_alike session session_alike sessions took fewer begins begun ends one holds options numbers board failed stopped =
    serves-told old new log event given d done t v after st passes told there right
    (own_acts ∙ ap (λ (x : Option Running). session_acts old.options t.session event.kind given d x (Some v)) (sym there_job))
    (record {
      options = options;
      session =
          session
          ∙ as-told (λ (x : Ticket) (k : EventKind). session_after event.at k given d (notices_of k d given) (Some job) v) event.kind t job.job.ticket same told session_alike
          ∙ ap (λ (x : Option Running). session_after event.at event.kind given d (notices_of event.kind d given) x v) (sym there_job);
      sessions = sessions;
      jobs = record {
        table = λ q.
            jobs-finished old.jobs taken new.jobs t.session q event.kind given d job v ends took starts
            ∙ ap (λ (x : Option Running). cond (t.session == q) (next_running event.kind given d x v) (map.get nat_eq old.jobs q)) (sym there_job);
        running =
            running-finished old.options t.session event.kind given d job v old.jobs taken new.jobs one fewer starts
            ∙ ap (λ xs. running_after d xs (map.hash_map_len old.jobs)) (sym own_acts);
      };
    })
    holds numbers board failed stopped
  where
    own_acts : done ≡ session_acts old.options t.session event.kind given d (Some job) (Some v)
    own_acts = acts ∙ as-told (λ (x : Ticket) (k : EventKind). session_acts old.options x.session k given d (Some job) (Some v)) event.kind t job.job.ticket same told acts_alike

    starts : Starts taken new.jobs t.session (starting event.kind d (Some job) v)
    starts = subst (λ (x : Ticket). Starts taken new.jobs x.session (starting event.kind d (Some job) v)) same (subst (Starts taken new.jobs job.job.ticket.session) begun begins)
