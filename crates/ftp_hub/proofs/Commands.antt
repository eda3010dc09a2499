-- The tables after a command of a session.
use Rattle.std.proofs.Common.{◌≡◌, refl, sym, ap, ◌∙◌, ℕ, ◌-◌, ◌^◌, ◌<◌, Bool, true, false, not, cond, ◌||◌, List, [], Option, Some, None, arith}
use Rattle.std.specs.Prelude.{◌==◌, is_some, nat_eq}
use Rattle.std.specs.Option.{option_and_then, option_map_or}
use Rattle.std.specs.HashMap as map
use Rattle.std.proofs.lemmas.Bool.{not-false, not-true}
use Rattle.ftp_hub.proofs.Common.{Action, Answer, Decision, Entry, EventKind, Hub, HubEvent, IpAddr, IsFew, LoginKey, Options, Running, Serves, Session, Stands, Tables, V4, decide, failures, failures_in, has, holder, holder_at, ipv4, is_legacy, is_refusal, is_used, live_after, named_session, new_number, past_of, running_job, session, session_acts, waiting_port}
use Rattle.ftp_events.specs.declared.decision.Decision.TheVariants as decision
use Rattle.ftp_events.specs.declared.event.EventKind.TheVariants as kind
use Rattle.ftp_base.specs.declared.net.IpAddr.TheVariants.{V6}
use Rattle.ftp_base.specs.declared.net.SocketAddr.{SocketAddr}
use Rattle.ftp_base.specs.Net.{same_ip}
use Rattle.ftp_lockout.specs.declared.cache.Failures.{Failures}
use Rattle.ftp_options.specs.Modes.{is_active_off}
use Rattle.ftp_switchboard.specs.Board.{holder_for}
use Rattle.ftp_events.specs.CommandRows.{Around, abor_row, address_row, command_row, if_logged_in, made_row}
use Rattle.ftp_events.specs.Decide.{around, can_stop, if_live, is_at_work, is_stoppable, due}
use Rattle.ftp_events.specs.Text.{port_target}
use Rattle.ftp_events.specs.Words.{is_number}
use Rattle.ftp_laws.proofs.Cases.{by_test}
use Rattle.ftp_handlers.specs.Handlers.{ends_session, held_for, is_abor, is_auth, is_checking, is_command, is_port, surroundings}
use Rattle.ftp_hub.specs.Arrivals.{is_accepted}
use Rattle.ftp_hub.specs.Stands.{stops_for, used_for}
use Rattle.ftp_laws.proofs.GrantLemmas.{holder-legacy}
use Rattle.ftp_hub.proofs.Clients.{client-v4}
use Rattle.ftp_hub.proofs.Failures.{failures-refused, said-refused}
use Rattle.ftp_hub.proofs.Refusals.{serves-refusal}
use Rattle.ftp_hub.proofs.Named.{few-counts, serves-named}
use Rattle.ftp_hub.proofs.Decisions.{put-back, refusal-leaves, refusal-unstopped}
use Rattle.ftp_hub.proofs.Moved.{Moved, MovedAlone, session-back, tables-lent}
use Rattle.ftp_hub.proofs.Running.{running-none}

-- the end of a transfer, or a piece of it
abbrev pub is_end : EventKind → Bool
is_end (kind.End t) = true
is_end (kind.Piece t) = true
is_end _ = false

-- an event of a session that is neither the end or a piece of a transfer nor a connection that comes to it
pub record IsPlain (k : EventKind) : Type 0 where
  pub no_end : is_end k ≡ false
  pub no_link : is_accepted k ≡ false

-- what is due on an event that names a session and is no end or piece of a transfer is the row of its command
due-row : (o : Options) (past : List Entry) (at : ℕ) (k : EventKind) (answer : Answer) (s : ℕ) → is_end k ≡ false → named_session k ≡ Some s → due o past at k answer ≡ if_live (option_and_then (session o past) (named_session k)) (λ v. command_row o (around o past at k v) k v)
due-row o past at (kind.Connect q raw local trace) answer s c n = cc
due-row o past at (kind.Proxied q raw trace) answer s c n = cc
due-row o past at (kind.DataIn q raw port) answer s c n = cc
due-row o past at (kind.End t) answer s c n = cc
due-row o past at (kind.Piece t) answer s c n = cc
due-row o past at kind.Sweep answer s c n = cc
due-row o past at kind.Scavenge answer s c n = cc
due-row o past at kind.Shutdown answer s c n = cc
due-row o past at k answer s c n = refl

-- so it is that of the session, where it is live
pub due-named : (o : Options) (past : List Entry) (at : ℕ) (k : EventKind) (answer : Answer) (s : ℕ) (x : Option Session) → is_end k ≡ false → named_session k ≡ Some s → session o past s ≡ x → due o past at k answer ≡ option_map_or (λ v. command_row o (around o past at k v) k v) x decision.UnknownNumber
due-named o past at k answer s x c n known =
    due-row o past at k answer s c n
    ∙ ap (λ (y : Option Session). if_live y (λ v. command_row o (around o past at k v) k v)) (ap (option_and_then (session o past)) n ∙ known)

-- the commands and the ends of sessions are plain
pub command-plain : (k : EventKind) → is_command k ≡ true → IsPlain k
command-plain (kind.End t) c = cc
command-plain (kind.Piece t) c = cc
command-plain (kind.Accepted s n raw) c = cc
command-plain _ c = record { no_end = refl; no_link = refl }

pub ending-plain : (k : EventKind) → ends_session k ≡ true → IsPlain k
ending-plain (kind.End t) c = cc
ending-plain (kind.Piece t) c = cc
ending-plain (kind.Accepted s n raw) c = cc
ending-plain _ c = record { no_end = refl; no_link = refl }

-- an event that names a session which is not live is refused
pub serves-unknown : (old new : Hub) (log : List Entry) (event : HubEvent) (answer : Answer) (done : List Action) (s : ℕ) → Stands old log → is_end event.kind ≡ false → named_session event.kind ≡ Some s → map.get nat_eq old.sessions s ≡ None → done ≡ [] → Tables new (past_of log) → Serves old new log event answer decision.UnknownNumber done
unfolding decide
serves-unknown old new log event answer done s st plain named none nothing tables =
    serves-refusal old new log event answer decision.UnknownNumber done st
    (sym (due-named old.options (past_of log) event.at event.kind answer s None plain named (sym (st.tables.sessions s) ∙ none))) refl nothing tables

-- and so is what a live session is refused: it was lent, and is as it was
pub serves-turned :
    (old new : Hub) (log : List Entry) (event : HubEvent) (answer : Answer) (d : Decision) (done : List Action) (s : ℕ) (v : Session) →
    Stands old log → is_end event.kind ≡ false → named_session event.kind ≡ Some s → map.get nat_eq old.sessions s ≡ Some v →
    d ≡ command_row old.options (around old.options (past_of log) event.at event.kind v) event.kind v → is_refusal d ≡ true → done ≡ [] →
    new.options ≡ old.options → ((q : ℕ) → map.get nat_eq new.sessions q ≡ cond (s == q) (Some v) (map.get nat_eq old.sessions q)) →
    map.hash_map_len new.sessions ≡ map.hash_map_len old.sessions →
    new.jobs ≡ old.jobs → new.numbers ≡ old.numbers → new.board ≡ old.board → new.failures ≡ old.failures → new.stopped ≡ old.stopped →
    Serves old new log event answer d done
unfolding decide
serves-turned old new log event answer d done s v st plain named there row refused nothing options table len jobs numbers board failed stopped =
    serves-refusal old new log event answer d done st
    (row ∙ sym (due-named old.options (past_of log) event.at event.kind answer s (Some v) plain named (sym (st.tables.sessions s) ∙ there))) refused nothing
    (tables-lent old new (past_of log) options (session-back old.sessions new.sessions s v there table) len jobs numbers board failed stopped st.tables)

-- a job of the session that is named runs by the table as by the log
pub at-work :
    (hub : Hub) (log : List Entry) (k : EventKind) (s : ℕ) → Stands hub log → named_session k ≡ Some s →
    is_at_work hub.options (past_of log) k ≡ is_some (map.get nat_eq hub.jobs s)
at-work hub log k s st named =
    ap (λ (n : Option ℕ). option_map_or (λ s. is_some (running_job hub.options (past_of log) s)) n false) named
    ∙ ap is_some (sym (st.tables.jobs s))

-- the board's holders of a client's ports are those of the log
held-same : (hub : Hub) (log : List Entry) (s : ℕ) (v : Session) → Stands hub log → session hub.options (past_of log) s ≡ Some v → held_for hub.board v ≡ holder hub.options (past_of log) v.opening.client
held-same hub log s v st known = λ i p. same p i
  where
    alone : (client : IpAddr) (p : ℕ) → is_legacy hub.options.mode ≡ true → holder_for hub.board (ipv4 client) p ≡ holder hub.options (past_of log) client p
    alone (V4 a) p m = st.tables.holders a p
    alone (V6 a) p m = sym (holder-legacy hub.options (past_of log) (V6 a) p m)

    same : (p : ℕ) → held_for hub.board v p ≡ holder hub.options (past_of log) v.opening.client p
    same p =
        by_test (is_legacy hub.options.mode) (alone v.opening.client p)
        (λ shared.
        let client = client-v4 hub.options log s v shared st.right known in
        ap (λ (x : IpAddr). holder_for hub.board (ipv4 x) p) client.1 ∙ st.tables.holders client.0 p
        ∙ ap (λ (x : IpAddr). holder hub.options (past_of log) x p) (sym client.1))

-- a connection that was made for a PORT is taken or refused alike by all that say the same of its number
made-same : (b : Bool) (used : ℕ → Bool) (number : Option ℕ) → b ≡ option_map_or used number false → made_row (λ n. b) number ≡ made_row used number
made-same b used None h = refl
made-same b used (Some n) h = ap (λ x. cond x decision.UsedNumber decision.PortOk) h

address-same : (used other : ℕ → Bool) (number : Option ℕ) (v : Session) (to : Option SocketAddr) → made_row used number ≡ made_row other number → address_row used number v to ≡ address_row other number v to
address-same used other number v None h = refl
address-same used other number v (Some to) h = ap (λ (d : Decision). cond (same_ip to.ip v.opening.raw.ip) d decision.OtherAddress) h

-- so is a command, and an ABOR stops a job alike by all that say the same of it
used-same :
    (o : Options) (holders : ℕ → Option ℕ) (failed : LoginKey → Option Failures) (b : Bool) (used : ℕ → Bool) (runs stops can : Bool) (at : ℕ) (hub : Hub) (k : EventKind) (v : Session) →
    is_accepted k ≡ false → (is_port k ≡ true → b ≡ used_for hub k) → (is_abor k ≡ true → stops ≡ can) → ((n : ℕ) → has hub.numbers n ≡ used n) →
    command_row o (record { holders = holders; failures = failed; used = λ n. b; runs = runs; can_stop = stops; at = at }) k v
    ≡ command_row o (record { holders = holders; failures = failed; used = used; runs = runs; can_stop = can; at = at }) k v
used-same o holders failed b used runs stops can at hub (kind.Accepted s n raw) v plain number stop numbers = cc
used-same o holders failed b used runs stops can at hub (kind.Port s text number) v plain same stop numbers =
    ap (λ (d : Decision). if_logged_in v (cond (is_active_off o.active_passive) decision.ModeOff d))
    (address-same (λ n. b) used number v (port_target text) (made-same b used number (same refl ∙ told number)))
  where
    told : (number : Option ℕ) → option_map_or (has hub.numbers) number false ≡ option_map_or used number false
    told None = refl
    told (Some n) = numbers n
used-same o holders failed b used runs stops can at hub (kind.Abor s) v plain number stop numbers =
    ap (λ (c : Bool). if_logged_in v (abor_row c v)) (stop refl)
used-same o holders failed b used runs stops can at hub k v plain number stop numbers = refl

-- whether a job is to stop is told by the hub's table as by the log
pub stops-due :
    (hub : Hub) (log : List Entry) (k : EventKind) → Stands hub log → is_abor k ≡ true →
    stops_for hub k ≡ can_stop hub.options (past_of log) k
stops-due hub log (kind.Abor s) st h = ap is_stoppable (st.tables.jobs s)
stops-due hub log k st h = cc

-- a command is decided by the hub's tables as by the log
pub row-same :
    (hub : Hub) (log : List Entry) (b stops : Bool) (at : ℕ) (k : EventKind) (s : ℕ) (v : Session) →
    Stands hub log → is_accepted k ≡ false → (is_port k ≡ true → b ≡ used_for hub k) → (is_abor k ≡ true → stops ≡ stops_for hub k) →
    session hub.options (past_of log) s ≡ Some v →
    command_row hub.options (surroundings hub.board hub.failures b (is_at_work hub.options (past_of log) k) stops at v) k v ≡ command_row hub.options (around hub.options (past_of log) at k v) k v
row-same hub log b stops at k s v st plain number stop known =
    used-same o (held_for hub.board v) (failures_in hub.failures) b (is_used past) runs stops can at hub k v plain number (λ abor. stop abor ∙ stops-due hub log k st abor) st.tables.numbers
    ∙ ap (λ (x : ℕ → Option ℕ). command_row o (record { holders = x; failures = failures_in hub.failures; used = is_used past; runs = runs; can_stop = can; at = at }) k v) (held-same hub log s v st known)
    ∙ ap (λ (x : LoginKey → Option Failures). command_row o (record { holders = holder o past v.opening.client; failures = x; used = is_used past; runs = runs; can_stop = can; at = at }) k v) (λ i key. st.tables.failures key i)
  where
    o : Options
    o = hub.options

    past : List Entry
    past = past_of log

    runs : Bool
    runs = is_at_work o past k

    can : Bool
    can = can_stop o past k

-- no command is decided as a piece that moved
pub command-unmoved : (o : Options) (a : Around) (k : EventKind) (v : Session) → command_row o a k v ≡ decision.Moved → ⊥
command-unmoved o a (kind.Abor s) v h = grind arith
command-unmoved o a k v h = grind arith

-- what was decided and done on a live session is what its row wants, and the tables moved so
pub record Handled (old new : Hub) (log : List Entry) (event : HubEvent) (answer : Answer) (d : Decision) (done : List Action) (s : ℕ) (v after : Session) : Type 0 where
  pub row : d ≡ command_row old.options (around old.options (past_of log) event.at event.kind v) event.kind v
  pub acts : done ≡ session_acts old.options s event.kind answer d (map.get nat_eq old.jobs s) (Some v)
  pub tables : MovedAlone old new event answer d done s v after

-- a command that is refused takes no number
refused-number : (k : EventKind) (d : Decision) (s : ℕ) → is_accepted k ≡ false → named_session k ≡ Some s → is_refusal d ≡ true → new_number k d ≡ None
refused-number (kind.Connect q raw local trace) d s c n r = cc
refused-number (kind.Proxied q raw trace) d s c n r = cc
refused-number (kind.DataIn q raw port) d s c n r = cc
refused-number (kind.Accepted q m raw) d s c n r = cc
refused-number (kind.Port q text number) decision.PortOk s c n r = cc
refused-number k d s c n r = refl

-- the tables after a command of a live session
pub serves-command :
    (old new : Hub) (log : List Entry) (event : HubEvent) (answer : Answer) (d : Decision) (done : List Action) (s : ℕ) (v after : Session) →
    Stands old log → old.count < 2 ^ 64 - 1 → IsPlain event.kind → named_session event.kind ≡ Some s → map.get nat_eq old.sessions s ≡ Some v →
    (IsFew v → Handled old new log event answer d done s v after) →
    Serves old new log event answer d done
unfolding decide
serves-command old new log event answer d done s v after st below plain named there handled = by_refusal (is_refusal d) refl
  where
    o : Options
    o = old.options

    past : List Entry
    past = past_of log

    known : session o past s ≡ Some v
    known = sym (st.tables.sessions s) ∙ there

    h : Handled old new log event answer d done s v after
    h = handled (few-counts old log s v st below known)

    right : d ≡ decide o log event answer
    right = h.row ∙ sym (due-named o past event.at event.kind answer s (Some v) plain.no_end named known)

    m : Moved old new event answer d done s v after
    m = h.tables.moved

    checked : (b : Bool) → is_refusal d ≡ b → is_auth event.kind ≡ true → b ≡ not (is_checking v.login)
    checked b r said = sym r ∙ ap is_refusal h.row ∙ said-refused o (around o past event.at event.kind v) event.kind v said

    by_refusal : (b : Bool) → is_refusal d ≡ b → Serves old new log event answer d done
    by_refusal false counts =
        serves-named old new log event answer d done s v after st named plain.no_link counts known right h.acts h.tables
        (λ said. not-false (is_checking v.login) (sym (checked false counts said)))
    by_refusal true refused =
        let leaves = refusal-leaves d refused in
        let nothing : done ≡ [] = h.acts ∙ leaves.acts o s event.kind answer (map.get nat_eq old.jobs s) v in
        serves-refusal old new log event answer d done st right refused nothing
        (record {
          sessions = λ q.
              m.sessions.table q
              ∙ ap (λ b. cond (s == q) (cond b (Some after) None) (map.get nat_eq old.sessions q)) leaves.lives
              ∙ ap (λ (x : Option Session). cond (s == q) x (map.get nat_eq old.sessions q)) (ap Some (m.session ∙ leaves.session event.at event.kind answer (map.get nat_eq old.jobs s) v) ∙ sym there)
              ∙ put-back (map.get nat_eq old.sessions) s q
              ∙ st.tables.sessions q
              ∙ ap (λ (o : Options). session o past q) (sym m.options);
          live = m.sessions.live ∙ unchanged d refused ∙ st.tables.live;
          jobs = λ q.
              m.jobs.table q
              ∙ ap (λ (x : Option Running). cond (s == q) x (map.get nat_eq old.jobs q)) (leaves.runs event.kind answer (map.get nat_eq old.jobs s) v)
              ∙ put-back (map.get nat_eq old.jobs) s q
              ∙ st.tables.jobs q
              ∙ ap (λ (o : Options). running_job o past q) (sym m.options);
          running = m.jobs.running ∙ running-none d done (map.hash_map_len old.jobs) (refusal-unstopped d refused) nothing ∙ st.tables.running;
          numbers = λ q.
              h.tables.numbers q
              ∙ ap (λ (n : Option ℕ). is_number n q || has old.numbers q) (refused-number event.kind d s plain.no_link named refused)
              ∙ st.tables.numbers q;
          holders = λ a p.
              by_test (is_legacy o.mode) (λ alone. h.tables.alone alone a p)
              (λ shared. h.tables.holders shared a p ∙ leaves.held s (ipv4 v.opening.client) (waiting_port v.slot) a p (holder_at old.board a p))
              ∙ st.tables.holders a p
              ∙ ap (λ (o : Options). holder o past (V4 a) p) (sym m.options);
          failures = λ key.
              failures-refused old new past event key v m.options h.tables.failures (st.tables.failures key) (λ said. not-true (is_checking v.login) (sym (checked true refused said)))
              ∙ ap (λ (o : Options). failures o past key) (sym m.options);
          stopped = h.tables.stopped ∙ st.tables.stopped;
        })
      where
        unchanged : (d : Decision) → is_refusal d ≡ true → live_after d (map.hash_map_len old.sessions) ≡ map.hash_map_len old.sessions
        unchanged decision.UnknownNumber r = refl
        unchanged decision.UsedNumber r = refl
        unchanged decision.Misplaced r = refl
        unchanged decision.NotExpected r = refl
        unchanged _ r = cc
