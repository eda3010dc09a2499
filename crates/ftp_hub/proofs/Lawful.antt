-- The state of a right and acted log gives cause to no refusal.
use Rattle.std.proofs.Common.{◌≡◌, refl, sym, ap, ◌∙◌, ℕ, ◌+◌, ◌≤◌, Bool, true, false, true≢false, not, ◌&&◌, ◌||◌, cond, List, [], ◌∷◌, length, Option, Some, None, inl, inr, arith}
use Rattle.std.specs.Prelude.{◌≢◌, count_by, is_some, nat_le, unwrap_or}
use Rattle.std.specs.List.{list_any}
use Rattle.std.specs.Option.{option_and_then, option_map_or}
use Rattle.std.proofs.lemmas.Bool.{and_parts, le-leb}
use Rattle.std.proofs.lemmas.List.Sums.{sum_by-cons}
use Rattle.std.proofs.lemmas.Option.{same_Some}
use Rattle.ftp_base.specs.Net.{is_v6, same_ip}
use Rattle.ftp_base.specs.declared.net.IpAddr.{IpAddr}
use Rattle.ftp_base.specs.declared.net.IpAddr.TheVariants.{V4, V6}
use Rattle.ftp_options.specs.declared.lockout.FailedLoginsPolicy.{FailedLoginsPolicy}
use Rattle.ftp_options.specs.Modes.{is_proxy}
use Rattle.ftp_lockout.specs.declared.cache.Failures.{Failures}
use Rattle.ftp_lockout.specs.declared.key.LoginKey.{LoginKey}
use Rattle.ftp_lockout.specs.Keys.{key_at}
use Rattle.ftp_lockout.proofs.KeyLemmas.{here-recorded, there-recorded}
use Rattle.ftp_switchboard.specs.Used.{is_used as is_in_lines}
use Rattle.ftp_events.specs.declared.action.Action.{Action}
use Rattle.ftp_events.specs.declared.action.Action.TheVariants as action
use Rattle.ftp_events.specs.declared.session.Login.{Login}
use Rattle.ftp_events.specs.declared.session.Login.TheVariants as login
use Rattle.ftp_events.specs.declared.session.Slot.{Slot}
use Rattle.ftp_events.specs.declared.session.Slot.TheVariants.{Empty, Waits, Linked}
use Rattle.ftp_events.specs.Acts.{link_in}
use Rattle.ftp_events.specs.CommandRows.{is_empty, is_logged_in}
use Rattle.ftp_events.specs.Lockout.{tally}
use Rattle.ftp_events.specs.Log.{is_stopped}
use Rattle.ftp_events.specs.Modes.{in_range}
use Rattle.ftp_events.specs.Notices.{notice_count}
use Rattle.ftp_events.specs.Place.{ticket_count}
use Rattle.ftp_events.specs.Session.{session_by_history}
use Rattle.ftp_events.specs.Slot.{lane, startable, waiting_port}
use Rattle.ftp_laws.specs.Links.{start_count, starts_on}
use Rattle.ftp_laws.specs.Transfers.{starts_it, was_started}
use Rattle.ftp_laws.proofs.Cases.{by_test}
use Rattle.ftp_hub.proofs.Forms.{FitsMode, session-fits, session-named, slot-ranged, tally-v4}
use Rattle.ftp_laws.proofs.HoldEndLemmas.{on-waits}
use Rattle.ftp_laws.proofs.AfterLemmas.{stopped-over}
use Rattle.ftp_laws.proofs.HoldLemmas.{live-used, same_ip-refl}
use Rattle.ftp_laws.proofs.LinkLemmas.{taken-once}
use Rattle.ftp_laws.proofs.MannedLemmas.{IsManned, session-manned}
use Rattle.ftp_laws.proofs.PortLemmas.{waits-holds}
use Rattle.ftp_laws.proofs.QuestionLemmas.{session-told}
use Rattle.ftp_laws.proofs.RunningLemmas.{unused-idle}
use Rattle.ftp_laws.proofs.SoundLemmas.{sound}
use Rattle.ftp_laws.proofs.TransferLemmas.{running-queued, running-started}
use Rattle.ftp_hub.proofs.Common.{Entry, IsActed, IsRight, Options, Pending, Running, Session, Ticket, history, is_legacy, is_used, past_of, running_job, session}
use Rattle.ftp_hub.proofs.Counts.{notices-few, tickets-few}
use Rattle.ftp_hub.proofs.Recording.{all-made}
use Rattle.ftp_hub.proofs.Refusing.{both-hold, or-first, or-second, there-so}
use Rattle.ftp_hub.proofs.States.{waits-told}
use Rattle.ftp_hub.specs.declared.state.HubState.{HubState}
use Rattle.ftp_hub.specs.declared.state.StateError.{StateError}
use Rattle.ftp_hub.specs.declared.state.RecordLine.{RecordLine}
use Rattle.ftp_hub.specs.declared.state.StateError.TheVariants.{BadLine, Number, Port, Ticket as Tickets, Mode, Login as Early, OutOfMemory}
use Rattle.ftp_hub.specs.Refused.{HasCause, Known, WaitTwice, has_login, has_numbers, has_place, has_port, has_tickets, is_at_start, is_of_v6, job_lacks, known_of, session_lacks, ticket_fits}
use Rattle.ftp_hub.specs.State.{AreMadeBy, IsState, WaitsFor, WaitsIn, entries_of, failures_told, key_with, record_failures, record_key, recorded_in, running_in, session_in}

-- what passes a test does not fail it
not-both : (b : Bool) → b ≡ true → not b ≡ true → ⊥
not-both true h fails = true≢false (sym fails)
not-both false h fails = true≢false (sym h)

-- a start of a ticket on a link is a start on the link
start-counted : (t : Ticket) (n : ℕ) (a : Action) → starts_it t n a ≡ true → starts_on n a ≡ true
start-counted t n (action.Start ticket number) h = (and_parts _ _ h).1
start-counted t n a h = cc

-- the starts of an entry
starts-counted : (t : Ticket) (n : ℕ) (xs : List Action) → list_any (starts_it t n) xs ≡ true → 1 ≤ count_by (starts_on n) xs
starts-counted t n [] h = cc
starts-counted t n (a ∷ xs) h = go (starts_it t n a) refl (starts-counted t n xs) h
  where
    cons : count_by (starts_on n) (a ∷ xs) ≡ cond (starts_on n a) 1 0 + count_by (starts_on n) xs
    cons = sum_by-cons (λ x. cond (starts_on n x) 1 0) a xs

    go :
        (b : Bool) → starts_it t n a ≡ b → (list_any (starts_it t n) xs ≡ true → 1 ≤ count_by (starts_on n) xs) →
        (b || list_any (starts_it t n) xs) ≡ true → 1 ≤ count_by (starts_on n) (a ∷ xs)
    go true e rest h = omega (arith, cons, ap {B = ℕ} (λ b. cond b 1 0) (start-counted t n a e))
    go false e rest h = omega (arith, cons, rest h)

-- and those of a log
was-counted : (t : Ticket) (n : ℕ) (log : List Entry) → was_started t n log ≡ true → 1 ≤ start_count n log
was-counted t n [] h = cc
was-counted t n (e ∷ log) h = go (list_any (starts_it t n) e.actions) refl (was-counted t n log) h
  where
    go :
        (b : Bool) → list_any (starts_it t n) e.actions ≡ b → (was_started t n log ≡ true → 1 ≤ start_count n log) →
        (b || was_started t n log) ≡ true → 1 ≤ start_count n (e ∷ log)
    go true k rest h = omega (arith, starts-counted t n e.actions k)
    go false k rest h = omega (arith, rest h)

module _ (o : Options) (log : List Entry) (right : IsRight o log) (acted : IsActed o log) where
  abbrev past : List Entry
  past = past_of log

  -- what is known of a live session
  numbers-pass : (used : ℕ → Bool) (s : ℕ) (v : Session) → ((n : ℕ) → used n ≡ is_used past n) → session o past s ≡ Some v → has_numbers used s v ≡ true
  numbers-pass used s v same known =
      both-hold (used s) (option_map_or used (link_in v.slot) true) (same s ∙ live-used o past s v known) (go (link_in v.slot) refl)
    where
      link : link_in (lane (history o past s)).slot ≡ link_in v.slot
      link = ap (λ (w : Session). link_in w.slot) (session-told o past s v known).told

      go : (l : Option ℕ) → link_in v.slot ≡ l → option_map_or used l true ≡ true
      go None e = refl
      go (Some n) e = same n ∙ ((taken-once o log n right acted).linked s (link ∙ e)).0

  port-passes : (s : ℕ) (v : Session) → session o past s ≡ Some v → has_port o v ≡ true
  port-passes s v known = go v.slot refl
    where
      go : (k : Slot) → v.slot ≡ k → option_map_or (in_range o) (waiting_port k) true ≡ true
      go Empty e = refl
      go (Waits p) e = slot-ranged o log right s v p known e
      go (Linked n) e = refl

  counts-pass : (events s : ℕ) (v : Session) (job : Option Running) → length log ≤ events → job ≡ running_job o past s → session o past s ≡ Some v → has_tickets events job v ≡ true
  counts-pass events s v job few is known =
      both-hold _ _
      (both-hold (nat_le v.tickets events) (nat_le v.notices events)
      (le-leb v.tickets events (omega (arith, few, tickets, tickets-few o log s)))
      (le-leb v.notices events (omega (arith, few, notices, notices-few o log s right acted))))
      (both-hold _ _ (queued v.pending refl) (waits v.slot v.pending job refl refl is))
    where
      told : session_by_history s (history o past s) v.opening ≡ v
      told = (session-told o past s v known).told

      tickets : ticket_count (history o past s) ≡ v.tickets
      tickets = ap (λ (w : Session). w.tickets) told

      notices : notice_count s (history o past s) ≡ v.notices
      notices = ap (λ (w : Session). w.notices) told

      queued : (p : Option Pending) → v.pending ≡ p → option_map_or (λ (p : Pending). nat_le p.ticket.nr v.tickets) p true ≡ true
      queued None e = refl
      queued (Some p) e = le-leb p.ticket.nr v.tickets (omega (arith, ((sound o log s right).counted.waits p (ap (λ (w : Session). w.pending) told ∙ e)).1, tickets))

      waits : (k : Slot) (p : Option Pending) (j : Option Running) → v.slot ≡ k → v.pending ≡ p → j ≡ running_job o past s → not (is_some (startable k p j)) ≡ true
      waits Empty p j hk hp hj = refl
      waits (Waits q) p j hk hp hj = refl
      waits (Linked n) None j hk hp hj = refl
      waits (Linked n) (Some p) (Some r) hk hp hj = refl
      waits (Linked n) (Some p) None hk hp hj =
          absurd ((sound o log s right).behind n p (ap (λ (w : Session). w.slot) told ∙ hk) (ap (λ (w : Session). w.pending) told ∙ hp) (sym hj))

  place-passes : (s : ℕ) (v : Session) (stopped : Bool) → stopped ≡ is_stopped past → session o past s ≡ Some v → has_place o stopped v ≡ true
  place-passes s v stopped is known = both-hold _ _ going (both-hold _ _ addresses client)
    where
      fits : FitsMode o v.opening
      fits = session-fits o log right s v known

      going : not stopped ≡ true
      going = by_test (is_stopped past)
          (λ y. let none : None ≡ Some v = sym (stop-none y) ∙ known in absurd cc)
          (λ n. ap not (is ∙ n))
        where
          stop-none : is_stopped past ≡ true → session o past s ≡ None
          stop-none y = (stopped-over o log right y).ended s

      addresses : (is_legacy o.mode || not (is_v6 v.opening.raw.ip || (is_v6 v.opening.local.ip || is_v6 v.opening.client))) ≡ true
      addresses = by_test (is_legacy o.mode)
          (λ y. rw y refl)
          (λ n. rw (n, fits.raw_v4 n, fits.local_v4 n, fits.client_v4 n) refl)

      client : (is_proxy o.mode || same_ip v.opening.client v.opening.raw.ip) ≡ true
      client = by_test (is_proxy o.mode)
          (λ y. rw y refl)
          (λ n. rw (n, fits.client n) (same_ip-refl v.opening.raw.ip))

  login-passes : (s : ℕ) (v : Session) → session o past s ≡ Some v → has_login v ≡ true
  login-passes s v known = both-hold _ _ (slot v.slot v.pending refl refl) (name v.login v.name refl refl)
    where
      manned : IsManned v
      manned = session-manned o log right s v known

      logged : v.slot ≢ Empty → is_logged_in v.login ≡ true
      logged h = ap is_logged_in (manned.inside h)

      slot : (k : Slot) (p : Option Pending) → v.slot ≡ k → v.pending ≡ p → (is_logged_in v.login || (is_empty v.slot && not (is_some v.pending))) ≡ true
      slot Empty None hk hp = or-second (is_logged_in v.login) _ (rw (hk, hp) refl)
      slot Empty (Some p) hk hp = absurd (manned.placed p hp hk)
      slot (Waits q) p hk hp = or-first _ _ (logged (λ e. let z : Waits q ≡ Empty = sym hk ∙ e in cc))
      slot (Linked n) p hk hp = or-first _ _ (logged (λ e. let z : Linked n ≡ Empty = sym hk ∙ e in cc))

      name : (l : Login) (n : Option (List ℕ)) → v.login ≡ l → v.name ≡ n → (is_some v.name || is_at_start v.login) ≡ true
      name login.New n hl hn = or-second (is_some v.name) _ (ap is_at_start hl)
      name l (Some n) hl hn = or-first _ _ (ap is_some hn)
      name login.Named None hl hn = or-first _ _ (session-named o log right s v known (λ e. let z : login.Named ≡ login.New = sym hl ∙ e in cc))
      name login.Checking None hl hn = or-first _ _ (session-named o log right s v known (λ e. let z : login.Checking ≡ login.New = sym hl ∙ e in cc))
      name login.LoggedIn None hl hn = or-first _ _ (session-named o log right s v known (λ e. let z : login.LoggedIn ≡ login.New = sym hl ∙ e in cc))

  -- a job was started on its link, so that its number was used
  link-used : (s : ℕ) (r : Running) → running_job o past s ≡ Some r → is_used past r.job.number ≡ true
  link-used s r runs =
      by_test (is_used past r.job.number) (λ y. y)
      (λ n. absurd (omega (arith, (taken-once o log r.job.number right acted).fresh n, was-counted r.job.ticket r.job.number log ((running-started o log s r.job.number r right acted runs).1 refl))))

  job-passes-numbers : (used : ℕ → Bool) (s : ℕ) (r : Running) → ((n : ℕ) → used n ≡ is_used past n) → running_job o past s ≡ Some r → (used r.job.ticket.session && used r.job.number) ≡ true
  job-passes-numbers used s r same runs =
      both-hold (used r.job.ticket.session) (used r.job.number)
      (same r.job.ticket.session ∙ ap (is_used past) (running-queued o log s r right runs).0 ∙ live)
      (same r.job.number ∙ link-used s r runs)
    where
      live : is_used past s ≡ true
      live = by_test (is_used past s) (λ y. y) (λ n. let z : None ≡ Some r = sym (unused-idle o log s right n) ∙ runs in absurd cc)

  job-passes-ticket : (s : ℕ) (r : Running) (x : Option Session) → session o past s ≡ x → running_job o past s ≡ Some r → ticket_fits x r ≡ true
  job-passes-ticket s r None known runs = refl
  job-passes-ticket s r (Some v) known runs =
      let lane_sound = sound o log s right in
      let tickets : ticket_count (history o past s) ≡ v.tickets = ap (λ (w : Session). w.tickets) (session-told o past s v known).told in
      le-leb r.job.ticket.nr v.tickets (omega (arith, (lane_sound.counted.runs r runs).1, tickets))

  -- two sessions that wait for one port are one
  waits-one : (x : HubState) (a p s t : ℕ) → IsState o log x → is_legacy o.mode ≡ false → WaitsIn x s a p → WaitsIn x t a p → s ≡ t
  waits-one x a p s t is shared w u =
      same_Some s t
      (sym (waits-holds o log shared right (V4 a) p s (on-waits o past s (V4 a) p (waits-told o log x s a p is w)))
      ∙ waits-holds o log shared right (V4 a) p t (on-waits o past t (V4 a) p (waits-told o log x t a p is u)))

  -- no record is of version 6 where the sessions share the ports
  records-v4 : (x : HubState) (policy : Option FailedLoginsPolicy) → o.lockout ≡ policy → IsState o log x → AreMadeBy policy x.records → is_legacy o.mode ≡ false → list_any is_of_v6 x.records ≡ false
  records-v4 x None off is made shared = ap (list_any is_of_v6) made
  records-v4 x (Some policy) on is made shared = each x.records (λ key f found. (f, found))
    where
      told : (key : LoginKey) → recorded_in x.records key ≡ tally o policy past key
      told key =
          sym (ap (λ (ls : List RecordLine). recorded_in ls key) (all-made policy.block_by x.records made))
          ∙ sym (ap (λ (p : Option FailedLoginsPolicy). failures_told p x.records key) on)
          ∙ is.failures key
          ∙ ap (λ (p : Option FailedLoginsPolicy). option_and_then (λ p. tally o p past key) p) on

      line-v4 : (line : RecordLine) (f : Failures) → recorded_in x.records (record_key line) ≡ Some f → is_of_v6 line ≡ false
      line-v4 line f found = go line.ip refl
        where
          go : (ip : Option IpAddr) → line.ip ≡ ip → option_map_or is_v6 ip false ≡ false
          go None e = refl
          go (Some (V4 n)) e = refl
          go (Some (V6 n)) e =
              let key : record_key line ≡ key_at (V6 n) (unwrap_or line.user []) = ap (λ (i : Option IpAddr). key_with i (unwrap_or line.user [])) e in
              absurd (tally-v4 o policy log shared right (record_key line) f (sym (told (record_key line)) ∙ found) (ap (λ (k : LoginKey). k.version) key))

      each : (lines : List RecordLine) → ((key : LoginKey) (f : Failures) → recorded_in lines key ≡ Some f → (g : Failures) × (recorded_in x.records key ≡ Some g)) → list_any is_of_v6 lines ≡ false
      each [] there = refl
      each (line ∷ lines) there =
          let here = there (record_key line) (record_failures line) (here-recorded (record_key line, record_failures line) (entries_of lines)) in
          rw (line-v4 line here.0 here.1, each lines (λ key f found. let more = there-recorded (record_key line, record_failures line) (entries_of lines) key f found in there key more.0 more.1)) refl

  module _ (x : HubState) (is : IsState o log x) where
    abbrev known : Known
    known = known_of o x

    -- a session of the log lacks nothing
    session-passes : (e : StateError) (s : ℕ) (v : Session) → session_in x s ≡ Some v → session_lacks known e (running_in x s) s v ≡ true → ⊥
    session-passes e s v there = go e
      where
        live : session o past s ≡ Some v
        live = sym (is.sessions s) ∙ there

        go : (e : StateError) → session_lacks known e (running_in x s) s v ≡ true → ⊥
        go Number h = not-both _ (numbers-pass (is_in_lines x.used) s v is.numbers live) h
        go Port h = not-both _ (port-passes s v live) h
        go Tickets h = not-both _ (counts-pass x.events s v (running_in x s) is.events (is.jobs s) live) h
        go Mode h = not-both _ (place-passes s v x.stopped is.stopped live) h
        go Early h = not-both _ (login-passes s v live) h
        go (BadLine n) h = true≢false (sym h)
        go OutOfMemory h = true≢false (sym h)

    -- nor does a job
    job-passes : (e : StateError) (s : ℕ) (r : Running) → running_in x s ≡ Some r → job_lacks known e (session_in x s) r ≡ true → ⊥
    job-passes e s r there = go e
      where
        runs : running_job o past s ≡ Some r
        runs = sym (is.jobs s) ∙ there

        go : (e : StateError) → job_lacks known e (session_in x s) r ≡ true → ⊥
        go Number h = not-both _ (job-passes-numbers (is_in_lines x.used) s r is.numbers runs) h
        go Tickets h = not-both _ (job-passes-ticket s r (session_in x s) (sym (is.sessions s)) runs) h
        go Port h = true≢false (sym h)
        go Mode h = true≢false (sym h)
        go Early h = true≢false (sym h)
        go (BadLine n) h = true≢false (sym h)
        go OutOfMemory h = true≢false (sym h)

    -- and no two sessions wait for one port
    none-twice : is_legacy o.mode ≡ false → WaitTwice (session_in x) → ⊥
    none-twice shared w = go w.0 w.5 w.6
      where
        go : (client : IpAddr) → WaitsFor (session_in x w.2) client w.1 → WaitsFor (session_in x w.3) client w.1 → ⊥
        go (V4 a) here there = w.4 (waits-one x a w.1 w.2 w.3 is shared here there)
        go (V6 n) here there =
            true≢false
            (sym (ap is_v6 here.2)
            ∙ (session-fits o log right w.2 here.0 (sym (is.sessions w.2) ∙ here.1)).client_v4 shared)

-- the state of a right and acted log is refused for nothing
pub logs-pass :
    (o : Options) (log : List Entry) (x : HubState) (e : StateError) → IsRight o log → IsActed o log → IsState o log x →
    AreMadeBy o.lockout x.records → HasCause o x e → ⊥
logs-pass o log x e right acted is made (inl (inl h)) =
    let there = there-so (session_lacks (known_of o x) e (running_in x h.0) h.0) (session_in x h.0) h.1 in
    session-passes o log right acted x is e h.0 there.0 there.1 there.2
logs-pass o log x e right acted is made (inl (inr h)) =
    let there = there-so (job_lacks (known_of o x) e (session_in x h.0)) (running_in x h.0) h.1 in
    job-passes o log right acted x is e h.0 there.0 there.1 there.2
logs-pass o log x e right acted is made (inr (inl c)) =
    true≢false (sym c.2 ∙ records-v4 o log right acted x o.lockout refl is made c.1)
logs-pass o log x e right acted is made (inr (inr c)) = none-twice o log right acted x is c.1 c.2
