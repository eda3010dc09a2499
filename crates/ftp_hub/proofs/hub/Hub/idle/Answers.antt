use Rattle.std.proofs.Common.{◌≡◌, refl, sym, ap, ◌∙◌, subst, ℕ, ◌-◌, Bool, true, false, ◌||◌, List, [], Option, Some, cond}
use Rattle.std.specs.Prelude.{nat_eq, nat_lt}
use Rattle.std.specs.HashMap as map
use Rattle.ftp_hub.proofs.Common.{Answer, Decision, Entry, EventKind, Running, Session, has, held_after, holder_at, ipv4, kept_running, named_session, new_number, notices_of, past_of, session_acts, session_after, waiting_port}
use Rattle.ftp_events.specs.declared.decision.Decision.TheVariants as decision
use Rattle.ftp_events.specs.declared.event.EventKind.TheVariants as kind
use Rattle.ftp_events.specs.CommandRows.{command_row, idle_row, is_linked}
use Rattle.ftp_events.specs.Decide.{around, is_at_work}
use Rattle.ftp_events.specs.Words.{is_number}
use Rattle.ftp_handlers.specs.Handlers.{goes_on, is_auth, number_of}
use Rattle.ftp_hub.proofs.Commands.{IsPlain, at-work, serves-command, serves-unknown}
use Rattle.ftp_hub.proofs.Failures.{failures-stay}
use Rattle.ftp_hub.proofs.Moved.{Sessions, jobs-stay, sessions-stay, tables-lent}
use Rattle.ftp_hub.proofs.RowCases.{LivesOn, goes_on-lives}
use Rattle.ftp_hub.proofs.hub.Hub.idle.Goals as goal

-- a look at the idle time is plain
idle-plain : (k : EventKind) (n : ℕ) → k ≡ kind.IdleTick n → IsPlain k
idle-plain k n is = rw is (record { no_end = refl; no_link = refl })

-- but for the end the session goes on, sends no notice, and keeps what it holds and its job
record Stays (d : Decision) : Type 0 where
  goes : goes_on d ≡ true
  silent : (k : EventKind) (answer : Answer) → notices_of k d answer ≡ 0
  held : (s : ℕ) (client waited : Option ℕ) (a p : ℕ) (before : Option ℕ) → held_after d s client waited a p before ≡ before
  kept : (answer : Answer) (job : Option Running) → kept_running d answer job ≡ job

idle-stays : (early working : Bool) (d : Decision) → d ≡ cond early decision.Early (cond working decision.Waited decision.TimedOut) → (d ≡ decision.TimedOut → ⊥) → Stays d
idle-stays true working d is other = subst Stays (sym is) (record { goes = refl; silent = λ k answer. refl; held = λ s client waited a p before. refl; kept = λ answer job. refl })
idle-stays false true d is other = subst Stays (sym is) (record { goes = refl; silent = λ k answer. refl; held = λ s client waited a p before. refl; kept = λ answer job. refl })
idle-stays false false d is other = absurd (other is)

-- a session that is not live
pub returns-in_default-clause-serves : goal.returns-in_default-clause-serves
returns-in_default-clause-serves c log given st =
    serves-unknown c.args.self.now _ log c.args.event.now given _ c.args.number st (idle-plain _ _ c.requires.of_this_event).no_end (ap named_session c.requires.of_this_event) (sym c.in_default.ensures.value) c.requires.fits.ready.actions
    (tables-lent c.args.self.now _ (past_of log) refl (λ q. ap (λ (m : Sessions). map.get nat_eq m q) c.get_mut.follows.holds-at-none) (ap map.hash_map_len c.get_mut.follows.holds-at-none) refl refl refl refl refl st.tables)

-- a session that goes on
pub returns-clause-serves : goal.returns-clause-serves
returns-clause-serves c log given st =
    let hub = c.args.self.now in
    let o = hub.options in
    let k = c.args.event.now.kind in
    let is : k ≡ kind.IdleTick c.args.number = c.requires.of_this_event in
    let named : named_session k ≡ Some c.args.number = ap named_session is in
    let v : Session = c.in-Some.session.now in
    let d : Decision = c.idle_tick-decision.result in
    let past : List Entry = past_of log in
    let there : map.get nat_eq hub.sessions c.args.number ≡ Some v = sym c.in-Some.ensures.value in
    let job : Option Running = map.get nat_eq hub.jobs c.args.number in
    let lent = c.get_mut.follows.holds c.idle_tick-decision.new.session in
    let number : number_of k ≡ c.args.number = ap number_of is in
    let runs : is_at_work o past k ≡ c.contains_key-runs.result = at-work hub log k c.args.number st named ∙ sym c.contains_key-runs.ensures in
    let stays : Stays d =
    idle-stays (nat_lt (c.args.event.now.at - v.active_at) o.idle_ms) (c.contains_key-runs.result || is_linked v.slot) d c.idle_tick-decision.ensures.decision c.in_default-decision.not-TimedOut
    in
    let lives : LivesOn d = goes_on-lives d stays.goes in
    let acts : [] ≡ session_acts o c.args.number k given d job (Some v) =
    sym (ap (λ n. session_acts o n k given d job (Some v)) (sym number) ∙ c.idle_tick-decision.ensures.actions stays.goes given job)
    in
    let done = c.requires.fits.ready.actions ∙ acts in
    serves-command hub _ log c.args.event.now given d _ c.args.number v c.idle_tick-decision.new.session st c.requires.fits.below (idle-plain k _ is) named there
    (λ few.
    record {
      row = c.idle_tick-decision.ensures.decision ∙ ap (λ b. idle_row o b c.args.event.now.at v) (sym runs) ∙ ap (λ (x : EventKind). idle_row o (is_at_work o past x) c.args.event.now.at v) is ∙ ap (λ (x : EventKind). command_row o (around o past c.args.event.now.at x v) x v) (sym is);
      acts = done;
      tables = record {
        moved = record {
          options = refl;
          session = c.idle_tick-decision.ensures.session stays.goes given job ∙ ap (λ n. session_after c.args.event.now.at k given d n job v) (sym (stays.silent k given));
          sessions = sessions-stay hub.sessions _ d c.args.number c.idle_tick-decision.new.session lives.lives lives.as_many (lent.3 (rw there refl)).0 lent.2;
          jobs = jobs-stay hub.jobs o c.args.number k given d _ c.args.number v lives.idle (stays.kept given) done;
        };
        numbers = λ q. ap (λ (n : Option ℕ). is_number n q || has hub.numbers q) (ap (λ (x : EventKind). new_number x d) (sym is));
        holders = λ shared a p. sym (stays.held c.args.number (ipv4 v.opening.client) (waiting_port v.slot) a p (holder_at hub.board a p));
        alone = λ alone a p. refl;
        failures = failures-stay hub c.args.event.now v (ap is_auth is);
        stopped = refl;
      };
    })
