-- What an entry about one live session makes of the tables: a record a table, each with a form for what stays.
use Rattle.std.proofs.Common.{BuildHasherDefault, FoldHasher, ◌≡◌, sym, ap, ◌∙◌, ℕ, cond, Bool, ◌||◌, List, Option, Some, None}
use Rattle.std.specs.Prelude.{◌==◌, nat_eq, true, false}
use Rattle.std.specs.HashMap as map
use Rattle.ftp_hub.proofs.Common.{Action, Answer, Decision, Entry, EventKind, Hub, HubEvent, Jobs, Options, Running, Session, Starts, Tables, failures_in, has, held_after, holder_at, ipv4, is_legacy, kept_running, live_after, lives_on, new_number, next_running, notices_of, running_after, session_acts, session_after, starting, waiting_port}
use Rattle.ftp_laws.proofs.BalanceLemmas.{is_finished}
use Rattle.ftp_hub.proofs.Decisions.{at-key, jobs-idle, jobs-started, lane-idle, put-back, running-started}
use Rattle.ftp_events.specs.Words.{is_number}
use Rattle.ftp_lockout.specs.Failures.{Table}
use Rattle.ftp_switchboard.specs.Used.{Used}
use Rattle.ftp_switchboard.specs.Board.{Board}
use Rattle.ftp_hub.proofs.Failures.{FailuresMoved}
use Rattle.ftp_hub.proofs.Refusals.{tables-same}
use Rattle.ftp_hub.proofs.Running.{IsIdle, running-idle}
use Rattle.ftp_hub.specs.Stands.{SameTables}

-- the live sessions, by number
abbrev pub Sessions : Type 0
Sessions = map.HashMap ℕ Session (BuildHasherDefault FoldHasher)

-- session s became what it is after, or it ended
pub record SessionsMoved (old new : Sessions) (d : Decision) (s : ℕ) (after : Session) : Type 0 where
  pub table : (q : ℕ) → map.get nat_eq new q ≡ cond (s == q) (cond (lives_on d) (Some after) None) (map.get nat_eq old q)
  pub live : map.hash_map_len new ≡ live_after d (map.hash_map_len old)

-- the job of session s, which was v, ended or started, or was marked or counted, or none of these
pub record JobsMoved (old new : Jobs) (k : EventKind) (answer : Answer) (d : Decision) (done : List Action) (s : ℕ) (v : Session) : Type 0 where
  pub table : (q : ℕ) → map.get nat_eq new q ≡ cond (s == q) (next_running k answer d (map.get nat_eq old s) v) (map.get nat_eq old q)
  pub running : map.hash_map_len new ≡ running_after d done (map.hash_map_len old)

-- the tables of sessions and jobs moved, with session s as it is due
pub record Moved (old new : Hub) (event : HubEvent) (answer : Answer) (d : Decision) (done : List Action) (s : ℕ) (v after : Session) : Type 0 where
  pub options : new.options ≡ old.options
  pub session : after ≡ session_after event.at event.kind answer d (notices_of event.kind d answer) (map.get nat_eq old.jobs s) v
  pub sessions : SessionsMoved old.sessions new.sessions d s after
  pub jobs : JobsMoved old.jobs new.jobs event.kind answer d done s v

-- so did those of numbers, of holds and of failed logins
pub record MovedAlone (old new : Hub) (event : HubEvent) (answer : Answer) (d : Decision) (done : List Action) (s : ℕ) (v after : Session) : Type 0 where
  pub moved : Moved old new event answer d done s v after
  pub numbers : (q : ℕ) → has new.numbers q ≡ (is_number (new_number event.kind d) q || has old.numbers q)
  pub holders : is_legacy old.options.mode ≡ false → (a p : ℕ) → holder_at new.board a p ≡ held_after d s (ipv4 v.opening.client) (waiting_port v.slot) a p (holder_at old.board a p)
  pub alone : is_legacy old.options.mode ≡ true → (a p : ℕ) → holder_at new.board a p ≡ holder_at old.board a p
  pub failures : FailuresMoved old new.failures event v
  pub stopped : new.stopped ≡ old.stopped

-- a table in which a session is put back is as it was
pub session-back :
    (old new : Sessions) (s : ℕ) (v : Session) → map.get nat_eq old s ≡ Some v →
    ((q : ℕ) → map.get nat_eq new q ≡ cond (s == q) (Some v) (map.get nat_eq old q)) →
    (q : ℕ) → map.get nat_eq new q ≡ map.get nat_eq old q
session-back old new s v there table q =
    table q ∙ ap (λ (x : Option Session). cond (s == q) x (map.get nat_eq old q)) (sym there) ∙ put-back (map.get nat_eq old) s q

-- tables of which that of sessions alone was lent, and answers as before
pub same-lent :
    (old new : Hub) →
    ((q : ℕ) → map.get nat_eq new.sessions q ≡ map.get nat_eq old.sessions q) → map.hash_map_len new.sessions ≡ map.hash_map_len old.sessions →
    new.jobs ≡ old.jobs → new.numbers ≡ old.numbers → new.board ≡ old.board → new.failures ≡ old.failures → new.stopped ≡ old.stopped →
    SameTables old new
same-lent old new sessions len jobs numbers board failed stopped =
    record {
      sessions = sessions;
      live = len;
      jobs = λ q. ap (λ (m : Jobs). map.get nat_eq m q) jobs;
      running = ap map.hash_map_len jobs;
      numbers = λ q. ap (λ (x : Used). has x q) numbers;
      holders = λ a p. ap (λ (x : Board). holder_at x a p) board;
      failures = λ key. ap (λ (x : Option Table). failures_in x key) failed;
      stopped = stopped;
    }

-- so they answer as the same past
pub tables-lent :
    (old new : Hub) (past : List Entry) →
    new.options ≡ old.options → ((q : ℕ) → map.get nat_eq new.sessions q ≡ map.get nat_eq old.sessions q) →
    map.hash_map_len new.sessions ≡ map.hash_map_len old.sessions →
    new.jobs ≡ old.jobs → new.numbers ≡ old.numbers → new.board ≡ old.board → new.failures ≡ old.failures → new.stopped ≡ old.stopped →
    Tables old past → Tables new past
tables-lent old new past options sessions len jobs numbers board failed stopped tables =
    tables-same old new past options (same-lent old new sessions len jobs numbers board failed stopped) tables

-- the session goes on
pub sessions-stay :
    (old new : Sessions) (d : Decision) (s : ℕ) (after : Session) →
    lives_on d ≡ true → ((n : ℕ) → live_after d n ≡ n) →
    ((q : ℕ) → map.get nat_eq new q ≡ cond (s == q) (Some after) (map.get nat_eq old q)) →
    map.hash_map_len new ≡ map.hash_map_len old →
    SessionsMoved old new d s after
sessions-stay old new d s after lives as_many table len =
    record {
      table = λ q. table q ∙ sym (ap (λ (b : Bool). cond (s == q) (cond b (Some after) None) (map.get nat_eq old q)) lives);
      live = len ∙ sym (as_many (map.hash_map_len old));
    }

-- no job starts or ends, and none is marked or counted
pub jobs-stay :
    (jobs : Jobs) (o : Options) (n : ℕ) (k : EventKind) (answer : Answer) (d : Decision) (done : List Action) (s : ℕ) (v : Session) →
    IsIdle d → ((job : Option Running) → kept_running d answer job ≡ job) →
    done ≡ session_acts o n k answer d (map.get nat_eq jobs s) (Some v) →
    JobsMoved jobs jobs k answer d done s v
jobs-stay jobs o n k answer d done s v idle kept acts =
    record {
      table = λ q. jobs-idle jobs s q k answer d v idle kept;
      running = sym (ap (λ xs. running_after d xs (map.hash_map_len jobs)) acts ∙ running-idle o n k answer d (map.get nat_eq jobs s) v (map.hash_map_len jobs) idle);
    }

-- no job starts or ends, and the one that runs became what the decision makes of it with this answer
pub jobs-kept :
    (old new : Jobs) (o : Options) (n : ℕ) (k : EventKind) (answer given : Answer) (d : Decision) (done : List Action) (s : ℕ) (v : Session) →
    IsIdle d → ((job : Option Running) → kept_running d answer job ≡ kept_running d given job) →
    ((q : ℕ) → map.get nat_eq new q ≡ cond (s == q) (kept_running d given (map.get nat_eq old q)) (map.get nat_eq old q)) →
    map.hash_map_len new ≡ map.hash_map_len old →
    done ≡ session_acts o n k answer d (map.get nat_eq old s) (Some v) →
    JobsMoved old new k answer d done s v
jobs-kept old new o n k answer given d done s v idle same table len acts =
    record {
      table = λ q.
          table q
          ∙ sym (at-key (λ n. kept_running d given (map.get nat_eq old n)) (map.get nat_eq old) s q)
          ∙ ap (λ (x : Option Running). cond (s == q) x (map.get nat_eq old q))
          (sym (ap (kept_running d answer) (lane-idle k d (map.get nat_eq old s) v idle) ∙ same (map.get nat_eq old s)));
      running =
          len
          ∙ sym (ap (λ xs. running_after d xs (map.hash_map_len old)) acts ∙ running-idle o n k answer d (map.get nat_eq old s) v (map.hash_map_len old) idle);
    }

-- no job ends, and one may start
pub jobs-start :
    (old new : Jobs) (o : Options) (k : EventKind) (answer : Answer) (d : Decision) (done : List Action) (s : ℕ) (v : Session) →
    is_finished d ≡ false → ((job : Option Running) → kept_running d answer job ≡ job) →
    Starts old new s (starting k d (map.get nat_eq old s) v) →
    done ≡ session_acts o s k answer d (map.get nat_eq old s) (Some v) →
    JobsMoved old new k answer d done s v
jobs-start old new o k answer d done s v unfinished kept begins acts =
    record {
      table = λ q. jobs-started old new s q k answer d v unfinished kept begins;
      running = running-started o s k answer d v old new unfinished begins ∙ ap (λ xs. running_after d xs (map.hash_map_len old)) (sym acts);
    }
