-- Logs that show why the laws have their premises.
use Rattle.std.proofs.Common.{◌≡◌, refl, ap, ℕ, List, [], ◌∷◌, ◌++◌, length, map, reverse, Option, Some, None, arith}
use Rattle.std.specs.Prelude.{codes, take, drop}
use Rattle.ftp_base.specs.declared.login.AuthAnswer.TheVariants.{Good, Refused}
use Rattle.ftp_base.specs.declared.login.LockState.TheVariants.{AlreadyLocked}
use Rattle.ftp_options.specs.declared.lockout.FailedLoginsBlock.TheVariants.{User}
use Rattle.ftp_lockout.specs.Keys.{key_cmp}
use Rattle.ftp_base.specs.declared.notice.Notice.TheVariants.{Presence}
use Rattle.ftp_base.specs.declared.notice.PresenceEvent.TheVariants as presence
use Rattle.ftp_base.specs.Storage.{root}
use Rattle.ftp_events.specs.declared.action.Action.TheVariants.{Notify}
use Rattle.ftp_events.specs.declared.decision.Decision.TheVariants as decision
use Rattle.ftp_events.specs.declared.event.EventKind.TheVariants as kind
use Rattle.ftp_events.specs.declared.session.Login.TheVariants.{LoggedIn}
use Rattle.ftp_events.specs.declared.session.Slot.TheVariants.{Waits}
use Rattle.ftp_events.specs.Right.{log_of, events_of}
use Rattle.ftp_events.proofs.Script.{Event, everything, ip, addr, two_ports, own_ports, event, opened, login, a1, a2}
use Rattle.ftp_laws.proofs.Common.{IpAddr, Options, Entry, Session, holder, past_of, IsRight, client_log}
use Rattle.ftp_laws.specs.Holds.{WaitsOn}
use Rattle.ftp_laws.specs.Notices.{notices}

-- where another client took a number first, the client's part is not right by itself
apart-needed : ¬ IsRight two_ports (client_log (log_of two_ports (opened 1 a1 ∷ opened 1 a2 ∷ [])) a1)
unfolding everything
apart-needed r = let c : decision.UsedNumber ≡ decision.Opened = r.1 in cc

-- one failed login locks a name, for every address
abbrev by_name : Options
by_name = record two_ports { lockout = Some (record { max_attempts = 1; expires_after_ms = 100; block_by = User }) }

-- a login that was refused, newest first
abbrev refused : ℕ → IpAddr → List Event
refused s a = event 0 (kind.AuthDone s Refused) ∷ event 0 (kind.Pass s) ∷ event 0 (kind.User s (codes "ann")) ∷ opened s a ∷ []

-- where a name is locked by another client, the client's part is not right by itself
locks-needed : ¬ IsRight by_name (client_log (log_of by_name (reverse (login 1 a1) ++ refused 2 a2)) a1)
unfolding everything key_cmp
locks-needed r = let c : decision.LoginFailed (Some AlreadyLocked) 1500 ≡ decision.LoggedIn = r.1 in cc

-- a refused login, a sweep that forgets it, and a login at an earlier moment
abbrev fallen : List Entry
fallen =
    log_of by_name
    (event 50 (kind.AuthDone 1 Good) ∷ event 50 (kind.Pass 1) ∷ event 50 (kind.User 1 (codes "ann")) ∷ event 1000 kind.Sweep ∷ refused 1 a1)

-- where moments fall the log is not right without the sweep
moments-needed : ¬ IsRight by_name (take 3 fallen ++ drop 4 fallen)
unfolding everything key_cmp
moments-needed r = let c : decision.LoggedIn ≡ decision.LoginFailed (Some AlreadyLocked) 1500 = r.1 in cc

-- a login and a PASV, for which a port was bound
abbrev waiting : List Entry
waiting = log_of own_ports (event 1 (kind.Pasv 1 0 None (Some 50000)) ∷ reverse (login 1 a1))

-- there a session waits for a port that nobody holds
pooled-needed : ¬ ((a : IpAddr) (p s : ℕ) → WaitsOn own_ports (past_of waiting) s a p → holder own_ports (past_of waiting) a p ≡ Some s)
unfolding everything
pooled-needed law = nobody (holder own_ports (past_of waiting) a1 50000) refl (law a1 50000 1 (one, refl, refl, refl))
  where
    nobody : (n : Option ℕ) → n ≡ None → n ≡ Some 1 → ⊥
    nobody n e h = cc

    one : Session
    one =
        record {
          opening = record { raw = addr a1 4000; local = addr (ip 10 0 0 9) 21; client = a1; trace = 1 };
          login = LoggedIn;
          name = Some (codes "ann");
          cwd = root;
          offset = 0;
          slot = Waits 50000;
          slot_at = 1;
          active_at = 1;
          pending = None;
          tickets = 0;
          notices = 1;
        }

-- an opening that is decided as it has to be, with a notification that it should not have
abbrev not_acted : Entry
not_acted =
    record {
      event = (opened 1 a1).0;
      answer = (opened 1 a1).1;
      decision = decision.Opened;
      actions = Notify 1 (record { username = codes "ann"; trace_id = record { 0 = 1 }; sequence_number = 7 }) (Presence presence.LoggedIn) ∷ [];
    }

-- a log that is right, but not acted, numbers its notifications as it likes
acted-needed : IsRight two_ports (not_acted ∷ []) × (map (λ n. n.0) (notices (not_acted ∷ []) 1) ≡ 7 ∷ [])
unfolding everything
acted-needed = ((tt, refl), refl)

-- two clients, and a stop
abbrev stopped_log : List Entry
stopped_log = log_of two_ports (event 1 kind.Shutdown ∷ opened 2 a2 ∷ opened 1 a1 ∷ [])

-- after a stop a client's part is not what its events and answers give: the stop names the other client's session too
before-stop-needed : ¬ (log_of two_ports (events_of (client_log stopped_log a1)) ≡ client_log stopped_log a1)
unfolding everything
before-stop-needed h =
    let c : 2 ∷ 0 ∷ [] ≡ 4 ∷ 0 ∷ [] = ap (λ (log : List Entry). map (λ (e : Entry). length e.actions) log) h in
    absurd (omega (arith, ap first c))
  where
    first : List ℕ → ℕ
    first [] = 0
    first (n ∷ ns) = n
