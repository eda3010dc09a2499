-- The lines of a log, and what has taken its entries.
use Rattle.std.specs.Prelude.{◌≡◌, ℕ, ◌+◌, Bool, true, false, nat_eq, List, [], ◌∷◌, ◌++◌, Some}
use Rattle.std.specs.HashMap as map
use Rattle.ftp_base.specs.declared.login.LockState.TheVariants.{AlreadyLocked}
use Rattle.ftp_options.specs.declared.options.Options.{Options}
use Rattle.ftp_transfer.specs.declared.job.Ticket.{Ticket}
use Rattle.ftp_events.specs.declared.decision.Decision.{Decision}
use Rattle.ftp_events.specs.declared.decision.Decision.TheVariants.{LoginFailed}
use Rattle.ftp_events.specs.declared.entry.Entry.{Entry}
use Rattle.ftp_events.specs.Counts.{one_if}
use Rattle.ftp_events.specs.Right.{IsRight, IsActed}
use Rattle.ftp_events.specs.Tallies.{saturated}
use Rattle.ftp_events.specs.Words.{total}
use Rattle.ftp_audit.specs.declared.line.LogForm.{LogForm}
use Rattle.ftp_audit.specs.declared.line.LogLine.{LogLine}
use Rattle.ftp_audit.specs.declared.server_log.ServerLog.{ServerLog}
use Rattle.ftp_audit.specs.Guests.{guest_by, guest_in}
use Rattle.ftp_audit.specs.Lines.{lines_by}
use Rattle.ftp_audit.specs.Requests.{request_asked, request_by_entry, request_in}
use Rattle.ftp_audit.specs.Tickets.{request_at}

-- the lines that an entry tells after a log
abbrev pub lines_on : Options → List Entry → Entry → List LogLine
lines_on o log e = lines_by (guest_in o log) (request_in o log) e

-- the lines of a log, the oldest first
abbrev pub told_lines : Options → List Entry → List LogLine
told_lines o [] = []
told_lines o (e ∷ log) = told_lines o log ++ lines_on o log e

-- a login was locked out
abbrev pub is_lockout : Decision → Bool
is_lockout (LoginFailed (Some AlreadyLocked) delay) = true
is_lockout _ = false

-- how many logins were locked out
abbrev pub lockout_count : List Entry → ℕ
lockout_count log = total (λ e. one_if (is_lockout e.decision)) log

-- the form of the lines
abbrev pub form_of : ServerLog → LogForm
form_of l = l.form

-- when the server started
abbrev pub log_start : ServerLog → ℕ
log_start l = l.start

-- how many locked out logins were counted
abbrev pub locked_of : ServerLog → ℕ
locked_of l = l.locked

-- all entries of a right and acted log were taken: what is known of sessions and transfers is what the log tells
pub record HasTaken (o : Options) (taken : ServerLog) (log : List Entry) : Type 0 where
  pub right : IsRight o log
  pub acted : IsActed o log
  pub guests : (s : ℕ) → map.get nat_eq taken.guests s ≡ guest_in o log s
  pub requests : (t : Ticket) → request_at taken.requests t ≡ request_in o log t
  pub locked : taken.locked ≡ saturated (lockout_count log)

-- both know the same
pub record SameKnown (old new : ServerLog) : Type 0 where
  pub form : new.form ≡ old.form
  pub start : new.start ≡ old.start
  pub guests : (s : ℕ) → map.get nat_eq new.guests s ≡ map.get nat_eq old.guests s
  pub requests : (t : Ticket) → request_at new.requests t ≡ request_at old.requests t
  pub locked : new.locked ≡ old.locked

-- what is known after an entry
pub record Knows (old new : ServerLog) (e : Entry) : Type 0 where
  pub form : new.form ≡ old.form
  pub start : new.start ≡ old.start
  pub guests : (s : ℕ) → map.get nat_eq new.guests s ≡ guest_by e s (map.get nat_eq old.guests s)
  pub requests : (t : Ticket) → request_at new.requests t ≡ request_by_entry e t (map.get nat_eq old.guests t.session) (request_at old.requests t)
  pub locked : new.locked ≡ saturated (old.locked + one_if (is_lockout e.decision))

-- what an entry tells of sessions, and of a transfer that it queues
pub record Learns (old new : ServerLog) (e : Entry) : Type 0 where
  pub form : new.form ≡ old.form
  pub start : new.start ≡ old.start
  pub guests : (s : ℕ) → map.get nat_eq new.guests s ≡ guest_by e s (map.get nat_eq old.guests s)
  pub requests : (t : Ticket) → request_at new.requests t ≡ request_asked e t (map.get nat_eq old.guests t.session) (request_at old.requests t)
  pub locked : new.locked ≡ old.locked
