-- Which transfers of a session were started and completed, and on which links.
use Rattle.std.specs.Prelude.{ℕ, ◌&&◌, Bool, true, false, ◌==◌, List, count_by, if◌then◌else◌}
use Rattle.std.specs.List.{list_any}
use Rattle.ftp_events.specs.declared.action.Action.{Action}
use Rattle.ftp_events.specs.declared.action.Action.TheVariants.{Start, Completed}
use Rattle.ftp_events.specs.declared.decision.Decision.{Decision}
use Rattle.ftp_events.specs.declared.decision.Decision.TheVariants.{Attached, PortOk, Cut}
use Rattle.ftp_events.specs.declared.entry.Entry.{Entry}
use Rattle.ftp_events.specs.declared.event.EventKind.{EventKind}
use Rattle.ftp_events.specs.Words.{is_number, total}
use Rattle.ftp_events.specs.Log.{named_session, new_number}

-- the action starts a transfer of session s
abbrev pub starts_for : ℕ → Action → Bool
starts_for s (Start ticket number) = ticket.session == s
starts_for s _ = false

-- the action completes one
abbrev pub completes_for : ℕ → Action → Bool
completes_for s (Completed ticket delivered) = ticket.session == s
completes_for s _ = false

-- how many transfers of session s were started
abbrev pub started_count : ℕ → List Entry → ℕ
started_count s log = total (λ e. count_by (starts_for s) e.actions) log

-- how many were completed
abbrev pub completed_count : ℕ → List Entry → ℕ
completed_count s log = total (λ e. count_by (completes_for s) e.actions) log

-- a transfer is cut
abbrev pub is_cut : Decision → Bool
is_cut Cut = true
is_cut _ = false

-- the entry cuts one of session s
abbrev pub cuts_for : ℕ → Entry → Bool
cuts_for s e = is_cut e.decision && is_number (named_session e.event.kind) s

-- how many were cut
abbrev pub cut_count : ℕ → List Entry → ℕ
cut_count s log = total (λ e. if cuts_for s e then 1 else 0) log

-- the action starts a transfer of session s on link n
abbrev pub starts_there : ℕ → ℕ → Action → Bool
starts_there s n (Start ticket number) = (ticket.session == s) && (number == n)
starts_there s n _ = false

-- a connection is attached to session s, or taken for a PORT of it
abbrev pub attaches_to : ℕ → EventKind → Decision → Bool
attaches_to s k (Attached session) = session == s
attaches_to s k PortOk = is_number (named_session k) s
attaches_to s k _ = false

-- the entry brings link n to session s
abbrev pub brings_link : ℕ → ℕ → Entry → Bool
brings_link s n e = attaches_to s e.event.kind e.decision && is_number (new_number e.event.kind e.decision) n

-- some entry brought link n to session s
abbrev pub has_brought : ℕ → ℕ → List Entry → Bool
has_brought s n log = list_any (brings_link s n) log
