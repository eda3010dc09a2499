-- How a session came.
use Rattle.std.specs.Prelude.{ℕ, List, Option, Some, None, Ok}
use Rattle.std.specs.Bool.{then_some}
use Rattle.ftp_events.specs.declared.entry.Entry.{Entry}
use Rattle.ftp_events.specs.declared.event.EventKind.{EventKind}
use Rattle.ftp_events.specs.declared.event.EventKind.TheVariants.{Connect, Proxied}
use Rattle.ftp_events.specs.declared.event.Answer.{Answer}
use Rattle.ftp_events.specs.declared.event.Answer.TheVariants.{Header}
use Rattle.ftp_events.specs.declared.decision.Decision.{Decision}
use Rattle.ftp_events.specs.declared.decision.Decision.TheVariants.{Opened}
use Rattle.ftp_events.specs.declared.session.Opening.{Opening}
use Rattle.ftp_events.specs.Words.{latest, is_number}
use Rattle.ftp_events.specs.Log.{new_number}

-- the number of the session that an entry opened
abbrev pub opened_number : EventKind → Decision → Option ℕ
opened_number k Opened = new_number k Opened
opened_number k _ = None

-- what a new control connection tells: behind a proxy its header gives the client, and the address that the client called
abbrev pub opening_by : EventKind → Answer → Option Opening
opening_by (Connect session raw local trace) answer =
    Some (record { raw = raw; local = local; client = raw.ip; trace = trace })
opening_by (Proxied number raw trace) (Header (Ok line)) =
    Some (record { raw = raw; local = line.destination; client = line.source.ip; trace = trace })
opening_by _ _ = None

-- how session s came
abbrev pub opener : List Entry → ℕ → Option Opening
opener past s =
    latest None (λ e. then_some (is_number (opened_number e.event.kind e.decision) s) (opening_by e.event.kind e.answer)) past
