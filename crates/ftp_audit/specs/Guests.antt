-- What is known of a session while it lives: where its client is, its name, how far its login is, and its directory.
use Rattle.std.specs.Prelude.{ℕ, ◌||◌, List, Option, None, unwrap_or}
use Rattle.std.specs.Option.{option_map}
use Rattle.ftp_base.specs.Storage.{root}
use Rattle.ftp_options.specs.declared.options.Options.{Options}
use Rattle.ftp_events.specs.declared.decision.Decision.{Decision}
use Rattle.ftp_events.specs.declared.decision.Life.{Life}
use Rattle.ftp_events.specs.declared.decision.Life.TheVariants.{Goes, Opens, Ends}
use Rattle.ftp_events.specs.declared.entry.Entry.{Entry}
use Rattle.ftp_events.specs.declared.event.EventKind.{EventKind}
use Rattle.ftp_events.specs.declared.session.Login.TheVariants as login
use Rattle.ftp_events.specs.declared.session.Opening.{Opening}
use Rattle.ftp_events.specs.declared.session.Session.{Session}
use Rattle.ftp_events.specs.Classes.{life, is_stop}
use Rattle.ftp_events.specs.Log.{named_session, new_number, past_of}
use Rattle.ftp_events.specs.Login.{login_by, name_by}
use Rattle.ftp_events.specs.Opening.{opening_by}
use Rattle.ftp_events.specs.Place.{cwd_after}
use Rattle.ftp_events.specs.Session.{session}
use Rattle.ftp_events.specs.Words.{◌⇒◌∣◌, is_number}
use Rattle.ftp_audit.specs.declared.guest.Guest.{Guest}

-- what is known of a live session
abbrev pub guest_of : Session → Guest
guest_of v = record { client = v.opening.client; name = v.name; login = v.login; cwd = v.cwd }

-- what the log tells of session s, where that is live
abbrev pub guest_in : Options → List Entry → ℕ → Option Guest
guest_in o log s = option_map guest_of (session o (past_of log) s)

-- what is known of a session that opens
abbrev pub new_guest : Opening → Guest
new_guest opening = record { client = opening.client; name = None; login = login.New; cwd = root }

-- and after an event about it
abbrev pub guest_after : EventKind → Decision → Guest → Guest
guest_after k d g =
    record { client = g.client; name = unwrap_or (name_by d k) g.name; login = unwrap_or (login_by d) g.login; cwd = cwd_after d k g.cwd }

-- what an entry makes of what is known of session s, by the turn that a life takes
abbrev pub guest_by_life : Life → Entry → ℕ → Option Guest → Option Guest
guest_by_life Opens e s g = is_number (new_number e.event.kind e.decision) s ⇒ option_map new_guest (opening_by e.event.kind e.answer) ∣ g
guest_by_life Ends e s g = is_stop e.decision || is_number (named_session e.event.kind) s ⇒ None ∣ g
guest_by_life Goes e s g = is_number (named_session e.event.kind) s ⇒ option_map (guest_after e.event.kind e.decision) g ∣ g

-- what an entry makes of what is known of session s
abbrev pub guest_by : Entry → ℕ → Option Guest → Option Guest
guest_by e s g = guest_by_life (life e.decision) e s g
