-- What a user moved, and how often it came and went, by the decisions of a log, the ends that were told, and owners.
use Rattle.std.specs.Prelude.{ℕ, Bool, true, ◌&&◌, nat_le, nat_lt, List, [], ◌∷◌, length, filter_map, Option, Some, None, if◌then◌else◌}
use Rattle.std.specs.Option.{option_to_list}
use Rattle.std.specs.Str.{bytes_eq}
use Rattle.ftp_options.specs.declared.options.Options.{Options}
use Rattle.ftp_transfer.specs.declared.job.Completion.{Completion}
use Rattle.ftp_transfer.specs.declared.job.Completion.TheVariants.{Sent, Written}
use Rattle.ftp_events.specs.declared.action.Action.{Action}
use Rattle.ftp_events.specs.declared.action.Action.TheVariants.{Completed}
use Rattle.ftp_events.specs.declared.decision.Decision.{Decision}
use Rattle.ftp_events.specs.declared.decision.Decision.TheVariants.{Finished}
use Rattle.ftp_events.specs.declared.entry.Entry.{Entry}
use Rattle.ftp_events.specs.declared.event.Answer.{Answer}
use Rattle.ftp_events.specs.declared.event.Answer.TheVariants.{Done}
use Rattle.ftp_events.specs.Words.{◌⇒◌∣◌}
use Rattle.ftp_events.specs.Classes.{is_stop, is_ending}
use Rattle.ftp_events.specs.Log.{past_of, named_session}
use Rattle.ftp_events.specs.Session.{live_sessions}
use Rattle.ftp_audit.specs.declared.total.Total.{Total}
use Rattle.ftp_audit.specs.Totals.{nothing, plus}
use Rattle.ftp_audit.specs.Owner.{let_in, owner}

-- one login
abbrev pub one_login : Total
one_login = record nothing { logins = 1 }

-- one logout
abbrev pub one_logout : Total
one_logout = record nothing { logouts = 1 }

-- a file of so many bytes that was sent, or written
abbrev pub file_of : Completion → ℕ → Total
file_of Sent bytes = record nothing { got_files = 1; got_bytes = bytes }
file_of Written bytes = record nothing { put_files = 1; put_bytes = bytes }
file_of _ bytes = nothing

-- the file that an entry has moved
abbrev pub moved_file : Decision → Answer → Total
moved_file Finished (Done outcome) = file_of outcome.result outcome.bytes
moved_file _ _ = nothing

-- the session that is told that its transfer has ended
abbrev pub told_end : Action → Option ℕ
told_end (Completed ticket true) = Some ticket.session
told_end _ = None

-- the sessions that an entry ends: the one that it names, or every live one
abbrev pub ended_by : Options → List Entry → Entry → List ℕ
ended_by o past e =
    is_stop e.decision ⇒ live_sessions o past
    ∣ is_ending e.decision ⇒ option_to_list (named_session e.event.kind)
    ∣ []

-- as much for each of these sessions that is the user's
abbrev pub for_each : List Entry → List ℕ → Total → List ℕ → Total
for_each past user each [] = nothing
for_each past user each (s ∷ sessions) =
    plus (if bytes_eq (owner past s) user then each else nothing) (for_each past user each sessions)

-- what an entry adds for a user
abbrev pub added : Options → List Entry → Entry → List ℕ → Total
added o log e user =
    plus (for_each (e ∷ log) user (moved_file e.decision e.answer) (filter_map told_end e.actions))
    (plus (for_each (e ∷ log) user one_login (option_to_list (let_in e.decision e.event.kind)))
    (for_each (e ∷ log) user one_logout (ended_by o (past_of log) e)))

-- a place from one below another
abbrev pub is_within : ℕ → ℕ → ℕ → Bool
is_within from to place = nat_le from place && nat_lt place to

-- what the entries with places from one below another add for a user, the oldest entry being at place 0
abbrev pub sums : Options → List Entry → List ℕ → ℕ → ℕ → Total
sums o [] user from to = nothing
sums o (e ∷ log) user from to =
    plus (sums o log user from to) (if is_within from to (length log) then added o log e user else nothing)
