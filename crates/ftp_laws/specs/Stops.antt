-- What a stop does for a session.
use Rattle.std.specs.Prelude.{ℕ, ◌+◌, false, List, [], ◌∷◌, ◌++◌}
use Rattle.ftp_base.specs.declared.notice.Notice.TheVariants.{Presence}
use Rattle.ftp_base.specs.declared.notice.PresenceEvent.TheVariants.{LoggedOut}
use Rattle.ftp_events.specs.declared.action.Action.{Action}
use Rattle.ftp_events.specs.declared.action.Action.TheVariants.{Close, Notify}
use Rattle.ftp_events.specs.declared.session.Session.{Session}
use Rattle.ftp_events.specs.Acts.{cancellations, closings, link_in}
use Rattle.ftp_events.specs.Login.{logged_user}
use Rattle.ftp_events.specs.Reply.{trace_of}

-- listeners are told that session s has logged out
abbrev pub logout : ℕ → Session → Action
logout s v =
    Notify s (record { username = logged_user v.login v.name; trace_id = trace_of v.opening.trace; sequence_number = v.notices + 1 }) (Presence LoggedOut)

-- the transfer that waits is cancelled, its link closed, the logout told, and the session's own connection closed last
abbrev pub parting : ℕ → Session → List Action
parting s v = cancellations s false v.pending ++ closings (link_in v.slot) ++ logout s v ∷ Close s ∷ []
