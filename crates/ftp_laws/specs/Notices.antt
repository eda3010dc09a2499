-- What listeners are told of a session.
use Rattle.std.specs.Prelude.{ℕ, ◌≡◌, Bool, true, false, ◌==◌, List, [], ◌∷◌, ◌++◌, filter_map, Option, Some, None, if◌then◌else◌}
use Rattle.std.specs.List.{list_any}
use Rattle.ftp_base.specs.declared.notice.Notice.{Notice}
use Rattle.ftp_base.specs.declared.notice.Notice.TheVariants.{Presence}
use Rattle.ftp_base.specs.declared.notice.PresenceEvent.TheVariants.{LoggedOut}
use Rattle.ftp_options.specs.declared.options.Options.{Options}
use Rattle.ftp_events.specs.declared.action.Action.{Action}
use Rattle.ftp_events.specs.declared.action.Action.TheVariants.{Notify}
use Rattle.ftp_events.specs.declared.entry.Entry.{Entry}
use Rattle.ftp_events.specs.declared.session.Opening.{Opening}
use Rattle.ftp_events.specs.Opening.{opener}
use Rattle.ftp_events.specs.Session.{session}

-- the notification of session s that an action is, after its number
abbrev pub notice_to : ℕ → Action → Option (ℕ × Notice)
notice_to s (Notify session meta what) = if session == s then Some (meta.sequence_number, what) else None
notice_to s _ = None

-- the notifications of session s after their numbers, the oldest first
abbrev pub notices : List Entry → ℕ → List (ℕ × Notice)
notices [] s = []
notices (e ∷ log) s = notices log s ++ filter_map (notice_to s) e.actions

-- it says that the session has logged out
abbrev pub is_logged_out : Notice → Bool
is_logged_out (Presence LoggedOut) = true
is_logged_out _ = false

-- none of them says so
abbrev pub NoneLoggedOut : List (ℕ × Notice) → Type 0
NoneLoggedOut told = list_any (λ n. is_logged_out n.1) told ≡ false

-- the last of them says so, and no other
abbrev pub LastLoggedOut : List (ℕ × Notice) → Type 0
LastLoggedOut told =
    (before : List (ℕ × Notice)) × (number : ℕ) × (told ≡ before ++ (number, Presence LoggedOut) ∷ []) × NoneLoggedOut before

-- session s was opened and is not live any more
abbrev pub HasEnded : Options → List Entry → ℕ → Type 0
HasEnded o past s = (opening : Opening) × (opener past s ≡ Some opening) × (session o past s ≡ None)
