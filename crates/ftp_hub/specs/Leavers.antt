-- Who leaves with a stop.
use Rattle.std.specs.Prelude.{◌≡◌, ℕ, Bool, true, false, List, [], map, Option, Some, is_some}
use Rattle.std.specs.Option.{option_map_or}
use Rattle.ftp_events.specs.declared.event.EventKind.{EventKind}
use Rattle.ftp_events.specs.declared.event.EventKind.TheVariants as kind
use Rattle.ftp_events.specs.declared.session.Session.{Session}
use Rattle.ftp_events.specs.Login.{logged_user}
use Rattle.ftp_laws.specs.Census.{IsAscending, has as is_listed}
use Rattle.ftp_handlers.specs.Copies.{Leaver}
use Rattle.ftp_handlers.specs.Handlers.{IsFew}

-- the kind of a stop
abbrev pub is_shutdown : EventKind → Bool
is_shutdown kind.Shutdown = true
is_shutdown _ = false

-- the numbers of those who leave
abbrev pub numbers_of : List Leaver → List ℕ
numbers_of leavers = map (λ (l : Leaver). l.session) leavers

-- a session that leaves, and the user who is said to have gone
abbrev pub leaver_of : (ℕ → Option Session) → ℕ → Leaver
leaver_of live s = record { session = s; user = option_map_or (λ v. logged_user v.login v.name) (live s) [] }

-- those who leave are the live sessions, in order of their numbers, each with its user
pub record AreLeavers (live : ℕ → Option Session) (leavers : List Leaver) : Type 0 where
  pub in_order : IsAscending (numbers_of leavers)
  pub all : (s : ℕ) → is_listed (numbers_of leavers) s ≡ is_some (live s)
  pub named : leavers ≡ map (leaver_of live) (numbers_of leavers)

-- the live sessions have so few notices that one more of each can be counted
abbrev pub AreFew : (ℕ → Option Session) → Type 0
AreFew live = (s : ℕ) (v : Session) → live s ≡ Some v → IsFew v
