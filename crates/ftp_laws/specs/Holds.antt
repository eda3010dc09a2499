-- Who waits for a port, and what ends a hold.
use Rattle.std.specs.Prelude.{ℕ, ◌≡◌, ◌≢◌, ◌⊎◌, true, List, Some}
use Rattle.ftp_base.specs.declared.net.IpAddr.{IpAddr}
use Rattle.ftp_options.specs.declared.options.Options.{Options}
use Rattle.ftp_events.specs.declared.decision.Decision.TheVariants.{Granted, PortOk, Aborted, Aborting, Stopped}
use Rattle.ftp_events.specs.declared.entry.Entry.{Entry}
use Rattle.ftp_events.specs.declared.session.Session.{Session}
use Rattle.ftp_events.specs.declared.session.Slot.TheVariants.{Waits}
use Rattle.ftp_events.specs.Board.{target}
use Rattle.ftp_events.specs.Classes.{is_ending}
use Rattle.ftp_events.specs.Log.{named_session}
use Rattle.ftp_events.specs.Session.{session}

-- session s is live, its client is a, and its slot waits for port p
abbrev pub WaitsOn : Options → List Entry → ℕ → IpAddr → ℕ → Type 0
WaitsOn o past s a p =
    (v : Session) × (session o past s ≡ Some v) × (v.opening.client ≡ a) × (v.slot ≡ Waits p)

-- a data connection of client a to port p
abbrev pub ComesTo : Options → Entry → IpAddr → ℕ → Type 0
ComesTo o e a p = target o e.event.kind e.answer ≡ Some (record { client = a; port = p })

-- another port than p is granted to session s
abbrev pub GrantsAnother : Entry → ℕ → ℕ → Type 0
GrantsAnother e s p = (q : ℕ) × (q ≢ p) × (e.decision ≡ Granted q) × (named_session e.event.kind ≡ Some s)

-- the connection of a PORT of session s is taken
abbrev pub TakesConnection : Entry → ℕ → Type 0
TakesConnection e s = (named_session e.event.kind ≡ Some s) × (e.decision ≡ PortOk)

-- an ABOR of session s drops its slot
abbrev pub DropsSlot : Entry → ℕ → Type 0
DropsSlot e s = (named_session e.event.kind ≡ Some s) × ((e.decision ≡ Aborted) ⊎ (e.decision ≡ Aborting))

-- session s ends by its own event, or by a look at its idle time
abbrev pub EndsSession : Entry → ℕ → Type 0
EndsSession e s = (named_session e.event.kind ≡ Some s) × (is_ending e.decision ≡ true)

-- every session ends
abbrev pub Stops : Entry → Type 0
Stops e = e.decision ≡ Stopped

-- what ends the hold of port p that session s has for client a
abbrev pub EndsHold : Options → Entry → ℕ → IpAddr → ℕ → Type 0
EndsHold o e s a p =
    Stops e ⊎ (ComesTo o e a p ⊎ (GrantsAnother e s p ⊎ (TakesConnection e s ⊎ (DropsSlot e s ⊎ EndsSession e s))))
