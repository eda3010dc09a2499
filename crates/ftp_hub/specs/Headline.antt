-- The headline: what the log of a run on a fresh hub promises, entry by entry.
use Rattle.std.specs.Prelude.{ℕ, ◌≡◌, true, false, List, [], ◌∷◌, ◌++◌, map, reverse, Option, Some, IsTrue, is_some}
use Rattle.ftp_options.specs.declared.options.Options.{Options}
use Rattle.ftp_options.specs.Modes.{is_legacy}
use Rattle.ftp_events.specs.declared.entry.Entry.{Entry}
use Rattle.ftp_events.specs.declared.event.EventKind.TheVariants.{Pasv}
use Rattle.ftp_events.specs.declared.event.HubEvent.{HubEvent}
use Rattle.ftp_events.specs.declared.session.Session.{Session}
use Rattle.ftp_events.specs.Log.{past_of, is_refusal, is_stopped}
use Rattle.ftp_events.specs.Board.{Target, target}
use Rattle.ftp_events.specs.Session.{session}
use Rattle.ftp_events.specs.Headline.{is_barred, is_admitted, peer_of, AttachedOrClosed, GrantedOrFull, IsClosed}
use Rattle.ftp_hub.specs.declared.hub.Hub.{Hub}
use Rattle.ftp_hub.specs.Stands.{Stands, options_of}

-- nothing has happened to the hub, and its sessions share the passive ports
pub record IsFresh (hub : Hub) : Type 0 where
  pub unused : Stands hub []
  pub shares : is_legacy (options_of hub).mode ≡ false

-- the log has exactly the given events in order; every data connection is attached to the session that by the entries
-- before it holds its client address and port, or closed where nobody holds them, and behind a proxy where another proxy
-- passed it on than the session; every connection that is barred is refused; after a stop a data connection, or one behind
-- a proxy, that is not barred is closed; every admitted PASV is granted the first port from its word that nobody holds, or
-- refused as full where none is free
pub record Headline (o : Options) (events : List HubEvent) (log : List Entry) : Type 0 where
  pub exactly_the_events : map (λ (e : Entry). e.event) (reverse log) ≡ events
  pub every_connection :
      (after before : List Entry) (e : Entry) (t : Target) → log ≡ after ++ e ∷ before →
      target o e.event.kind e.answer ≡ Some t → is_barred o (past_of before) e.event.kind e.answer ≡ false →
      AttachedOrClosed o (past_of before) e t
  pub every_refusal :
      (after before : List Entry) (e : Entry) → log ≡ after ++ e ∷ before →
      is_barred o (past_of before) e.event.kind e.answer ≡ true → is_refusal e.decision ≡ true
  pub every_stop :
      (after before : List Entry) (e : Entry) → log ≡ after ++ e ∷ before →
      is_stopped (past_of before) ≡ true → is_some (peer_of e.event.kind) ≡ true →
      is_barred o (past_of before) e.event.kind e.answer ≡ false → IsClosed e
  pub every_grant :
      (after before : List Entry) (e : Entry) (s word : ℕ) (lookup bound : Option ℕ) (v : Session) →
      log ≡ after ++ e ∷ before → e.event.kind ≡ Pasv s word lookup bound →
      session o (past_of before) s ≡ Some v → IsTrue (is_admitted o e.event.kind v) →
      GrantedOrFull o (past_of before) e v word
