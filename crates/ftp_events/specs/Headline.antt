-- What a right log promises for data connections and for ports, where sessions share the ports.
use Rattle.std.specs.Prelude.{ℕ, ◌≡◌, Bool, true, false, not, ◌&&◌, ◌||◌, List, [], ◌∷◌, Contains, ⊤, IsTrue, Option, Some, None, MatchOption, Ok, Err, is_some}
use Rattle.std.specs.Option.{option_map_or}
use Rattle.ftp_base.specs.declared.net.SocketAddr.{SocketAddr}
use Rattle.ftp_base.specs.Net.{same_ip, is_v6}
use Rattle.ftp_options.specs.declared.options.Options.{Options}
use Rattle.ftp_options.specs.Modes.{is_pooled, is_proxy, is_passive_off}
use Rattle.ftp_options.specs.Host.{lacks_lookup}
use Rattle.ftp_events.specs.declared.action.Action.TheVariants.{Close}
use Rattle.ftp_events.specs.declared.decision.Decision.TheVariants.{Attached, Turned, Granted, Full}
use Rattle.ftp_events.specs.declared.entry.Entry.{Entry}
use Rattle.ftp_events.specs.declared.event.EventKind.{EventKind}
use Rattle.ftp_events.specs.declared.event.EventKind.TheVariants.{Proxied, DataIn, Pasv}
use Rattle.ftp_events.specs.declared.event.Answer.{Answer}
use Rattle.ftp_events.specs.declared.event.Answer.TheVariants.{Header}
use Rattle.ftp_events.specs.declared.session.Session.{Session}
use Rattle.ftp_events.specs.Log.{past_of, is_refusal, is_used, is_stopped, new_number}
use Rattle.ftp_events.specs.Opening.{opener}
use Rattle.ftp_events.specs.Board.{Target, target, holder, first_free_port}
use Rattle.ftp_events.specs.Session.{session}
use Rattle.ftp_events.specs.CommandRows.{is_logged_in}

-- a header without an address of version 6, or why there is none
abbrev pub is_header : Answer → Bool
is_header (Header (Ok line)) = not (is_v6 line.source.ip || is_v6 line.destination.ip)
is_header (Header (Err fault)) = true
is_header _ = false

-- a connection that is refused: one of another mode, from an address of version 6, under a used number, or behind a proxy without a header, of which none is read after a stop
abbrev pub is_barred : Options → List Entry → EventKind → Answer → Bool
is_barred o past (DataIn number raw port) answer = (not (is_pooled o.mode) || is_v6 raw.ip) || is_used past number
is_barred o past (Proxied number raw trace) answer =
    ((not (is_proxy o.mode) || is_v6 raw.ip) || is_used past number) || (not (is_stopped past) && not (is_header answer))
is_barred o past _ answer = false

-- a PASV of a logged in session, where passive mode is on and there is an address to show
abbrev pub is_admitted : Options → EventKind → Session → Bool
is_admitted o (Pasv s word lookup bound) v =
    is_logged_in v.login && not (is_passive_off o.active_passive) && not (lacks_lookup o.host lookup)
is_admitted o _ v = false

-- the connection is turned away and closed
abbrev pub IsClosed : Entry → Type 0
IsClosed e = (n : ℕ) × (e.decision ≡ Turned) × (new_number e.event.kind Turned ≡ Some n) × Contains e.actions (Close n)

-- the peer of a data connection, which behind a proxy is that proxy
abbrev pub peer_of : EventKind → Option SocketAddr
peer_of (DataIn number raw port) = Some raw
peer_of (Proxied number raw trace) = Some raw
peer_of _ = None

-- the connection and session s came from one peer; without a proxy those of one client always do
abbrev pub from_one_peer : Options → List Entry → EventKind → ℕ → Bool
from_one_peer o past k s =
    is_pooled o.mode || option_map_or (λ raw. option_map_or (λ opening. same_ip opening.raw.ip raw.ip) (opener past s) false) (peer_of k) false

-- the connection goes to session s where both came from one peer, and is closed where they did not
pub record AttachedByPeer (o : Options) (past : List Entry) (e : Entry) (s : ℕ) : Type 0 where
  pub attached : from_one_peer o past e.event.kind s ≡ true → e.decision ≡ Attached s
  pub closed : from_one_peer o past e.event.kind s ≡ false → IsClosed e

-- the connection goes to the session that holds its client address and port, and is closed where nobody holds them
abbrev pub AttachedOrClosed : Options → List Entry → Entry → Target → Type 0
AttachedOrClosed o past e t = MatchOption (holder o past t.client t.port) (IsClosed e) (AttachedByPeer o past e)

-- the grant is of the first port from the word that nobody holds, and full is said where there is none
abbrev pub GrantedOrFull : Options → List Entry → Entry → Session → ℕ → Type 0
GrantedOrFull o past e v word =
    MatchOption (first_free_port o past v.opening.client word) (e.decision ≡ Full) (λ p. e.decision ≡ Granted p)

-- what an entry has to be, after the entries that count before it
pub record IsServed (o : Options) (past : List Entry) (e : Entry) : Type 0 where
  pub connections :
      (t : Target) → target o e.event.kind e.answer ≡ Some t → is_barred o past e.event.kind e.answer ≡ false →
      AttachedOrClosed o past e t
  pub refusals : is_barred o past e.event.kind e.answer ≡ true → is_refusal e.decision ≡ true
  pub after_stop :
      is_stopped past ≡ true → is_some (peer_of e.event.kind) ≡ true → is_barred o past e.event.kind e.answer ≡ false → IsClosed e
  pub grants :
      (s word : ℕ) (lookup bound : Option ℕ) (v : Session) → e.event.kind ≡ Pasv s word lookup bound →
      session o past s ≡ Some v → IsTrue (is_admitted o e.event.kind v) →
      GrantedOrFull o past e v word

-- every entry is served
abbrev pub AllServed : Options → List Entry → Type 0
AllServed o [] = ⊤
AllServed o (e ∷ log) = AllServed o log × IsServed o (past_of log) e
