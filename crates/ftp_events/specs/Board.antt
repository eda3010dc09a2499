-- Who holds which port, for each client.
use Rattle.std.specs.Prelude.{ℕ, Bool, false, ◌&&◌, ◌||◌, not, ◌==◌, List, [], ◌∷◌, Option, Some, None, Ok}
use Rattle.std.specs.Option.{option_and_then, option_map_or}
use Rattle.ftp_base.specs.declared.net.IpAddr.{IpAddr}
use Rattle.ftp_base.specs.Net.{same_ip}
use Rattle.ftp_base.specs.Ports.{first_free}
use Rattle.ftp_options.specs.declared.options.Options.{Options}
use Rattle.ftp_options.specs.Modes.{is_legacy, is_control_port}
use Rattle.ftp_events.specs.declared.entry.Entry.{Entry}
use Rattle.ftp_events.specs.declared.event.EventKind.{EventKind}
use Rattle.ftp_events.specs.declared.event.EventKind.TheVariants.{Proxied, DataIn}
use Rattle.ftp_events.specs.declared.event.Answer.{Answer}
use Rattle.ftp_events.specs.declared.event.Answer.TheVariants.{Header}
use Rattle.ftp_events.specs.declared.decision.Decision.{Decision}
use Rattle.ftp_events.specs.declared.decision.Decision.TheVariants.{Granted}
use Rattle.ftp_events.specs.Words.{◌⇒◌∣◌, is_number}
use Rattle.ftp_events.specs.Classes.{is_stop, slot_move, gives_up}
use Rattle.ftp_events.specs.Log.{named_session}
use Rattle.ftp_events.specs.Opening.{opener}

-- what a data connection comes for: its client and the port that it comes to, behind a proxy by its header
pub record Target : Type 0 where
  pub client : IpAddr
  pub port : ℕ

-- the target of a data connection, and nothing for any other event
abbrev pub target : Options → EventKind → Answer → Option Target
target o (DataIn number raw port) answer = Some (record { client = raw.ip; port = port })
target o (Proxied number raw trace) (Header (Ok line)) =
    is_control_port o.mode line.destination.port ⇒ None
    ∣ Some (record { client = line.source.ip; port = line.destination.port })
target o _ _ = None

-- the port that was granted
abbrev pub granted_port : Decision → Option ℕ
granted_port (Granted port) = Some port
granted_port _ = None

-- the named session's client has this address
abbrev pub is_client : List Entry → Option ℕ → IpAddr → Bool
is_client past s a = option_map_or (λ opening. same_ip opening.client a) (option_and_then (opener past) s) false

-- the entry grants port p to a session whose client is a; where there is no legacy listener, that is a hold
abbrev pub gives_hold : Options → List Entry → Entry → IpAddr → ℕ → Bool
gives_hold o past e a p =
    not (is_legacy o.mode) && (is_number (granted_port e.decision) p && is_client past (named_session e.event.kind) a)

-- the entry is a data connection from a to port p, whatever was decided of it
abbrev pub comes_to : Options → Entry → IpAddr → ℕ → Bool
comes_to o e a p =
    option_map_or (λ t. same_ip t.client a && (t.port == p)) (target o e.event.kind e.answer) false

-- the decisions that replace or drop the slot of the session that the entry names
abbrev pub gives_up_hold : Decision → Bool
gives_up_hold d = gives_up (slot_move d)

-- the entry ends a hold of session h: a stop ends every hold
abbrev pub ends_hold : Entry → ℕ → Bool
ends_hold e h = is_stop e.decision || (is_number (named_session e.event.kind) h && gives_up_hold e.decision)

-- the session that holds port p for the client a
abbrev pub holder : Options → List Entry → IpAddr → ℕ → Option ℕ
holder o [] a p = None
holder o (e ∷ past) a p =
    let before = holder o past a p in
    gives_hold o past e a p ⇒ named_session e.event.kind
    ∣ comes_to o e a p ⇒ None
    ∣ option_map_or (ends_hold e) before false ⇒ None
    ∣ before

-- the holder of what an event comes for
abbrev pub holder_of_target : Options → List Entry → EventKind → Answer → Option ℕ
holder_of_target o past k answer = option_and_then (λ t. holder o past t.client t.port) (target o k answer)

-- the first port, in the order that the word chooses, which nobody holds for the client a
abbrev pub first_free_port : Options → List Entry → IpAddr → ℕ → Option ℕ
first_free_port o past a word = first_free (holder o past a) o.lo o.hi word
