-- Worked examples of connections for one session alone, of looks at its slot, and of logins that fail: as they are printed, and
-- the lines of their events.
use Rattle.std.proofs.Common.{◌≡◌, ℕ, List, [], ◌∷◌, ◌++◌, Some, None, refl}
use Rattle.std.specs.Prelude.{codes}
use Rattle.std.specs.List.{flat_map}
use Rattle.std.specs.Fmt.{digits}
use Rattle.ftp_base.specs.declared.login.LockState.TheVariants as lock
use Rattle.ftp_base.specs.declared.net.IpAddr.TheVariants.{V4}
use Rattle.ftp_base.specs.declared.net.SocketAddr.{SocketAddr}
use Rattle.ftp_base.specs.declared.reply.Reply.TheVariants as reply
use Rattle.ftp_base.specs.declared.reply.ReplyCode.TheVariants as code
use Rattle.ftp_events.specs.declared.action.Action.{Action}
use Rattle.ftp_events.specs.declared.action.Action.TheVariants as action
use Rattle.ftp_events.specs.declared.decision.Decision.{Decision}
use Rattle.ftp_events.specs.declared.decision.Decision.TheVariants as decision
use Rattle.ftp_events.specs.declared.entry.Entry.{Entry}
use Rattle.ftp_events.specs.declared.event.Answer.TheVariants as answer
use Rattle.ftp_events.specs.declared.event.EventKind.{EventKind}
use Rattle.ftp_events.specs.declared.event.EventKind.TheVariants as kind
use Rattle.ftp_events.specs.declared.event.HubEvent.{HubEvent}
use Rattle.ftp_text.specs.Reading.{number_at, small_at, dotted_at, ipv4_at, address_at, optional_field, text_from, text_field, word_value, word_at}
use Rattle.ftp_text.specs.Events.{event_line}
use Rattle.ftp_text.specs.Printing.{print, decision_line}
use Rattle.ftp_text.specs.EventReading.{event_of, read_as}
use Rattle.ftp_text.proofs.Samples.{AreRead, AreBad}

abbrev client : SocketAddr
client = record { ip = V4 167772161; port = 4001 }

abbrev happens : EventKind → HubEvent
happens k = record { at = 7; kind = k }

abbrev entry : EventKind → Decision → List Action → Entry
entry k d actions = record { event = happens k; answer = answer.None; decision = d; actions = actions }

abbrev told : ℕ → List ℕ → Action
told delay text = action.Reply 1 delay (reply.CodeAndMsg code.CantOpenDataConnection text)

-- ---- as they are printed

-- a connection that was made for a PORT, one that was not, and one that was awaited and then dropped
abbrev connections : List Entry
connections =
    entry (kind.Port 1 (codes "10,0,0,1,15,161") (Some 11)) decision.PortOk (action.Reply 1 0 (reply.CodeAndMsg code.CommandOkay (codes "PORT command successful")) ∷ [])
    ∷ entry (kind.Port 1 (codes "10,0,0,1,15,162") None) decision.NoConnection (told 0 (codes "Could not establish data connection") ∷ [])
    ∷ entry (kind.Accepted 1 12 client) (decision.Attached 1) []
    ∷ entry (kind.SlotTick 1) decision.SlotDropped (action.Close 12 ∷ [])
    ∷ entry kind.Sweep decision.Swept [] ∷ []

pub print-connections : print connections
    ≡ codes "> 7 port 1 11 10,0,0,1,15,161\n= portok\n- reply 1 0 200 PORT command successful\n"
    ++ codes "> 7 port 1 - 10,0,0,1,15,162\n= noconnection\n- reply 1 0 425 Could not establish data connection\n"
    ++ codes "> 7 accepted 1 12 10.0.0.1:4001\n= attached 1\n"
    ++ codes "> 7 slot 1\n= slotdropped\n- close 12\n"
    ++ codes "> 7 sweep\n= swept\n"
unfolding digits
print-connections = refl

-- each decision on them
pub decision_lines : flat_map decision_line
    (decision.ModeOff ∷ decision.NoLookup ∷ decision.NoSocket ∷ decision.BadAddress ∷ decision.OtherAddress
    ∷ decision.NoConnection ∷ decision.PortOk ∷ decision.Early ∷ decision.SlotDropped ∷ decision.Swept ∷ [])
    ≡ codes "= modeoff\n= nolookup\n= nosocket\n= badaddress\n= otheraddress\n= noconnection\n= portok\n= early\n= slotdropped\n= swept\n"
decision_lines = refl

-- each way in which a failed login stands with the lock
pub login_lines : flat_map decision_line
    (decision.LoginFailed None 4294967295 ∷ decision.LoginFailed (Some lock.MaxFailuresReached) 0 ∷ decision.LoginFailed (Some lock.AlreadyLocked) 1500 ∷ [])
    ≡ codes "= loginfailed none 4294967295\n= loginfailed reached 0\n= loginfailed locked 1500\n"
unfolding digits
login_lines = refl

-- ---- the lines of the events

-- what a PORT says is any text
pub port_line : event_line (happens (kind.Port 1 (97 ∷ 32 ∷ 255 ∷ []) (Some 18446744073709551615))) ≡ codes "7 port 1 18446744073709551615 a \\xff"
unfolding digits
port_line = refl

pub read_lines : AreRead event_of
    ((happens (kind.Accepted 1 12 client), codes "7 accepted 1 12 10.0.0.1:4001")
    ∷ (happens (kind.Port 1 (codes "10,0,0,1,15,161") (Some 11)), codes "7 port 1 11 10,0,0,1,15,161")
    ∷ (happens (kind.Port 1 [] None), codes "7 port 1 - ")
    ∷ (happens (kind.SlotTick 1), codes "7 slot 1")
    ∷ (happens kind.Sweep, codes "7 sweep") ∷ [])
unfolding event_of word_value read_as number_at small_at dotted_at ipv4_at address_at word_at digits optional_field text_field text_from
read_lines = refl

-- ---- lines that spell nothing

pub bad_lines : AreBad event_of
    (codes "7 port 1 -"
    ∷ codes "7 port 1 18446744073709551616 10,0,0,1,15,161"
    ∷ codes "7 accepted 1 12"
    ∷ codes "7 sweep " ∷ [])
unfolding event_of word_value read_as number_at optional_field text_field word_at digits
bad_lines = refl
