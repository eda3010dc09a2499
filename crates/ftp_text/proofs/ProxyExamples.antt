-- Worked examples of connections behind a proxy: as they are printed, and the lines of their events.
use Rattle.std.proofs.Common.{◌≡◌, ℕ, ◌+◌, ◌^◌, List, [], ◌∷◌, ◌++◌, Some, None, refl}
use Rattle.std.specs.Prelude.{codes, Result, Ok, Err}
use Rattle.std.specs.Fmt.{digits}
use Rattle.ftp_base.specs.declared.net.IpAddr.TheVariants.{V4, V6}
use Rattle.ftp_base.specs.declared.net.SocketAddr.{SocketAddr}
use Rattle.ftp_proxy.specs.declared.error.ProxyError.{ProxyError}
use Rattle.ftp_proxy.specs.declared.error.ProxyError.TheVariants as fault
use Rattle.ftp_proxy.specs.declared.error.ReadError.TheVariants.{UnexpectedEof, Fault}
use Rattle.ftp_proxy.specs.declared.header.ProxyHeader.{ProxyHeader}
use Rattle.ftp_events.specs.declared.action.Action.{Action}
use Rattle.ftp_events.specs.declared.action.Action.TheVariants as action
use Rattle.ftp_events.specs.declared.decision.Decision.{Decision}
use Rattle.ftp_events.specs.declared.decision.Decision.TheVariants as decision
use Rattle.ftp_events.specs.declared.entry.Entry.{Entry}
use Rattle.ftp_events.specs.declared.event.Answer.TheVariants as answer
use Rattle.ftp_events.specs.declared.event.EventKind.TheVariants as kind
use Rattle.ftp_events.specs.declared.event.HubEvent.{HubEvent}
use Rattle.ftp_text.specs.Fields.{hex_digits}
use Rattle.ftp_text.specs.Reading.{number_at, small_at, dotted_at, address_at, ipv4_at, word_value, word_at}
use Rattle.ftp_text.specs.Events.{event_line}
use Rattle.ftp_text.specs.Printing.{print, answer_line, decision_line}
use Rattle.ftp_text.specs.EventReading.{event_of, read_as}
use Rattle.ftp_text.proofs.Samples.{AreSpelled}

-- the proxy 10.9.9.9
abbrev proxy : SocketAddr
proxy = record { ip = V4 168364297; port = 33000 }

-- the client 192.0.2.7
abbrev client : SocketAddr
client = record { ip = V4 3221225991; port = 40000 }

-- 198.51.100.1, which it called
abbrev called : SocketAddr
called = record { ip = V4 3325256705; port = 2121 }

abbrev header : Result ProxyHeader ProxyError
header = Ok (record { source = client; destination = called })

abbrev proxied : ℕ → ℕ → HubEvent
proxied n trace = record { at = 3; kind = kind.Proxied n proxy trace }

abbrev entry : ℕ → Result ProxyHeader ProxyError → Decision → List Action → Entry
entry n line d actions = record { event = proxied n 7; answer = answer.Header line; decision = d; actions = actions }

-- ---- as they are printed

-- a session is opened, and a connection without a header is closed
pub print-proxied : print (entry 1 header decision.Opened [] ∷ entry 2 (Err fault.CrlfError) (decision.HeaderFault fault.CrlfError) (action.Close 2 ∷ []) ∷ [])
    ≡ codes "> 3 proxied 1 10.9.9.9:33000 7\n? header 192.0.2.7:40000 198.51.100.1:2121\n= opened\n"
    ++ codes "> 3 proxied 2 10.9.9.9:33000 7\n? header crlf\n= headerfault crlf\n- close 2\n"
unfolding digits
print-proxied = refl

pub spelled_answers : AreSpelled answer_line
    -- an address of version 6 stands in brackets
    ((answer.Header (Ok (record { source = client; destination = record { ip = V6 (2 ^ 124 + 10); port = 21 } })), codes "? header 192.0.2.7:40000 [1000000000000000000000000000000a]:21\n")
    ∷ (answer.Header (Err (fault.ReadError UnexpectedEof)), codes "? header eof\n") ∷ [])
unfolding digits hex_digits
spelled_answers = refl

pub spelled_decisions : AreSpelled decision_line
    ((decision.HeaderFault fault.CrlfError, codes "= headerfault crlf\n")
    ∷ (decision.HeaderFault (fault.ReadError Fault), codes "= headerfault fault\n") ∷ [])
spelled_decisions = refl

-- ---- the line of the event

pub proxied_line : event_line (proxied 1 18446744073709551615) ≡ codes "3 proxied 1 10.9.9.9:33000 18446744073709551615"
unfolding digits
proxied_line = refl

pub read-proxied : event_of (codes "3 proxied 1 10.9.9.9:33000 7") ≡ Some (proxied 1 7)
unfolding event_of word_value read_as number_at small_at dotted_at ipv4_at address_at word_at digits
read-proxied = refl

pub bad-no_trace : event_of (codes "3 proxied 1 10.9.9.9:33000") ≡ None
unfolding event_of word_value read_as number_at small_at dotted_at ipv4_at address_at word_at digits
bad-no_trace = refl
