-- What is decided on connections: the first decision whose condition holds.
use Rattle.std.specs.Prelude.{ℕ, false, not, ◌&&◌, ◌||◌, List, Option, Some, None, Ok, Err}
use Rattle.std.specs.Option.{option_map_or}
use Rattle.ftp_base.specs.declared.net.IpAddr.{IpAddr}
use Rattle.ftp_base.specs.declared.net.SocketAddr.{SocketAddr}
use Rattle.ftp_base.specs.Net.{same_ip, is_v6}
use Rattle.ftp_options.specs.declared.options.Options.{Options}
use Rattle.ftp_options.specs.Modes.{is_pooled, is_proxy, is_control_port}
use Rattle.ftp_events.specs.declared.entry.Entry.{Entry}
use Rattle.ftp_events.specs.declared.event.Answer.{Answer}
use Rattle.ftp_events.specs.declared.event.Answer.TheVariants.{Header}
use Rattle.ftp_events.specs.declared.decision.Decision.{Decision}
use Rattle.ftp_events.specs.declared.decision.Decision.TheVariants.{UsedNumber, Misplaced, NotExpected, Opened, Turned, HeaderFault, Attached}
use Rattle.ftp_events.specs.Words.{◌⇒◌∣◌}
use Rattle.ftp_events.specs.Modes.{in_range}
use Rattle.ftp_events.specs.Log.{is_used, is_stopped}
use Rattle.ftp_events.specs.Board.{holder}
use Rattle.ftp_events.specs.Session.{session}

-- a control connection: behind a proxy none comes by itself, and after a stop none is served
abbrev pub connect_row : Options → List Entry → ℕ → SocketAddr → SocketAddr → Decision
connect_row o past number raw local =
    is_proxy o.mode || (is_pooled o.mode && (is_v6 raw.ip || is_v6 local.ip)) ⇒ Misplaced
    ∣ is_used past number ⇒ UsedNumber
    ∣ is_stopped past ⇒ Turned
    ∣ Opened

-- a data connection goes to the holder of its key, where the raw peers have one address
abbrev pub holder_row : Options → List Entry → SocketAddr → Option ℕ → Decision
holder_row o past raw None = Turned
holder_row o past raw (Some s) =
    option_map_or (λ v. same_ip v.opening.raw.ip raw.ip) (session o past s) false ⇒ Attached s
    ∣ Turned

-- a data connection to a port of the range
abbrev pub arrival_row : Options → List Entry → SocketAddr → IpAddr → ℕ → Decision
arrival_row o past raw client port =
    not (in_range o port) ⇒ Turned
    ∣ holder_row o past raw (holder o past client port)

-- a data connection to a pooled port
abbrev pub data_row : Options → List Entry → ℕ → SocketAddr → ℕ → Decision
data_row o past number raw port =
    not (is_pooled o.mode) || is_v6 raw.ip ⇒ Misplaced
    ∣ is_used past number ⇒ UsedNumber
    ∣ is_stopped past ⇒ Turned
    ∣ arrival_row o past raw raw.ip port

-- a connection behind a proxy, by its header: to the control port it opens a session, to any other it is a data connection
abbrev pub header_row : Options → List Entry → SocketAddr → Answer → Decision
header_row o past raw (Header (Ok line)) =
    is_v6 line.source.ip || is_v6 line.destination.ip ⇒ NotExpected
    ∣ is_control_port o.mode line.destination.port ⇒ Opened
    ∣ arrival_row o past raw line.source.ip line.destination.port
header_row o past raw (Header (Err fault)) = HeaderFault fault
header_row o past raw _ = NotExpected

-- a connection behind a proxy
abbrev pub proxied_row : Options → List Entry → ℕ → SocketAddr → Answer → Decision
proxied_row o past number raw answer =
    not (is_proxy o.mode) || is_v6 raw.ip ⇒ Misplaced
    ∣ is_used past number ⇒ UsedNumber
    ∣ is_stopped past ⇒ Turned
    ∣ header_row o past raw answer
