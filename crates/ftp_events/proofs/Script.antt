-- A small script language for the examples.
use Rattle.std.specs.Prelude.{ℕ, ◌≡◌, ◌≤◌, true, false, Some, ◌+◌, ◌*◌, List, [], ◌∷◌, map, reverse, drop, codes, None, Result, Ok}
use Rattle.std.proofs.Common.{lit≤}
use Rattle.ftp_base.specs.declared.net.IpAddr.{IpAddr}
use Rattle.ftp_base.specs.declared.net.IpAddr.TheVariants.{V4}
use Rattle.ftp_base.specs.declared.net.SocketAddr.{SocketAddr}
use Rattle.ftp_base.specs.declared.login.AuthAnswer.TheVariants.{Good}
use Rattle.ftp_base.specs.declared.reply.Reply.TheVariants.{CodeAndMsg}
use Rattle.ftp_base.specs.declared.reply.ReplyCode.{ReplyCode}
use Rattle.ftp_base.specs.declared.reply.ReplyCode.TheVariants as code
use Rattle.ftp_base.specs.declared.notice.DataEvent.{DataEvent}
use Rattle.ftp_base.specs.declared.notice.Notice.{Notice}
use Rattle.ftp_base.specs.declared.notice.Notice.TheVariants.{Data}
use Rattle.ftp_options.specs.declared.options.Options.{Options}
use Rattle.ftp_proxy.specs.declared.error.ProxyError.{ProxyError}
use Rattle.ftp_proxy.specs.declared.header.ProxyHeader.{ProxyHeader}
use Rattle.ftp_transfer.specs.declared.job.Ticket.{Ticket}
use Rattle.ftp_transfer.specs.declared.job.Completion.{Completion}
use Rattle.ftp_options.specs.declared.options.ListenerMode.{ListenerMode}
use Rattle.ftp_options.specs.declared.options.ListenerMode.TheVariants.{Legacy, Pooled, Proxy}
use Rattle.ftp_options.specs.declared.host.PassiveHost.TheVariants.{FromConnection, Dns}
use Rattle.ftp_options.specs.declared.lockout.FailedLoginsBlock.TheVariants.{UserAndIP}
use Rattle.ftp_options.specs.declared.options.SiteMd5.TheVariants.{Accounts}
use Rattle.ftp_options.specs.Modes.{is_legacy}
use Rattle.ftp_options.specs.declared.options.ActivePassiveMode.TheVariants.{PassiveOnly, ActiveAndPassive}
use Rattle.ftp_events.specs.declared.entry.Entry.{Entry}
use Rattle.ftp_events.specs.declared.event.HubEvent.{HubEvent}
use Rattle.ftp_events.specs.declared.event.EventKind.{EventKind}
use Rattle.ftp_events.specs.declared.event.EventKind.TheVariants as kind
use Rattle.ftp_events.specs.declared.event.Answer.{Answer}
use Rattle.ftp_events.specs.declared.event.Answer.TheVariants as answer
use Rattle.ftp_events.specs.declared.decision.Decision.{Decision}
use Rattle.ftp_events.specs.declared.decision.Decision.TheVariants.{Finished}
use Rattle.ftp_events.specs.declared.action.Action.{Action}
use Rattle.ftp_events.specs.declared.action.Action.TheVariants as action
use Rattle.ftp_events.specs.Decide.{decide}
use Rattle.ftp_events.specs.Acts.{acts}
use Rattle.ftp_events.specs.Right.{log_of}
use Rattle.std.specs.Fmt.{digits}
use Rattle.uuid.specs.Text.{by_index}

-- an address by its four numbers
abbrev pub ip : ℕ → ℕ → ℕ → ℕ → IpAddr
ip a b c d = V4 (((a * 256 + b) * 256 + c) * 256 + d)

-- an address and a port
abbrev pub addr : IpAddr → ℕ → SocketAddr
addr a p = record { ip = a; port = p }

-- lawful options with these parts, the other settings as a builder has them
abbrev pub lawful : (mode : ListenerMode) (lo hi : ℕ) → lo ≤ hi → (is_legacy mode ≡ false → 1 ≤ lo) → Options
lawful mode lo hi ordered listens =
    record {
      mode = mode;
      lo = lo;
      hi = hi;
      host = FromConnection;
      active_passive = PassiveOnly;
      idle_ms = 600000;
      lockout = None;
      features = 1;
      site_md5 = Accounts;
      tls_flags = record { 0 = 25 };
      collect_metrics = false;
      greeting = None;
      ordered = ordered;
      listens = listens;
    }

-- pooled mode with the passive ports 50000 to 50001
abbrev pub two_ports : Options
two_ports = lawful Pooled 50000 50001 (lit≤ tt) (λ _. lit≤ tt)

-- with the port 50000 alone
abbrev pub one_port : Options
one_port = lawful Pooled 50000 50000 (lit≤ tt) (λ _. lit≤ tt)

-- with all ports
abbrev pub all_ports : Options
all_ports = lawful Pooled 1 65535 (lit≤ tt) (λ _. lit≤ tt)

-- behind a proxy, whose control port is 2121
abbrev pub proxied_ports : Options
proxied_ports = lawful (Proxy 2121) 50000 50001 (lit≤ tt) (λ _. lit≤ tt)

-- a listener for each session
abbrev pub own_ports : Options
own_ports = lawful Legacy 50000 50001 (lit≤ tt) (λ _. lit≤ tt)

-- three failed logins within two minutes lock a name from an address
abbrev pub locking : Options
locking = record two_ports { lockout = Some (record { max_attempts = 3; expires_after_ms = 120000; block_by = UserAndIP }) }

-- a name is advertised
abbrev pub named_host : Options
named_host = record two_ports { host = Dns (codes "ftp.example") }

-- both PASV and PORT are served
abbrev pub both_modes : Options
both_modes = record two_ports { active_passive = ActiveAndPassive }

-- an event and its answer
abbrev pub Event : Type 0
Event = HubEvent × Answer

-- an event at a moment, with no answer
abbrev pub event : ℕ → EventKind → Event
event at k = (record { at = at; kind = k }, answer.None)

-- a control connection of session s
abbrev pub opened : ℕ → IpAddr → Event
opened s a = event 0 (kind.Connect s (addr a 4000) (addr (ip 10 0 0 9) 21) s)

-- the four events of a login, oldest first
abbrev pub login : ℕ → IpAddr → List Event
login s a =
    opened s a ∷ event 0 (kind.User s (codes "ann")) ∷ event 0 (kind.Pass s) ∷ event 0 (kind.AuthDone s Good) ∷ []

-- a PASV with the word that chooses where the search begins
abbrev pub pasv : ℕ → ℕ → Event
pasv s word = event 1 (kind.Pasv s word None None)

-- a data connection
abbrev pub data_in : ℕ → SocketAddr → ℕ → Event
data_in number raw port = event 1 (kind.DataIn number raw port)

-- the header of a connection from 192.0.2.7 to 198.51.100.1, by its ports
abbrev pub header : ℕ → ℕ → Result ProxyHeader ProxyError
header p q = Ok (record { source = addr (ip 192 0 2 7) p; destination = addr (ip 198 51 100 1) q })

-- a connection behind the proxy 10.9.9.x, with its header
abbrev pub proxied : ℕ → ℕ → Result ProxyHeader ProxyError → Event
proxied number x line = (record { at = 1; kind = kind.Proxied number (addr (ip 10 9 9 x) 1) 1 }, answer.Header line)

-- a ticket
abbrev pub ticket : ℕ → ℕ → Ticket
ticket s nr = record { session = s; nr = nr }

-- a transfer that was run without a fault
abbrev pub done : Completion → ℕ → Answer
done r n = answer.Done (record { result = r; bytes = n; fault = None })

-- the end of a transfer of session s
abbrev pub ended : ℕ → ℕ → Completion → ℕ → Event
ended s nr r n = (record { at = 1; kind = kind.End (ticket s nr) }, done r n)

-- a piece of a transfer of session s, with its answer
abbrev pub piece : ℕ → ℕ → Answer → Event
piece s nr given = (record { at = 1; kind = kind.Piece (ticket s nr) }, given)

-- what an entry decided and did
abbrev pub said : Entry → Decision × List Action
said e = (e.decision, e.actions)

-- what the log of these events, oldest first, says after its first n entries
abbrev pub told_after : ℕ → Options → List Event → List (Decision × List Action)
told_after n o events = drop n (reverse (map said (log_of o (reverse events))))

-- the decisions alone
abbrev pub decided_after : ℕ → Options → List Event → List Decision
decided_after n o events = drop n (reverse (map (λ e. e.decision) (log_of o (reverse events))))

-- a reply without delay
abbrev pub say : ℕ → ReplyCode → List ℕ → Action
say s c text = action.Reply s 0 (CodeAndMsg c text)

-- the second notification about session 1
abbrev pub second_notice : Notice → Action
second_notice what = action.Notify 1 (record { username = codes "ann"; trace_id = record { 0 = 1 }; sequence_number = 2 }) what

-- the end of the first transfer of session 1, of which client and listeners are told, and what follows it
abbrev pub finished : DataEvent → List ℕ → List Action → Decision × List Action
finished what text rest =
    (Finished, action.Completed (ticket 1 1) true ∷ second_notice (Data what) ∷ say 1 code.ClosingDataConnection text ∷ rest)

-- two clients
abbrev pub a1 : IpAddr
a1 = ip 10 0 0 1

abbrev pub a2 : IpAddr
a2 = ip 10 0 0 2

-- opens all that the definitions compute with
unfoldable pub everything : ℕ
unfolding decide acts digits by_index
everything = 0
