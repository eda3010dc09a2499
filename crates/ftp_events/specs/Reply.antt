-- The reply to each decision.
use Rattle.std.specs.Prelude.{ℕ, List, [], ◌++◌, codes, Option, Some, None, unwrap_or}
use Rattle.std.specs.Option.{option_map_or}
use Rattle.ftp_base.specs.declared.message.ControlChanMsg.{ControlChanMsg}
use Rattle.ftp_base.specs.declared.message.ControlChanMsg.TheVariants as message
use Rattle.ftp_base.specs.declared.reply.ReplyCode.TheVariants as code
use Rattle.ftp_base.specs.declared.reply.Reply.{Reply}
use Rattle.ftp_base.specs.declared.reply.Reply.TheVariants as reply
use Rattle.ftp_base.specs.declared.trace.TraceId.{TraceId}
use Rattle.ftp_base.specs.declared.net.IpAddr.{IpAddr}
use Rattle.ftp_base.specs.declared.command.DataChanCmd.TheVariants.{Retr, Stor, Appe}
use Rattle.ftp_events.specs.declared.session.Running.{Running}
use Rattle.ftp_options.specs.declared.options.Options.{Options}
use Rattle.ftp_options.specs.declared.host.PassiveHost.{PassiveHost}
use Rattle.ftp_options.specs.declared.host.PassiveHost.TheVariants.{Dns}
use Rattle.ftp_events.specs.declared.event.EventKind.{EventKind}
use Rattle.ftp_events.specs.declared.event.EventKind.TheVariants as kind
use Rattle.ftp_events.specs.declared.event.Answer.{Answer}
use Rattle.ftp_events.specs.declared.event.Answer.TheVariants.{Done}
use Rattle.ftp_events.specs.declared.decision.Decision.{Decision}
use Rattle.ftp_events.specs.declared.decision.Decision.TheVariants.{BadSequence, NeedPass, Reauth, LoggedIn, LoginFailed, NotLoggedIn, ModeOff, Full, NoLookup, NoSocket, Granted, BadAddress, OtherAddress, NoConnection, PortOk, NoSlot, Queued, NoRestart, RestOk, CwdRefused, CwdOk, Finished, Cut, Aborted, NothingToAbort, Told, Quit, TimedOut}
use Rattle.ftp_events.specs.declared.session.Login.{Login}
use Rattle.ftp_events.specs.declared.session.Login.TheVariants as login
use Rattle.ftp_events.specs.declared.session.Session.{Session}
use Rattle.ftp_events.specs.Advertised.{shown}
use Rattle.ftp_events.specs.Text.{passive_text, offset_text, unique_name}
use Rattle.ftp_events.specs.Message.{reply_of, message_of_outcome}

-- what is said where there is no address to show
abbrev pub unshown : PassiveHost → Reply
unshown (Dns name) = reply.CodeAndMsg code.CantOpenDataConnection (codes "Could not resolve DNS address '" ++ name ++ codes "'")
unshown _ = reply.CodeAndMsg code.CantOpenDataConnection (codes "No data connection established")

-- the reply that advertises a port, at the address that is shown
abbrev pub passive_reply : PassiveHost → IpAddr → Option ℕ → ℕ → Reply
passive_reply host called lookup port =
    option_map_or (λ ip. reply.CodeAndMsg code.EnteringPassiveMode (passive_text ip port)) (shown host called lookup) (unshown host)

-- which mode is off
abbrev pub mode_text : EventKind → List ℕ
mode_text (kind.Pasv session word lookup bound) = codes "Passive mode is switched off"
mode_text _ = codes "Active mode is switched off"

-- the address that was looked up for a PASV
abbrev pub lookup_of : EventKind → Option ℕ
lookup_of (kind.Pasv session word lookup bound) = lookup
lookup_of _ = None

-- why a login command is out of sequence
abbrev pub sequence_text : EventKind → Login → List ℕ
sequence_text (kind.Pass session) login.New = codes "Please supply a username first"
sequence_text (kind.User session name) login.LoggedIn = codes "Already logged in"
sequence_text _ _ = codes "A password is being checked"

-- the text that answers a REST
abbrev pub restart_text : EventKind → List ℕ
restart_text (kind.Rest session offset) = offset_text offset
restart_text _ = []

-- the text of a 150
abbrev pub queued_text : EventKind → List ℕ
queued_text (kind.Stou session word) = unique_name word
queued_text (kind.Transfer session (Retr path)) = codes "Sending data"
queued_text (kind.Transfer session (Stor path)) = codes "Ready to receive data"
queued_text (kind.Transfer session (Appe path)) = codes "Ready to receive data"
queued_text _ = codes "Sending directory list"

-- the path of a job, where there is one
abbrev pub path_of_job : Option Running → List ℕ
path_of_job None = []
path_of_job (Some r) = r.job.path

-- a trace id
abbrev pub trace_of : ℕ → TraceId
trace_of trace = record { 0 = trace }

-- the message to the control layer that goes with a decision
abbrev pub message_for : Session → Option Running → EventKind → Answer → Decision → Option ControlChanMsg
message_for v job k answer LoggedIn = Some (message.AuthSuccess (unwrap_or v.name []) (trace_of v.opening.trace))
message_for v job k answer (LoginFailed lock delay) = Some message.AuthFailed
message_for v job k (Done outcome) Finished = Some (message_of_outcome (path_of_job job) outcome outcome.result)
message_for v job (kind.Internal session given) answer Told = Some given
message_for v job k answer CwdOk = Some message.CwdSuccess
message_for v job k answer (CwdRefused refusal) = Some (message.StorageError refusal)
message_for v job k answer _ = None

-- the reply that goes with a decision: of its own, or that of its message
abbrev pub reply_for : Options → Session → Option ControlChanMsg → EventKind → Decision → Reply
reply_for o v m k NeedPass = reply.CodeAndMsg code.NeedPassword (codes "Password Required")
reply_for o v m k BadSequence = reply.CodeAndMsg code.BadCommandSequence (sequence_text k v.login)
reply_for o v m k Reauth = reply.CodeAndMsg code.NotLoggedIn (codes "Please open a new connection to re-authenticate")
reply_for o v m k NotLoggedIn = reply.CodeAndMsg code.NotLoggedIn (codes "Please authenticate")
reply_for o v m k (Granted port) = passive_reply o.host v.opening.local.ip (lookup_of k) port
reply_for o v m k Full = reply.CodeAndMsg code.CantOpenDataConnection (codes "Could not allocate passive port")
reply_for o v m k NoLookup = unshown o.host
reply_for o v m k NoSocket = reply.CodeAndMsg code.CantOpenDataConnection (codes "No data connection established")
reply_for o v m k BadAddress = reply.CodeAndMsg code.ParameterSyntaxError (codes "Invalid address format")
reply_for o v m k OtherAddress = reply.CodeAndMsg code.CantOpenDataConnection (codes "Could not establish data connection")
reply_for o v m k NoConnection = reply.CodeAndMsg code.CantOpenDataConnection (codes "Could not establish data connection")
reply_for o v m k PortOk = reply.CodeAndMsg code.CommandOkay (codes "PORT command successful")
reply_for o v m k ModeOff = reply.CodeAndMsg code.CommandNotImplemented (mode_text k)
reply_for o v m k NoSlot = reply.CodeAndMsg code.CantOpenDataConnection (codes "No data connection established")
reply_for o v m k (Queued ticket) = reply.CodeAndMsg code.FileStatusOkay (queued_text k)
reply_for o v m k RestOk = reply.CodeAndMsg code.FileActionPending (restart_text k)
reply_for o v m k NoRestart = reply.CodeAndMsg code.CommandNotImplemented (codes "Not supported by the selected storage back-end.")
reply_for o v m k Aborted = reply.CodeAndMsg code.ClosingDataConnection (codes "Closed data channel")
reply_for o v m k Cut = reply.CodeAndMsg code.ClosingDataConnection (codes "Closed data channel")
reply_for o v m k NothingToAbort = reply.CodeAndMsg code.ClosingDataConnection (codes "Data channel already closed")
reply_for o v m k TimedOut = reply.CodeAndMsg code.ClosingControlConnection (codes "Session timed out. Closing control connection")
reply_for o v m k Quit = reply.CodeAndMsg code.ClosingControlConnection (codes "Bye!")
reply_for o v (Some m) k _ = reply_of m
reply_for o v None k _ = reply.None

-- only a refused password on a locked key is told late
abbrev pub delay_of : Decision → ℕ
delay_of (LoginFailed lock delay) = delay
delay_of _ = 0
