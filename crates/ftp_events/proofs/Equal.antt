-- Where two events, decisions, actions or entries are equal, they are one.
use Rattle.std.proofs.Common.{◌&&◌}
use lib.Dec.{eqb}
use Rattle.ftp_base.specs.contracts.error_kind.ErrorKindPartialEq.TheImpl as error_kind-eq
use Rattle.ftp_base.specs.contracts.error_kind.ErrorKind as error_kind
use Rattle.ftp_base.specs.contracts.fault.LinkFaultPartialEq.TheImpl as link_fault-eq
use Rattle.ftp_base.specs.contracts.fault.LinkFault as link_fault
use Rattle.ftp_base.specs.contracts.login.AuthAnswerPartialEq.TheImpl as auth_answer-eq
use Rattle.ftp_base.specs.contracts.login.AuthAnswer as auth_answer
use Rattle.ftp_base.specs.contracts.login.LockStatePartialEq.TheImpl as lock_state-eq
use Rattle.ftp_base.specs.contracts.login.LockState as lock_state
use Rattle.ftp_base.specs.contracts.reply.ReplyCodePartialEq.TheImpl as reply_code-eq
use Rattle.ftp_base.specs.contracts.reply.ReplyCode as reply_code
use Rattle.ftp_base.specs.contracts.notice.PresenceEventPartialEq.TheImpl as presence_event-eq
use Rattle.ftp_base.specs.contracts.notice.PresenceEvent as presence_event
use Rattle.ftp_proxy.specs.contracts.error.ReadErrorPartialEq.TheImpl as read_error-eq
use Rattle.ftp_proxy.specs.contracts.error.ReadError as read_error
use Rattle.ftp_base.specs.contracts.bytes.BytesPartialEq.TheImpl as bytes-eq
use Rattle.ftp_base.specs.contracts.net.IpAddrPartialEq.TheImpl as ip_addr-eq
use Rattle.ftp_base.specs.contracts.net.IpAddr as ip_addr
use Rattle.ftp_base.specs.contracts.net.SocketAddrPartialEq.TheImpl as socket_addr-eq
use Rattle.ftp_base.specs.contracts.trace.TraceIdPartialEq.TheImpl as trace_id-eq
use Rattle.ftp_base.specs.contracts.reply.ReplyPartialEq.TheImpl as reply-eq
use Rattle.ftp_base.specs.contracts.reply.Reply as reply
use Rattle.ftp_base.specs.contracts.command.DataChanCmdPartialEq.TheImpl as data_chan_cmd-eq
use Rattle.ftp_base.specs.contracts.command.DataChanCmd as data_chan_cmd
use Rattle.ftp_base.specs.contracts.notice.DataEventPartialEq.TheImpl as data_event-eq
use Rattle.ftp_base.specs.contracts.notice.DataEvent as data_event
use Rattle.ftp_base.specs.contracts.notice.EventMetaPartialEq.TheImpl as event_meta-eq
use Rattle.ftp_base.specs.contracts.message.ControlChanMsgPartialEq.TheImpl as control_chan_msg-eq
use Rattle.ftp_base.specs.contracts.message.ControlChanMsg as control_chan_msg
use Rattle.ftp_base.specs.contracts.notice.NoticePartialEq.TheImpl as notice-eq
use Rattle.ftp_base.specs.contracts.notice.Notice as notice
use Rattle.ftp_proxy.specs.contracts.error.ProxyErrorPartialEq.TheImpl as proxy_error-eq
use Rattle.ftp_proxy.specs.contracts.error.ProxyError as proxy_error
use Rattle.ftp_proxy.specs.contracts.header.ProxyHeaderPartialEq.TheImpl as proxy_header-eq
use Rattle.ftp_transfer.specs.contracts.job.TicketPartialEq.TheImpl as ticket-eq
use Rattle.ftp_transfer.specs.contracts.job.CompletionPartialEq.TheImpl as completion-eq
use Rattle.ftp_transfer.specs.contracts.job.Completion as completion
use Rattle.std.specs.Option.{option_eq}
use Rattle.ftp_transfer.specs.contracts.job.OutcomePartialEq.TheImpl as outcome-eq
use Rattle.ftp_events.specs.contracts.event.EventKindPartialEq.TheImpl as event_kind-eq
use Rattle.ftp_events.specs.contracts.event.EventKind as event_kind
use Rattle.ftp_events.specs.contracts.event.HubEventPartialEq.TheImpl as hub_event-eq
use Rattle.ftp_events.specs.contracts.event.AnswerPartialEq.TheImpl as answer-eq
use Rattle.ftp_events.specs.contracts.event.Answer as answer
use Rattle.ftp_events.specs.contracts.decision.DecisionPartialEq.TheImpl as decision-eq
use Rattle.ftp_events.specs.contracts.decision.Decision as decision
use Rattle.ftp_events.specs.contracts.action.ActionPartialEq.TheImpl as action-eq
use Rattle.ftp_events.specs.contracts.action.Action as action
use Rattle.ftp_events.specs.contracts.action.ActionsPartialEq.TheImpl as actions-eq
use Rattle.ftp_events.specs.contracts.entry.EntryPartialEq.TheImpl as entry-eq
use Rattle.ftp_events.proofs.Exact.{◌⨾◌, Exact, by_exact, both, exact0, exact1, exact2, exact3, exact4, exact-bare, exact-list, exact-number, exact-option, exact-result, exact-truth, exacts}

-- what a storage refuses
pub exact-error-kind : Exact error_kind-eq.ghosts.eq
exact-error-kind = exact-bare error_kind.enum tt

-- what a link meets
pub exact-link-fault : Exact link_fault-eq.ghosts.eq
exact-link-fault = exact-bare link_fault.enum tt

-- what an authenticator answers
pub exact-auth-answer : Exact auth_answer-eq.ghosts.eq
exact-auth-answer = exact-bare auth_answer.enum tt

-- what locks a login
pub exact-lock-state : Exact lock_state-eq.ghosts.eq
exact-lock-state = exact-bare lock_state.enum tt

-- codes of replies
pub exact-reply-code : Exact reply_code-eq.ghosts.eq
exact-reply-code = exact-bare reply_code.enum tt

-- logins and endings
pub exact-presence-event : Exact presence_event-eq.ghosts.eq
exact-presence-event = exact-bare presence_event.enum tt

-- why no line was read
pub exact-read-error : Exact read_error-eq.ghosts.eq
exact-read-error = exact-bare read_error.enum tt

-- texts
pub exact-bytes : Exact bytes-eq.ghosts.eq
exact-bytes = exact-list exact-number

-- addresses
pub exact-ip-addr : Exact ip_addr-eq.ghosts.eq
exact-ip-addr = by_exact ip_addr.enum _ (exact1 exact-number, (exact1 exact-number, tt))

-- addresses with their ports
pub exact-socket-addr : Exact socket_addr-eq.ghosts.eq
exact-socket-addr = record {
  same = λ x y h.
      let p = both (ip_addr-eq.ghosts.eq x.ip y.ip) (eqb x.port y.port) h in
      λ i. record { ip = exact-ip-addr.same x.ip y.ip p.0 i; port = exact-number.same x.port y.port p.1 i };
}

-- trace ids
pub exact-trace-id : Exact trace_id-eq.ghosts.eq
exact-trace-id = record { same = λ x y h i. record { 0 = exact-number.same x.0 y.0 h i } }

-- replies
pub exact-reply : Exact reply-eq.ghosts.eq
exact-reply = by_exact reply.enum _ (search (exacts, exact2 exact-reply-code exact-bytes))

-- commands that transfer
pub exact-data-chan-cmd : Exact data_chan_cmd-eq.ghosts.eq
exact-data-chan-cmd = by_exact data_chan_cmd.enum _ (search (exacts, exact1 exact-bytes, exact1 (exact-option exact-bytes), exact2 (exact-option exact-bytes) (exact-option exact-bytes)))

-- what was done with a file
pub exact-data-event : Exact data_event-eq.ghosts.eq
exact-data-event = by_exact data_event.enum _ (search (exacts, exact1 exact-bytes, exact2 exact-bytes exact-bytes, exact2 exact-bytes exact-number))

-- whom a notification is about
pub exact-event-meta : Exact event_meta-eq.ghosts.eq
exact-event-meta = record {
  same = λ x y h.
      let p = both (bytes-eq.ghosts.eq x.username y.username) (trace_id-eq.ghosts.eq x.trace_id y.trace_id && eqb x.sequence_number y.sequence_number) h in
      let q = both (trace_id-eq.ghosts.eq x.trace_id y.trace_id) (eqb x.sequence_number y.sequence_number) p.1 in
      λ i. record { username = exact-bytes.same x.username y.username p.0 i; trace_id = exact-trace-id.same x.trace_id y.trace_id q.0 i; sequence_number = exact-number.same x.sequence_number y.sequence_number q.1 i };
}

-- notifications
pub exact-notice : Exact notice-eq.ghosts.eq
exact-notice = by_exact notice.enum _ (search (exacts, exact1 exact-presence-event, exact1 exact-data-event))

-- why a header is none
pub exact-proxy-error : Exact proxy_error-eq.ghosts.eq
exact-proxy-error = by_exact proxy_error.enum _ (search (exacts, exact1 exact-read-error))

-- headers
pub exact-proxy-header : Exact proxy_header-eq.ghosts.eq
exact-proxy-header = record {
  same = λ x y h.
      let p = both (socket_addr-eq.ghosts.eq x.source y.source) (socket_addr-eq.ghosts.eq x.destination y.destination) h in
      λ i. record { source = exact-socket-addr.same x.source y.source p.0 i; destination = exact-socket-addr.same x.destination y.destination p.1 i };
}

-- tickets
pub exact-ticket : Exact ticket-eq.ghosts.eq
exact-ticket = record {
  same = λ x y h.
      let p = both (eqb x.session y.session) (eqb x.nr y.nr) h in
      λ i. record { session = exact-number.same x.session y.session p.0 i; nr = exact-number.same x.nr y.nr p.1 i };
}

-- results of transfers
pub exact-completion : Exact completion-eq.ghosts.eq
exact-completion = by_exact completion.enum _ (search (exacts, exact1 exact-error-kind))

-- outcomes of transfers
pub exact-outcome : Exact outcome-eq.ghosts.eq
exact-outcome = record {
  same = λ x y h.
      let p = both (completion-eq.ghosts.eq x.result y.result) (eqb x.bytes y.bytes && option_eq link_fault-eq.ghosts.eq x.fault y.fault) h in
      let q = both (eqb x.bytes y.bytes) (option_eq link_fault-eq.ghosts.eq x.fault y.fault) p.1 in
      λ i. record { result = exact-completion.same x.result y.result p.0 i; bytes = exact-number.same x.bytes y.bytes q.0 i; fault = (exact-option exact-link-fault).same x.fault y.fault q.1 i };
}

-- messages of the control layer
pub exact-control-chan-msg : Exact control_chan_msg-eq.ghosts.eq
exact-control-chan-msg = by_exact control_chan_msg.enum _ (
    exact0 ⨾  -- PermissionDenied
    exact0 ⨾  -- NotFound
    exact2 exact-bytes exact-number ⨾  -- SentData
    exact2 exact-bytes exact-number ⨾  -- WrittenData
    exact0 ⨾  -- ConnectionReset
    exact0 ⨾  -- DataConnectionClosedAfterStor
    exact0 ⨾  -- WriteFailed
    exact0 ⨾  -- DirectorySuccessfullyListed
    exact0 ⨾  -- DirectoryListFailure
    exact0 ⨾  -- CwdSuccess
    exact1 exact-bytes ⨾  -- DelFileSuccess
    exact1 exact-bytes ⨾  -- RmDirSuccess
    exact2 exact-bytes exact-bytes ⨾  -- RenameSuccess
    exact0 ⨾  -- DelFail
    exact1 exact-bytes ⨾  -- MkDirSuccess
    exact0 ⨾  -- MkdirFail
    exact2 exact-bytes exact-trace-id ⨾  -- AuthSuccess
    exact0 ⨾  -- AuthFailed
    exact0 ⨾  -- ExitControlLoop
    exact0 ⨾  -- SecureControlChannel
    exact0 ⨾  -- PlaintextControlChannel
    exact1 exact-reply ⨾  -- CommandChannelReply
    exact1 exact-error-kind ⨾  -- StorageError
    tt
    )

-- what happens
pub exact-event-kind : Exact event_kind-eq.ghosts.eq
exact-event-kind = by_exact event_kind.enum _ (
    exact4 exact-number exact-socket-addr exact-socket-addr exact-number ⨾  -- Connect
    exact3 exact-number exact-socket-addr exact-number ⨾  -- Proxied
    exact3 exact-number exact-socket-addr exact-number ⨾  -- DataIn
    exact3 exact-number exact-number exact-socket-addr ⨾  -- Accepted
    exact2 exact-number exact-bytes ⨾  -- User
    exact1 exact-number ⨾  -- Pass
    exact2 exact-number exact-auth-answer ⨾  -- AuthDone
    exact4 exact-number exact-number (exact-option exact-number) (exact-option exact-number) ⨾  -- Pasv
    exact3 exact-number exact-bytes (exact-option exact-number) ⨾  -- Port
    exact2 exact-number exact-data-chan-cmd ⨾  -- Transfer
    exact2 exact-number exact-number ⨾  -- Stou
    exact2 exact-number exact-number ⨾  -- Rest
    exact3 exact-number exact-bytes (exact-option exact-error-kind) ⨾  -- Cwd
    exact1 exact-ticket ⨾  -- End
    exact1 exact-ticket ⨾  -- Piece
    exact1 exact-number ⨾  -- Quit
    exact1 exact-number ⨾  -- Closed
    exact1 exact-number ⨾  -- Abor
    exact2 exact-number exact-control-chan-msg ⨾  -- Internal
    exact1 exact-number ⨾  -- SlotTick
    exact1 exact-number ⨾  -- IdleTick
    exact0 ⨾  -- Sweep
    exact0 ⨾  -- Scavenge
    exact0 ⨾  -- Shutdown
    tt
    )

-- events
pub exact-hub-event : Exact hub_event-eq.ghosts.eq
exact-hub-event = record {
  same = λ x y h.
      let p = both (eqb x.at y.at) (event_kind-eq.ghosts.eq x.kind y.kind) h in
      λ i. record { at = exact-number.same x.at y.at p.0 i; kind = exact-event-kind.same x.kind y.kind p.1 i };
}

-- answers
pub exact-answer : Exact answer-eq.ghosts.eq
exact-answer = by_exact answer.enum _ (search (exacts, exact1 (exact-result exact-proxy-header exact-proxy-error), exact1 exact-outcome, exact1 exact-number))

-- decisions
pub exact-decision : Exact decision-eq.ghosts.eq
exact-decision = by_exact decision.enum _ (
    exact0 ⨾  -- UnknownNumber
    exact0 ⨾  -- UsedNumber
    exact0 ⨾  -- Misplaced
    exact0 ⨾  -- NotExpected
    exact0 ⨾  -- Opened
    exact0 ⨾  -- Turned
    exact1 exact-proxy-error ⨾  -- HeaderFault
    exact1 exact-number ⨾  -- Attached
    exact0 ⨾  -- BadSequence
    exact0 ⨾  -- NeedPass
    exact0 ⨾  -- PassOut
    exact0 ⨾  -- Reauth
    exact0 ⨾  -- LoggedIn
    exact2 (exact-option exact-lock-state) exact-number ⨾  -- LoginFailed
    exact0 ⨾  -- NotLoggedIn
    exact0 ⨾  -- ModeOff
    exact0 ⨾  -- Full
    exact0 ⨾  -- NoLookup
    exact1 exact-number ⨾  -- Granted
    exact0 ⨾  -- NoSocket
    exact0 ⨾  -- BadAddress
    exact0 ⨾  -- OtherAddress
    exact0 ⨾  -- NoConnection
    exact0 ⨾  -- PortOk
    exact0 ⨾  -- NoSlot
    exact1 exact-ticket ⨾  -- Queued
    exact0 ⨾  -- Finished
    exact0 ⨾  -- Moved
    exact0 ⨾  -- Cut
    exact0 ⨾  -- NoRestart
    exact0 ⨾  -- RestOk
    exact1 exact-error-kind ⨾  -- CwdRefused
    exact0 ⨾  -- CwdOk
    exact0 ⨾  -- Aborted
    exact0 ⨾  -- Aborting
    exact0 ⨾  -- NothingToAbort
    exact0 ⨾  -- Told
    exact0 ⨾  -- Early
    exact0 ⨾  -- Waited
    exact0 ⨾  -- SlotDropped
    exact0 ⨾  -- Swept
    exact0 ⨾  -- Scavenged
    exact0 ⨾  -- Quit
    exact0 ⨾  -- Closed
    exact0 ⨾  -- TimedOut
    exact0 ⨾  -- Stopped
    tt
    )

-- actions
pub exact-action : Exact action-eq.ghosts.eq
exact-action = by_exact action.enum _ (
    exact2 exact-ticket exact-truth ⨾  -- Completed
    exact1 exact-ticket ⨾  -- Cancelled
    exact1 exact-number ⨾  -- Close
    exact3 exact-number exact-event-meta exact-notice ⨾  -- Notify
    exact3 exact-number exact-number exact-reply ⨾  -- Reply
    exact2 exact-ticket exact-number ⨾  -- Start
    tt
    )

-- lists of actions
pub exact-actions : Exact actions-eq.ghosts.eq
exact-actions = exact-list exact-action

-- entries
pub exact-entry : Exact entry-eq.ghosts.eq
exact-entry = record {
  same = λ x y h.
      let p = both (hub_event-eq.ghosts.eq x.event y.event) (answer-eq.ghosts.eq x.answer y.answer && (decision-eq.ghosts.eq x.decision y.decision && actions-eq.ghosts.eq x.actions y.actions)) h in
      let q = both (answer-eq.ghosts.eq x.answer y.answer) (decision-eq.ghosts.eq x.decision y.decision && actions-eq.ghosts.eq x.actions y.actions) p.1 in
      let r = both (decision-eq.ghosts.eq x.decision y.decision) (actions-eq.ghosts.eq x.actions y.actions) q.1 in
      λ i. record { event = exact-hub-event.same x.event y.event p.0 i; answer = exact-answer.same x.answer y.answer q.0 i; decision = exact-decision.same x.decision y.decision r.0 i; actions = exact-actions.same x.actions y.actions r.1 i };
}
