-- Worked examples of endings, of messages and of a stop: what the definitions say of whole scripts, by computing.
use Rattle.std.specs.Prelude.{ℕ, ◌≡◌, ◌++◌, refl, false, codes, [], ◌∷◌}
use Rattle.ftp_base.specs.declared.command.DataChanCmd.TheVariants.{Retr}
use Rattle.ftp_base.specs.declared.error_kind.ErrorKind.TheVariants as error
use Rattle.ftp_base.specs.declared.message.ControlChanMsg.TheVariants as message
use Rattle.ftp_base.specs.declared.notice.Notice.TheVariants.{Presence, Data}
use Rattle.ftp_base.specs.declared.notice.PresenceEvent.TheVariants as presence
use Rattle.ftp_base.specs.declared.notice.DataEvent.TheVariants.{MadeDir, Renamed}
use Rattle.ftp_base.specs.declared.reply.Reply.TheVariants.{CodeAndMsg}
use Rattle.ftp_base.specs.declared.reply.ReplyCode.TheVariants as code
use Rattle.ftp_transfer.specs.declared.job.Completion.TheVariants.{Sent}
use Rattle.ftp_events.specs.declared.action.Action.{Action}
use Rattle.ftp_events.specs.declared.action.Action.TheVariants as action
use Rattle.ftp_events.specs.declared.decision.Decision.TheVariants as decision
use Rattle.ftp_events.specs.declared.event.EventKind.TheVariants as kind
use Rattle.ftp_events.proofs.Script.{everything, ticket, ended, addr, two_ports, one_port, proxied_ports, header, proxied, opened, event, login, pasv, told_after, decided_after, say, data_in, a1, a2, second_notice}

-- ann's session 1 is told to have gone, as its notice of this number
abbrev gone : ℕ → Action
gone n = action.Notify 1 (record { username = codes "ann"; trace_id = record { 0 = 1 }; sequence_number = n }) (Presence presence.LoggedOut)

-- a session may be idle for ten minutes, counted from what it did last
idle : told_after 4 two_ports (login 1 a1 ++ event 599999 (kind.IdleTick 1) ∷ event 600000 (kind.IdleTick 1) ∷ event 600000 (kind.Pass 1) ∷ [])
    ≡ ((decision.Early, [])
    ∷ (
      decision.TimedOut,
      gone 2 ∷ say 1 code.ClosingControlConnection (codes "Session timed out. Closing control connection") ∷ action.Close 1 ∷ [],
    )
    ∷ (decision.UnknownNumber, []) ∷ [])
unfolding everything
idle = refl

-- each command is an activity, and no look at a session is one
idle_from_last : decided_after 4 two_ports
    (login 1 a1 ++ event 1000 (kind.Rest 1 6) ∷ event 2000 (kind.IdleTick 1) ∷ event 3000 (kind.SlotTick 1) ∷ event 600999 (kind.IdleTick 1) ∷ event 601000 (kind.IdleTick 1) ∷ [])
    ≡ (decision.RestOk ∷ decision.Early ∷ decision.Early ∷ decision.Early ∷ decision.TimedOut ∷ [])
unfolding everything
idle_from_last = refl

-- a session whose job runs is at work, and so is one whose slot has a link; the wait starts again
idle_at_work : decided_after 6 two_ports
    (login 1 a1 ++ pasv 1 0 ∷ data_in 11 (addr a1 4001) 50000 ∷ event 600001 (kind.IdleTick 1) ∷ event 600001 (kind.Transfer 1 (Retr (codes "a")))
    ∷ event 1200000 (kind.IdleTick 1) ∷ event 1200001 (kind.IdleTick 1) ∷ event 1800000 (kind.IdleTick 1) ∷ event 1800001 (kind.IdleTick 1) ∷ [])
    ≡ (decision.Waited ∷ decision.Queued (ticket 1 1) ∷ decision.Early ∷ decision.Waited ∷ decision.Early ∷ decision.Waited ∷ [])
unfolding everything
idle_at_work = refl

-- a renaming is told to the client and to listeners; ABOR frees the port, and then there is nothing to abort
renaming_and_aborting : told_after 4 one_port
    (login 1 a1 ++ event 1 (kind.Internal 1 (message.RenameSuccess (codes "/a") (codes "/b"))) ∷ pasv 1 0 ∷ event 1 (kind.Abor 1) ∷ event 1 (kind.Abor 1) ∷ pasv 1 0 ∷ [])
    ≡ ((
      decision.Told,
      second_notice (Data (Renamed (codes "/a") (codes "/b")))
          ∷ say 1 code.FileActionOkay (codes "Renamed") ∷ [],
    )
    ∷ (decision.Granted 50000, say 1 code.EnteringPassiveMode (codes "Entering Passive Mode (10,0,0,9,195,80)") ∷ [])
    ∷ (decision.Aborted, say 1 code.ClosingDataConnection (codes "Closed data channel") ∷ [])
    ∷ (decision.NothingToAbort, say 1 code.ClosingDataConnection (codes "Data channel already closed") ∷ [])
    ∷ (decision.Granted 50000, say 1 code.EnteringPassiveMode (codes "Entering Passive Mode (10,0,0,9,195,80)") ∷ []) ∷ [])
unfolding everything
renaming_and_aborting = refl

-- ABOR cancels what waits and closes its link, and the transfer that runs is cut at its end
aborting_a_wait : told_after 8 two_ports
    (login 1 a1 ++ pasv 1 0 ∷ data_in 11 (addr a1 4001) 50000 ∷ event 1 (kind.Transfer 1 (Retr (codes "a"))) ∷ pasv 1 0
    ∷ event 1 (kind.Transfer 1 (Retr (codes "b"))) ∷ data_in 12 (addr a1 4002) 50000 ∷ event 1 (kind.Abor 1) ∷ ended 1 1 Sent 5 ∷ [])
    ≡ ((decision.Queued (ticket 1 2), say 1 code.FileStatusOkay (codes "Sending data") ∷ [])
    ∷ (decision.Attached 1, [])
    ∷ (
      decision.Aborting,
      action.Cancelled (ticket 1 2) ∷ say 1 code.ConnectionClosed (codes "Datachannel unexpectedly closed") ∷ action.Close 12 ∷ [],
    )
    ∷ (
      decision.Cut,
      action.Cancelled (ticket 1 1) ∷ say 1 code.ConnectionClosed (codes "Datachannel unexpectedly closed") ∷ action.Close 11
          ∷ say 1 code.ClosingDataConnection (codes "Closed data channel") ∷ [],
    ) ∷ [])
unfolding everything
aborting_a_wait = refl

-- a reply as it is, a refusal by the storage, a new directory before any login, and what only the core says
messages : told_after 1 two_ports
    (opened 1 a1 ∷ event 1 (kind.Internal 1 (message.CommandChannelReply (CodeAndMsg code.CommandOkay (codes "Always in binary mode"))))
    ∷ event 1 (kind.Internal 1 (message.StorageError error.PermissionDenied)) ∷ event 1 (kind.Internal 1 (message.MkDirSuccess (codes "/d")))
    ∷ event 1 (kind.Internal 1 message.WriteFailed) ∷ event 1 (kind.Internal 2 message.NotFound) ∷ [])
    ≡ ((decision.Told, say 1 code.CommandOkay (codes "Always in binary mode") ∷ [])
    ∷ (decision.Told, say 1 code.FileError (codes "Permission denied") ∷ [])
    ∷ (
      decision.Told,
      action.Notify 1 (record { username = codes "unknown"; trace_id = record { 0 = 1 }; sequence_number = 1 }) (Data (MadeDir (codes "/d")))
          ∷ say 1 code.DirCreated (codes "/d") ∷ [],
    )
    ∷ (decision.NotExpected, [])
    ∷ (decision.UnknownNumber, []) ∷ [])
unfolding everything
messages = refl

-- a stop ends every session in order of its number, with all that it has; the job that runs ends later, and is lost
stopping : told_after 12 two_ports
    (login 2 a1 ++ login 1 a1 ++ pasv 1 0 ∷ data_in 11 (addr a1 4001) 50000 ∷ event 1 (kind.Transfer 1 (Retr (codes "a"))) ∷ pasv 1 0
    ∷ event 1 (kind.Transfer 1 (Retr (codes "a"))) ∷ event 2 kind.Shutdown ∷ ended 1 1 Sent 5 ∷ ended 1 1 Sent 5 ∷ event 3 kind.Shutdown ∷ [])
    ≡ ((decision.Queued (ticket 1 2), say 1 code.FileStatusOkay (codes "Sending data") ∷ [])
    ∷ (
      decision.Stopped,
      action.Cancelled (ticket 1 2) ∷ gone 2 ∷ action.Close 1
          ∷ action.Notify 2 (record { username = codes "ann"; trace_id = record { 0 = 2 }; sequence_number = 2 }) (Presence presence.LoggedOut)
          ∷ action.Close 2 ∷ [],
    )
    ∷ (decision.Finished, action.Completed (ticket 1 1) false ∷ [])
    ∷ (decision.UnknownNumber, [])
    ∷ (decision.Stopped, []) ∷ [])
unfolding everything
stopping = refl

-- after it every connection is turned away and closed, and no session is known
after_a_stop : told_after 6 two_ports
    (login 1 a1 ++ pasv 1 0 ∷ event 2 kind.Shutdown ∷ data_in 11 (addr a1 4001) 50000 ∷ opened 2 a1 ∷ event 2 (kind.User 1 (codes "ann")) ∷ event 3 kind.Scavenge ∷ [])
    ≡ ((decision.Turned, action.Close 11 ∷ []) ∷ (decision.Turned, action.Close 2 ∷ []) ∷ (decision.UnknownNumber, []) ∷ (decision.Scavenged, []) ∷ [])
unfolding everything
after_a_stop = refl

-- and behind a proxy too, where its header is not asked for
after_a_stop_behind_a_proxy : told_after 1 proxied_ports (event 2 kind.Shutdown ∷ event 3 (kind.Proxied 11 (addr a2 1) 1) ∷ proxied 12 9 (header 40000 2121) ∷ [])
    ≡ ((decision.Turned, action.Close 11 ∷ []) ∷ (decision.Turned, action.Close 12 ∷ []) ∷ [])
unfolding everything
after_a_stop_behind_a_proxy = refl
