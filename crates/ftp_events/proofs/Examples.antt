-- Worked examples, each by computation.
use Rattle.std.specs.Prelude.{ℕ, ◌≡◌, ◌++◌, refl, false, List, [], ◌∷◌, map, reverse, codes, Option, Some, None, Err}
use Rattle.ftp_base.specs.declared.login.AuthAnswer.{AuthAnswer}
use Rattle.ftp_base.specs.declared.login.AuthAnswer.TheVariants.{Good, Refused}
use Rattle.ftp_base.specs.declared.login.LockState.TheVariants.{MaxFailuresReached, AlreadyLocked}
use Rattle.ftp_lockout.specs.Keys.{key_cmp}
use Rattle.ftp_base.specs.declared.error_kind.ErrorKind.TheVariants as error
use Rattle.ftp_base.specs.declared.command.DataChanCmd.TheVariants.{Retr, Stor}
use Rattle.ftp_base.specs.declared.notice.DataEvent.TheVariants.{Got, Put}
use Rattle.ftp_base.specs.declared.notice.Notice.TheVariants.{Presence}
use Rattle.ftp_base.specs.declared.notice.PresenceEvent.TheVariants as presence
use Rattle.ftp_base.specs.declared.reply.ReplyCode.TheVariants as code
use Rattle.ftp_proxy.specs.declared.error.ProxyError.TheVariants as fault
use Rattle.ftp_events.specs.declared.event.EventKind.TheVariants as kind
use Rattle.ftp_events.specs.declared.decision.Decision.{Decision}
use Rattle.ftp_events.specs.declared.decision.Decision.TheVariants as decision
use Rattle.ftp_events.specs.declared.action.Action.TheVariants as action
use Rattle.ftp_transfer.specs.declared.job.Completion.TheVariants.{Sent, Written}
use Rattle.ftp_events.specs.Fate.{Fate, CompletedAt, CancelledAt, AwaitsConnection, AwaitsItsEnd, AwaitsEarlierEnd, fate}
use Rattle.ftp_events.specs.Right.{log_of}
use Rattle.ftp_events.proofs.Script.{Event, everything, ticket, ended, addr, two_ports, one_port, all_ports, proxied_ports, own_ports, locking, named_host, both_modes, header, proxied, opened, event, login, pasv, told_after, decided_after, say, data_in, a1, a2, second_notice, finished}

-- the login itself
a_login : told_after 0 two_ports (login 1 a1)
    ≡ ((decision.Opened, []) ∷ (decision.NeedPass, say 1 code.NeedPassword (codes "Password Required") ∷ []) ∷ (decision.PassOut, [])
    ∷ (decision.LoggedIn, action.Notify 1 (record { username = codes "ann"; trace_id = record { 0 = 1 }; sequence_number = 1 }) (Presence presence.LoggedIn) ∷ say 1 code.UserLoggedIn (codes "User logged in, proceed") ∷ []) ∷ [])
unfolding everything
a_login = refl

-- two ports for one client, and then none
ports_run_out : told_after 12 two_ports (login 1 a1 ++ login 2 a1 ++ login 3 a1 ++ pasv 1 0 ∷ pasv 2 0 ∷ pasv 3 0 ∷ [])
    ≡ ((decision.Granted 50000, say 1 code.EnteringPassiveMode (codes "Entering Passive Mode (10,0,0,9,195,80)") ∷ [])
    ∷ (decision.Granted 50001, say 2 code.EnteringPassiveMode (codes "Entering Passive Mode (10,0,0,9,195,81)") ∷ [])
    ∷ (decision.Full, say 3 code.CantOpenDataConnection (codes "Could not allocate passive port") ∷ []) ∷ [])
unfolding everything
ports_run_out = refl

-- one port: an own unused hold counts, and a new grant closes the link that waited
own_hold_counts : told_after 4 one_port (login 1 a1 ++ pasv 1 0 ∷ pasv 1 0 ∷ data_in 11 (addr a1 4001) 50000 ∷ pasv 1 0 ∷ [])
    ≡ ((decision.Granted 50000, say 1 code.EnteringPassiveMode (codes "Entering Passive Mode (10,0,0,9,195,80)") ∷ [])
    ∷ (decision.Full, say 1 code.CantOpenDataConnection (codes "Could not allocate passive port") ∷ [])
    ∷ (decision.Attached 1, [])
    ∷ (decision.Granted 50000, action.Close 11 ∷ say 1 code.EnteringPassiveMode (codes "Entering Passive Mode (10,0,0,9,195,80)") ∷ []) ∷ [])
unfolding everything
own_hold_counts = refl

-- the search goes round the range from the place that the word chooses
search_goes_round : decided_after 8 all_ports (login 1 a1 ++ login 2 a1 ++ pasv 1 65535 ∷ pasv 2 65535 ∷ [])
    ≡ (decision.Granted 1 ∷ decision.Granted 2 ∷ [])
unfolding everything
search_goes_round = refl

-- a hold ends with its connection, and is not that of a later holder
hold_ends : told_after 8 two_ports
    (login 1 a1 ++ login 2 a1 ++ pasv 1 0 ∷ data_in 11 (addr a1 4001) 50000 ∷ pasv 2 0 ∷ pasv 1 0 ∷ data_in 12 (addr a1 4002) 50000 ∷ [])
    ≡ ((decision.Granted 50000, say 1 code.EnteringPassiveMode (codes "Entering Passive Mode (10,0,0,9,195,80)") ∷ [])
    ∷ (decision.Attached 1, [])
    ∷ (decision.Granted 50000, say 2 code.EnteringPassiveMode (codes "Entering Passive Mode (10,0,0,9,195,80)") ∷ [])
    ∷ (decision.Granted 50001, action.Close 11 ∷ say 1 code.EnteringPassiveMode (codes "Entering Passive Mode (10,0,0,9,195,81)") ∷ [])
    ∷ (decision.Attached 2, []) ∷ [])
unfolding everything
hold_ends = refl

-- two clients have the same port
two_clients : decided_after 8 two_ports
    (login 1 a1 ++ login 2 a2 ++ pasv 1 0 ∷ pasv 2 0 ∷ data_in 11 (addr a2 1) 50000 ∷ data_in 12 (addr a1 1) 50000 ∷ [])
    ≡ (decision.Granted 50000 ∷ decision.Granted 50000 ∷ decision.Attached 2 ∷ decision.Attached 1 ∷ [])
unfolding everything
two_clients = refl

-- a second connection is closed, and a used number refused
second_connection : told_after 5 one_port
    (login 1 a1 ++ pasv 1 0 ∷ data_in 11 (addr a1 4001) 50000 ∷ data_in 12 (addr a1 4002) 50000 ∷ data_in 12 (addr a1 4002) 50000 ∷ [])
    ≡ ((decision.Attached 1, []) ∷ (decision.Turned, action.Close 12 ∷ []) ∷ (decision.UsedNumber, []) ∷ [])
unfolding everything
second_connection = refl

-- a login in sequence, and out of it
out_of_sequence : told_after 1 two_ports
    (opened 1 a1 ∷ event 0 (kind.User 1 (codes "ann")) ∷ event 0 (kind.Pass 1) ∷ event 0 (kind.AuthDone 1 Refused) ∷ event 0 (kind.Pass 1) ∷ event 0 (kind.AuthDone 1 Good) ∷ [])
    ≡ ((decision.NeedPass, say 1 code.NeedPassword (codes "Password Required") ∷ [])
    ∷ (decision.PassOut, [])
    ∷ (decision.LoginFailed None 0, say 1 code.NotLoggedIn (codes "Authentication failed") ∷ [])
    ∷ (decision.BadSequence, say 1 code.BadCommandSequence (codes "Please supply a username first") ∷ [])
    ∷ (decision.NotExpected, []) ∷ [])
unfolding everything
out_of_sequence = refl

-- a client behind a proxy: the grant shows the address that it called, and a data connection has to come from the same proxy
behind_a_proxy : told_after 4 proxied_ports
    (proxied 1 9 (header 40000 2121) ∷ event 0 (kind.User 1 (codes "ann")) ∷ event 0 (kind.Pass 1) ∷ event 0 (kind.AuthDone 1 Good)
    ∷ pasv 1 0 ∷ event 1 (kind.Transfer 1 (Retr (codes "a"))) ∷ proxied 12 8 (header 40001 50000) ∷ event 1 (kind.Transfer 1 (Retr (codes "a"))) ∷ [])
    ≡ ((decision.Granted 50000, say 1 code.EnteringPassiveMode (codes "Entering Passive Mode (198,51,100,1,195,80)") ∷ [])
    ∷ (decision.Queued (ticket 1 1), say 1 code.FileStatusOkay (codes "Sending data") ∷ [])
    ∷ (decision.Turned, action.Cancelled (ticket 1 1) ∷ say 1 code.ConnectionClosed (codes "Datachannel unexpectedly closed") ∷ action.Close 12 ∷ [])
    ∷ (decision.NoSlot, say 1 code.CantOpenDataConnection (codes "No data connection established") ∷ []) ∷ [])
unfolding everything
behind_a_proxy = refl

-- from the same proxy it is attached, and the transfer starts
from_the_same_proxy : told_after 6 proxied_ports
    (proxied 1 9 (header 40000 2121) ∷ event 0 (kind.User 1 (codes "ann")) ∷ event 0 (kind.Pass 1) ∷ event 0 (kind.AuthDone 1 Good)
    ∷ pasv 1 0 ∷ event 1 (kind.Transfer 1 (Retr (codes "a"))) ∷ proxied 12 9 (header 40001 50000) ∷ [])
    ≡ ((decision.Attached 1, action.Start (ticket 1 1) 12 ∷ []) ∷ [])
unfolding everything
from_the_same_proxy = refl

-- a header that is none closes the connection; a connection without an answer, or one of another mode, is refused
headers_that_are_none : told_after 0 proxied_ports
    (proxied 1 9 (Err fault.CrlfError) ∷ event 1 (kind.Proxied 2 (addr a1 1) 1) ∷ proxied 1 9 (header 40000 2121) ∷ opened 3 a1 ∷ data_in 4 (addr a1 1) 50000 ∷ [])
    ≡ ((decision.HeaderFault fault.CrlfError, action.Close 1 ∷ []) ∷ (decision.NotExpected, []) ∷ (decision.UsedNumber, [])
    ∷ (decision.Misplaced, []) ∷ (decision.Misplaced, []) ∷ [])
unfolding everything
headers_that_are_none = refl

-- three failures lock; a right password on the lock is told late, and the lock expires
try_at : ℕ → AuthAnswer → List Event
try_at at said = event at (kind.User 1 (codes "ann")) ∷ event at (kind.Pass 1) ∷ event at (kind.AuthDone 1 said) ∷ []

checked : List Decision → List Decision
checked (a ∷ b ∷ c ∷ rest) = c ∷ checked rest
checked _ = []

lockout : checked (decided_after 1 locking
    (opened 1 a1 ∷ (try_at 0 Refused ++ try_at 1000 Refused ++ try_at 2000 Refused ++ try_at 3000 Good ++ try_at 122000 Good ++ try_at 123000 Good)))
    ≡ (decision.LoginFailed None 0 ∷ decision.LoginFailed None 0 ∷ decision.LoginFailed (Some MaxFailuresReached) 0
    ∷ decision.LoginFailed (Some AlreadyLocked) 1500 ∷ decision.LoginFailed (Some AlreadyLocked) 1500 ∷ decision.LoggedIn ∷ [])
unfolding everything try_at checked key_cmp
lockout = refl

-- a name that is advertised has to be looked up
advertised_name : told_after 4 named_host
    (login 1 a1 ++ pasv 1 0 ∷ event 1 (kind.Pasv 1 0 (Some 3221225989) None) ∷ [])
    ≡ ((decision.NoLookup, say 1 code.CantOpenDataConnection (codes "Could not resolve DNS address 'ftp.example'") ∷ [])
    ∷ (decision.Granted 50000, say 1 code.EnteringPassiveMode (codes "Entering Passive Mode (192,0,2,5,195,80)") ∷ []) ∷ [])
unfolding everything
advertised_name = refl

-- a socket of the session's own, and a wait on it that ends
own_sockets : told_after 4 own_ports
    (login 1 a1 ++ pasv 1 0 ∷ event 1 (kind.Pasv 1 0 None (Some 50001)) ∷ event 1 (kind.Transfer 1 (Retr (codes "a"))) ∷ event 15000 (kind.SlotTick 1) ∷ event 15001 (kind.SlotTick 1) ∷ [])
    ≡ ((decision.NoSocket, say 1 code.CantOpenDataConnection (codes "No data connection established") ∷ [])
    ∷ (decision.Granted 50001, say 1 code.EnteringPassiveMode (codes "Entering Passive Mode (10,0,0,9,195,81)") ∷ [])
    ∷ (decision.Queued (ticket 1 1), say 1 code.FileStatusOkay (codes "Sending data") ∷ [])
    ∷ (decision.Early, [])
    ∷ (decision.SlotDropped, action.Cancelled (ticket 1 1) ∷ say 1 code.ConnectionClosed (codes "Datachannel unexpectedly closed") ∷ []) ∷ [])
unfolding everything
own_sockets = refl

-- connections that the server makes: to the peer alone, and a link without a transfer may stand five minutes
connections_made : told_after 4 both_modes
    (login 1 a1 ++ event 1 (kind.Port 1 (codes "10,0,0,1,117,48") (Some 11)) ∷ event 1 (kind.Port 1 (codes "10,0,0,2,117,48") None)
    ∷ event 1 (kind.Port 1 (codes "10,0,0,1") None) ∷ event 300000 (kind.SlotTick 1) ∷ event 300001 (kind.SlotTick 1) ∷ [])
    ≡ ((decision.PortOk, say 1 code.CommandOkay (codes "PORT command successful") ∷ [])
    ∷ (decision.OtherAddress, say 1 code.CantOpenDataConnection (codes "Could not establish data connection") ∷ [])
    ∷ (decision.BadAddress, say 1 code.ParameterSyntaxError (codes "Invalid address format") ∷ [])
    ∷ (decision.Early, [])
    ∷ (decision.SlotDropped, action.Close 11 ∷ []) ∷ [])
unfolding everything
connections_made = refl

-- a session that ends frees its port, and its own connection is closed last
ending_frees : told_after 8 one_port
    (login 1 a1 ++ login 2 a1 ++ pasv 1 0 ∷ event 2 (kind.Closed 1) ∷ pasv 2 0 ∷ event 2 (kind.Closed 1) ∷ [])
    ≡ ((decision.Granted 50000, say 1 code.EnteringPassiveMode (codes "Entering Passive Mode (10,0,0,9,195,80)") ∷ [])
    ∷ (decision.Closed, second_notice (Presence presence.LoggedOut) ∷ action.Close 1 ∷ [])
    ∷ (decision.Granted 50000, say 2 code.EnteringPassiveMode (codes "Entering Passive Mode (10,0,0,9,195,80)") ∷ [])
    ∷ (decision.UnknownNumber, []) ∷ [])
unfolding everything
ending_frees = refl

-- a session that quits is told so, and ends like one whose connection has ended
quitting_ends : told_after 8 one_port
    (login 1 a1 ++ login 2 a1 ++ pasv 1 0 ∷ event 2 (kind.Quit 1) ∷ pasv 2 0 ∷ event 2 (kind.Closed 1) ∷ [])
    ≡ ((decision.Granted 50000, say 1 code.EnteringPassiveMode (codes "Entering Passive Mode (10,0,0,9,195,80)") ∷ [])
    ∷ (
      decision.Quit,
      second_notice (Presence presence.LoggedOut)
          ∷ say 1 code.ClosingControlConnection (codes "Bye!") ∷ action.Close 1 ∷ [],
    )
    ∷ (decision.Granted 50000, say 2 code.EnteringPassiveMode (codes "Entering Passive Mode (10,0,0,9,195,80)") ∷ [])
    ∷ (decision.UnknownNumber, []) ∷ [])
unfolding everything
quitting_ends = refl

-- one that quits without a login is told so too
quitting_early : told_after 1 two_ports (opened 1 a1 ∷ event 0 (kind.Quit 1) ∷ [])
    ≡ ((
      decision.Quit,
      action.Notify 1 (record { username = codes "unknown"; trace_id = record { 0 = 1 }; sequence_number = 1 }) (Presence presence.LoggedOut)
          ∷ say 1 code.ClosingControlConnection (codes "Bye!") ∷ action.Close 1 ∷ [],
    ) ∷ [])
unfolding everything
quitting_early = refl

-- the transfer that waits when a session quits is cancelled, and nothing else is told of it
quitting_cancels : told_after 6 two_ports
    (login 1 a1 ++ pasv 1 0 ∷ event 1 (kind.Transfer 1 (Retr (codes "a"))) ∷ event 1 (kind.Quit 1) ∷ data_in 11 (addr a1 4001) 50000 ∷ [])
    ≡ ((
      decision.Quit,
      action.Cancelled (ticket 1 1)
          ∷ second_notice (Presence presence.LoggedOut)
          ∷ say 1 code.ClosingControlConnection (codes "Bye!") ∷ action.Close 1 ∷ [],
    )
    ∷ (decision.Turned, action.Close 11 ∷ []) ∷ [])
unfolding everything
quitting_cancels = refl

-- a restart offset is told, and a directory changes where the storage does not refuse it
offset_and_directory : told_after 4 two_ports
    (login 1 a1 ++ event 1 (kind.Rest 1 6) ∷ event 1 (kind.Cwd 1 (codes "uploads") None) ∷ event 1 (kind.Cwd 1 (codes "none") (Some error.PermanentDirectoryNotAvailable)) ∷ [])
    ≡ ((decision.RestOk, say 1 code.FileActionPending (codes "Restarting at 6. Now send STORE or RETRIEVE.") ∷ [])
    ∷ (decision.CwdOk, say 1 code.FileActionOkay (codes "Successfully changed working directory") ∷ [])
    ∷ (decision.CwdRefused error.PermanentDirectoryNotAvailable, say 1 code.FileError (codes "Directory not found") ∷ []) ∷ [])
unfolding everything
offset_and_directory = refl

-- a download: its link comes, it starts, and at its end the session and the listeners are told
download : told_after 5 two_ports
    (login 1 a1 ++ pasv 1 0 ∷ event 1 (kind.Transfer 1 (Retr (codes "a.txt"))) ∷ data_in 11 (addr a1 4001) 50000 ∷ ended 1 1 Sent 5 ∷ [])
    ≡ ((decision.Queued (ticket 1 1), say 1 code.FileStatusOkay (codes "Sending data") ∷ [])
    ∷ (decision.Attached 1, action.Start (ticket 1 1) 11 ∷ [])
    ∷ finished (Got (codes "/a.txt") 5) (codes "Successfully sent") [] ∷ [])
unfolding everything
download = refl

-- a unique name is told with its 150
unique_reply : told_after 5 two_ports (login 1 a1 ++ pasv 1 0 ∷ event 1 (kind.Stou 1 0) ∷ [])
    ≡ ((decision.Queued (ticket 1 1), say 1 code.FileStatusOkay (codes "00000000-0000-4000-8000-000000000000") ∷ []) ∷ [])
unfolding everything
unique_reply = refl

-- a second transfer waits for the end of the first, and one that has no slot is refused
two_transfers : told_after 7 two_ports
    (login 1 a1 ++ pasv 1 0 ∷ event 1 (kind.Transfer 1 (Retr (codes "a"))) ∷ data_in 11 (addr a1 4001) 50000
    ∷ event 1 (kind.Transfer 1 (Retr (codes "b"))) ∷ pasv 1 0 ∷ event 1 (kind.Transfer 1 (Stor (codes "b"))) ∷ data_in 12 (addr a1 4002) 50000 ∷ ended 1 1 Sent 5 ∷ [])
    ≡ ((decision.NoSlot, say 1 code.CantOpenDataConnection (codes "No data connection established") ∷ [])
    ∷ (decision.Granted 50000, say 1 code.EnteringPassiveMode (codes "Entering Passive Mode (10,0,0,9,195,80)") ∷ [])
    ∷ (decision.Queued (ticket 1 2), say 1 code.FileStatusOkay (codes "Ready to receive data") ∷ [])
    ∷ (decision.Attached 1, [])
    ∷ finished (Got (codes "/a") 5) (codes "Successfully sent") (action.Start (ticket 1 2) 12 ∷ []) ∷ [])
unfolding everything
two_transfers = refl

-- a transfer whose slot goes is cancelled, and a job whose session has ended is lost
cancelled_and_lost : told_after 6 two_ports
    (login 1 a1 ++ pasv 1 0 ∷ event 1 (kind.Transfer 1 (Retr (codes "a"))) ∷ pasv 1 0 ∷ event 1 (kind.Transfer 1 (Retr (codes "a"))) ∷ data_in 11 (addr a1 4001) 50001
    ∷ event 1 (kind.Closed 1) ∷ ended 1 2 Sent 5 ∷ ended 1 2 Sent 5 ∷ [])
    ≡ ((
      decision.Granted 50001,
      action.Cancelled (ticket 1 1) ∷ say 1 code.ConnectionClosed (codes "Datachannel unexpectedly closed")
          ∷ say 1 code.EnteringPassiveMode (codes "Entering Passive Mode (10,0,0,9,195,81)") ∷ [],
    )
    ∷ (decision.Queued (ticket 1 2), say 1 code.FileStatusOkay (codes "Sending data") ∷ [])
    ∷ (decision.Attached 1, action.Start (ticket 1 2) 11 ∷ [])
    ∷ (decision.Closed, second_notice (Presence presence.LoggedOut) ∷ action.Close 1 ∷ [])
    ∷ (decision.Finished, action.Completed (ticket 1 2) false ∷ [])
    ∷ (decision.UnknownNumber, []) ∷ [])
unfolding everything
cancelled_and_lost = refl

-- an upload at a restart offset, in the directory of its 150; then no offset is left
upload_in_a_directory : told_after 4 two_ports
    (login 1 a1 ++ event 1 (kind.Cwd 1 (codes "/up") None) ∷ event 1 (kind.Rest 1 3) ∷ pasv 1 0 ∷ event 1 (kind.Transfer 1 (Stor (codes "n")))
    ∷ event 1 (kind.Cwd 1 (codes "/") None) ∷ data_in 11 (addr a1 4001) 50000 ∷ ended 1 1 Written 2 ∷ [])
    ≡ ((decision.CwdOk, say 1 code.FileActionOkay (codes "Successfully changed working directory") ∷ [])
    ∷ (decision.RestOk, say 1 code.FileActionPending (codes "Restarting at 3. Now send STORE or RETRIEVE.") ∷ [])
    ∷ (decision.Granted 50000, say 1 code.EnteringPassiveMode (codes "Entering Passive Mode (10,0,0,9,195,80)") ∷ [])
    ∷ (decision.Queued (ticket 1 1), say 1 code.FileStatusOkay (codes "Ready to receive data") ∷ [])
    ∷ (decision.CwdOk, say 1 code.FileActionOkay (codes "Successfully changed working directory") ∷ [])
    ∷ (decision.Attached 1, action.Start (ticket 1 1) 11 ∷ [])
    ∷ finished (Put (codes "/up/n") 2) (codes "File successfully written") [] ∷ [])
unfolding everything
upload_in_a_directory = refl

-- it asks for a file
abbrev retr : Event
retr = event 1 (kind.Transfer 1 (Retr (codes "/a")))

-- the file was sent
abbrev sent : ℕ → Event
sent nr = ended 1 nr Sent 5

-- the fates of the first four transfers of session 1, after events, oldest first
abbrev fates_after : List Event → List (Option Fate)
fates_after events = map (λ nr. fate two_ports (log_of two_ports (reverse events)) (ticket 1 nr)) (1 ∷ 2 ∷ 3 ∷ 4 ∷ [])

-- completed by its end, cancelled by another grant, and without a connection
fates_apart : fates_after (login 1 a1 ++ pasv 1 0 ∷ data_in 11 (addr a1 4001) 50000 ∷ retr ∷ sent 1 ∷ pasv 1 0 ∷ retr ∷ pasv 1 0 ∷ retr ∷ [])
    ≡ (Some (CompletedAt 7) ∷ Some (CancelledAt 10) ∷ Some AwaitsConnection ∷ None ∷ [])
unfolding everything
fates_apart = refl

-- while one runs the next waits for the end of it
fates_in_turn : fates_after (login 1 a1 ++ pasv 1 0 ∷ data_in 11 (addr a1 4001) 50000 ∷ retr ∷ pasv 1 0 ∷ data_in 12 (addr a1 4002) 50000 ∷ retr ∷ [])
    ≡ (Some AwaitsItsEnd ∷ Some AwaitsEarlierEnd ∷ None ∷ None ∷ [])
unfolding everything
fates_in_turn = refl

-- the end of the one starts the next, and the end of the session cancels what waits
fates_at_the_end : fates_after (login 1 a1 ++ pasv 1 0 ∷ data_in 11 (addr a1 4001) 50000 ∷ retr ∷ pasv 1 0 ∷ data_in 12 (addr a1 4002) 50000 ∷ retr ∷ sent 1 ∷ pasv 1 0 ∷ retr ∷ event 2 (kind.Closed 1) ∷ sent 2 ∷ [])
    ≡ (Some (CompletedAt 10) ∷ Some (CompletedAt 14) ∷ Some (CancelledAt 13) ∷ None ∷ [])
unfolding everything
fates_at_the_end = refl
