-- Worked examples of counts: what the definitions say of whole scripts, by computing.
use Rattle.std.specs.Prelude.{◌≡◌, ◌++◌, refl, reverse, codes, true, List, [], ◌∷◌, None, Some}
use Rattle.ftp_base.specs.declared.command.DataChanCmd.TheVariants.{Retr}
use Rattle.ftp_base.specs.declared.error_kind.ErrorKind.TheVariants as error
use Rattle.ftp_base.specs.declared.fault.LinkFault.TheVariants as fault
use Rattle.ftp_base.specs.declared.login.AuthAnswer.TheVariants.{Refused}
use Rattle.ftp_transfer.specs.declared.job.Completion.TheVariants as result
use Rattle.ftp_events.specs.declared.entry.Entry.{Entry}
use Rattle.ftp_events.specs.declared.event.EventKind.TheVariants as kind
use Rattle.ftp_events.specs.declared.status.CommandWord.TheVariants as word
use Rattle.ftp_events.specs.declared.status.Status7.TheVariants as status
use Rattle.ftp_events.specs.Log.{past_of}
use Rattle.ftp_events.specs.Right.{log_of}
use Rattle.ftp_events.specs.Session.{live_count}
use Rattle.ftp_events.specs.Statuses.{status_of}
use Rattle.ftp_events.specs.Counts.{opened_count, failure_count, sent_bytes, received_bytes, status_count, over_deliveries, bytes_by, file_by, is_sent, is_written, reply_count}
use Rattle.ftp_events.proofs.Script.{Event, everything, ended, addr, two_ports, opened, event, login, pasv, data_in, a1}

-- the entries of these events, oldest first, that were not refused
abbrev pub entries : List Event → List Entry
entries events = past_of (log_of two_ports (reverse events))

-- a file is asked for, and its data connection comes
abbrev pub fetching : List Event
fetching = pasv 1 0 ∷ event 1 (kind.Transfer 1 (Retr (codes "a"))) ∷ data_in 11 (addr a1 4001) 50000 ∷ []

-- a file of five bytes is sent
abbrev pub sent_file : List Entry
sent_file = entries (login 1 a1 ++ fetching ++ ended 1 1 result.Sent 5 ∷ [])

-- one session, one file
a_file_is_sent : (live_count sent_file ∷ opened_count sent_file ∷ sent_bytes two_ports sent_file word.Retr ∷ status_count two_ports sent_file word.Retr status.Success
    ∷ over_deliveries (bytes_by is_sent) sent_file ∷ over_deliveries (file_by is_sent) sent_file ∷ reply_count sent_file 2 ∷ [])
    ≡ (1 ∷ 1 ∷ 5 ∷ 1 ∷ 5 ∷ 1 ∷ 3 ∷ [])
unfolding everything
a_file_is_sent = refl

-- and nothing else
nothing_else : (failure_count sent_file ∷ sent_bytes two_ports sent_file word.List ∷ received_bytes two_ports sent_file word.Stor ∷ status_count two_ports sent_file word.Retr status.UnknownError
    ∷ over_deliveries (file_by is_written) sent_file ∷ reply_count sent_file 1 ∷ reply_count sent_file 3 ∷ reply_count sent_file 4 ∷ reply_count sent_file 5 ∷ [])
    ≡ (0 ∷ 0 ∷ 0 ∷ 0 ∷ 0 ∷ 1 ∷ 1 ∷ 0 ∷ 0 ∷ [])
unfolding everything
nothing_else = refl

-- its client has gone before it is sent: the bytes and the status count, the file does not
abbrev pub lost_file : List Entry
lost_file = entries (login 1 a1 ++ fetching ++ event 2 (kind.Closed 1) ∷ ended 1 1 result.Sent 5 ∷ [])

a_lost_end : (live_count lost_file ∷ opened_count lost_file ∷ sent_bytes two_ports lost_file word.Retr ∷ status_count two_ports lost_file word.Retr status.Success
    ∷ over_deliveries (bytes_by is_sent) lost_file ∷ over_deliveries (file_by is_sent) lost_file ∷ reply_count lost_file 2 ∷ [])
    ≡ (0 ∷ 1 ∷ 5 ∷ 1 ∷ 0 ∷ 0 ∷ 2 ∷ [])
unfolding everything
a_lost_end = refl

-- the rest of a file has no status
abbrev pub rest_of_file : List Entry
rest_of_file = entries (login 1 a1 ++ event 1 (kind.Rest 1 6) ∷ fetching ++ ended 1 1 result.Sent 5 ∷ [])

a_restart : (sent_bytes two_ports rest_of_file word.Retr ∷ status_count two_ports rest_of_file word.Retr status.Success ∷ over_deliveries (file_by is_sent) rest_of_file ∷ [])
    ≡ (5 ∷ 0 ∷ 1 ∷ [])
unfolding everything
a_restart = refl

-- a client that closes a RETR early has no status, one that resets it has
closed_early : status_of (record { word = word.Retr; from_start = true }) (record { result = result.Refused error.ConnectionClosed; bytes = 3; fault = Some fault.BrokenPipe }) ≡ None
closed_early = refl

reset_early : status_of (record { word = word.Retr; from_start = true }) (record { result = result.Refused error.ConnectionClosed; bytes = 3; fault = Some fault.Reset })
    ≡ Some status.ClientInterrupted
reset_early = refl

-- a refused password, and then a stop
abbrev pub stopped : List Entry
stopped = entries (opened 1 a1 ∷ event 0 (kind.User 1 (codes "ann")) ∷ event 0 (kind.Pass 1) ∷ event 0 (kind.AuthDone 1 Refused) ∷ opened 2 a1 ∷ event 1 kind.Shutdown ∷ [])

a_stop : (live_count stopped ∷ opened_count stopped ∷ failure_count stopped ∷ reply_count stopped 5 ∷ []) ≡ (0 ∷ 2 ∷ 1 ∷ 1 ∷ [])
unfolding everything
a_stop = refl
