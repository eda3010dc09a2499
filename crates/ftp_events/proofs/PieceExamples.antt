-- Worked examples of transfers in pieces: what the definitions say of whole scripts, by computing.
use Rattle.std.specs.Prelude.{◌≡◌, ◌++◌, refl, codes, List, [], ◌∷◌}
use Rattle.ftp_base.specs.declared.command.DataChanCmd.TheVariants.{Retr}
use Rattle.ftp_base.specs.declared.notice.DataEvent.TheVariants.{Got}
use Rattle.ftp_base.specs.declared.reply.ReplyCode.TheVariants as code
use Rattle.ftp_transfer.specs.declared.job.Completion.TheVariants.{Sent}
use Rattle.ftp_events.specs.declared.action.Action.TheVariants as action
use Rattle.ftp_events.specs.declared.decision.Decision.TheVariants as decision
use Rattle.ftp_events.specs.declared.event.Answer.TheVariants as answer
use Rattle.ftp_events.specs.declared.event.EventKind.TheVariants as kind
use Rattle.ftp_events.proofs.Script.{Event, everything, ticket, done, ended, piece, addr, two_ports, event, login, pasv, told_after, decided_after, say, data_in, a1, finished}

-- a login, a PASV, a RETR and its connection
abbrev begun : List Event
begun = login 1 a1 ++ pasv 1 0 ∷ event 1 (kind.Transfer 1 (Retr (codes "/a"))) ∷ data_in 11 (addr a1 4001) 50000 ∷ []

-- an ABOR marks the transfer, and its next piece is cut: the client is told 426 and then 226
aborted : told_after 7 two_ports
    (begun ++ piece 1 1 (answer.Moved 8192) ∷ event 1 (kind.Abor 1) ∷ piece 1 1 answer.None ∷ event 1 (kind.Abor 1) ∷ [])
    ≡ ((decision.Moved, [])
    ∷ (decision.Aborting, [])
    ∷ (
      decision.Cut,
      action.Cancelled (ticket 1 1) ∷ say 1 code.ConnectionClosed (codes "Datachannel unexpectedly closed") ∷ action.Close 11 ∷ say 1 code.ClosingDataConnection (codes "Closed data channel") ∷ [],
    )
    ∷ (decision.NothingToAbort, say 1 code.ClosingDataConnection (codes "Data channel already closed") ∷ []) ∷ [])
unfolding everything
aborted = refl

-- a transfer that goes to its end by pieces
to_its_end : told_after 7 two_ports
    (begun ++ piece 1 1 (answer.Moved 5) ∷ piece 1 1 (done Sent 5) ∷ [])
    ≡ ((decision.Moved, [])
    ∷ finished (Got (codes "/a") 5) (codes "Successfully sent") [] ∷ [])
unfolding everything
to_its_end = refl

-- the session has gone: the transfer is cut, and nobody is told
gone : told_after 10 two_ports
    (begun ++ piece 1 1 (answer.Moved 5) ∷ event 1 (kind.Abor 1) ∷ event 1 (kind.Quit 1) ∷ piece 1 1 answer.None ∷ [])
    ≡ ((decision.Cut, action.Cancelled (ticket 1 1) ∷ action.Close 11 ∷ []) ∷ [])
unfolding everything
gone = refl

-- an outcome that counts fewer bytes than were moved is not expected, and neither is a piece of none or of too many
counted : decided_after 7 two_ports
    (begun ++ piece 1 1 (answer.Moved 0) ∷ piece 1 1 (answer.Moved 8193) ∷ piece 1 1 (answer.Moved 5) ∷ piece 1 1 (done Sent 4) ∷ ended 1 1 Sent 4 ∷ ended 1 1 Sent 5 ∷ piece 1 1 (answer.Moved 5) ∷ [])
    ≡ (decision.NotExpected ∷ decision.NotExpected ∷ decision.Moved ∷ decision.NotExpected ∷ decision.NotExpected ∷ decision.Finished ∷ decision.UnknownNumber ∷ [])
unfolding everything
counted = refl
