-- Worked examples of transfers: uploads, downloads and pieces as they are printed, and lines of commands, pieces and ends.
use Rattle.std.proofs.Common.{◌≡◌, ℕ, ◌+◌, ◌*◌, ◌^◌, true, false, List, [], ◌∷◌, ◌++◌, Some, None, refl}
use Rattle.std.specs.Prelude.{codes}
use Rattle.std.specs.Fmt.{digits}
use Rattle.ftp_base.specs.declared.command.DataChanCmd.{DataChanCmd}
use Rattle.ftp_base.specs.declared.command.DataChanCmd.TheVariants as command
use Rattle.ftp_base.specs.declared.error_kind.ErrorKind.TheVariants as error
use Rattle.ftp_base.specs.declared.fault.LinkFault.TheVariants as link
use Rattle.ftp_base.specs.declared.net.IpAddr.TheVariants.{V4}
use Rattle.ftp_base.specs.declared.notice.DataEvent.{DataEvent}
use Rattle.ftp_base.specs.declared.notice.DataEvent.TheVariants.{Got, Put}
use Rattle.ftp_base.specs.declared.notice.Notice.TheVariants as notice
use Rattle.ftp_base.specs.declared.reply.Reply.TheVariants as reply
use Rattle.ftp_base.specs.declared.reply.ReplyCode.TheVariants as code
use Rattle.ftp_transfer.specs.declared.job.Ticket.{Ticket}
use Rattle.ftp_transfer.specs.declared.job.Completion.{Completion}
use Rattle.ftp_transfer.specs.declared.job.Completion.TheVariants as result
use Rattle.ftp_events.specs.declared.action.Action.{Action}
use Rattle.ftp_events.specs.declared.action.Action.TheVariants as action
use Rattle.ftp_events.specs.declared.decision.Decision.TheVariants as decision
use Rattle.ftp_events.specs.declared.entry.Entry.{Entry}
use Rattle.ftp_events.specs.declared.event.Answer.TheVariants as answer
use Rattle.ftp_events.specs.declared.event.EventKind.{EventKind}
use Rattle.ftp_events.specs.declared.event.EventKind.TheVariants as kind
use Rattle.ftp_events.specs.declared.event.HubEvent.{HubEvent}
use Rattle.ftp_text.specs.Fields.{hex_digits}
use Rattle.ftp_text.specs.Reading.{number_at, text_from, text_field, optional_text_field, hex_word_at, word_value, word_at}
use Rattle.ftp_text.specs.Events.{event_line}
use Rattle.ftp_text.specs.Printing.{print, answer_line, action_line}
use Rattle.ftp_text.specs.EventReading.{event_of, read_as}
use Rattle.ftp_text.proofs.Samples.{AreSpelled, AreRead, AreBad}

abbrev later : EventKind → HubEvent
later k = record { at = 1; kind = k }

abbrev transfer : ℕ → Ticket
transfer nr = record { session = 1; nr = nr }

abbrev asked : DataChanCmd → ℕ → Action → Entry
asked c nr reply =
    record { event = later (kind.Transfer 1 c); answer = answer.None; decision = decision.Queued (transfer nr); actions = reply ∷ [] }

abbrev begun : ℕ → ℕ → Entry
begun nr n =
    record {
      event = later (kind.DataIn n (record { ip = V4 167772161; port = 4001 }) 50000);
      answer = answer.None;
      decision = decision.Attached 1;
      actions = action.Start (transfer nr) n ∷ [];
    }

abbrev ended : ℕ → Completion → ℕ → DataEvent → Action → Entry
ended nr result bytes told reply =
    record {
      event = later (kind.End (transfer nr));
      answer = answer.Done (record { result = result; bytes = bytes; fault = None });
      decision = decision.Finished;
      actions =
          action.Completed (transfer nr) true
          ∷ action.Notify 1 (record { username = codes "ann"; trace_id = record { 0 = 1 }; sequence_number = nr + 1 }) (notice.Data told)
          ∷ reply ∷ [];
    }

-- entries, and how they are printed
pub printed : AreSpelled print
    -- a download
    ((
      asked (command.Retr (codes "a.txt")) 1 (action.Reply 1 0 (reply.CodeAndMsg code.FileStatusOkay (codes "Sending data")))
          ∷ begun 1 11
          ∷ ended 1 result.Sent 5 (Got (codes "/a.txt") 5) (action.Reply 1 0 (reply.CodeAndMsg code.ClosingDataConnection (codes "Successfully sent"))) ∷ [],
      codes "> 1 retr 1 a.txt\n= queued 1.1\n- reply 1 0 150 Sending data\n"
          ++ codes "> 1 data 11 10.0.0.1:4001 50000\n= attached 1\n- start 1.1 11\n"
          ++ codes "> 1 end 1.1\n? done sent 5 -\n= finished\n- completed 1.1 delivered\n- notify 1 2 0x1 got 5 3 6 ann/a.txt\n- reply 1 0 226 Successfully sent\n",
    )
    -- an upload, more bytes at its end, and a download
    ∷ (
      asked (command.Stor (codes "a.txt")) 1 (action.Reply 1 0 (reply.CodeAndMsg code.FileStatusOkay (codes "Ready to receive data")))
          ∷ begun 1 11
          ∷ ended 1 result.Written 5 (Put (codes "/a.txt") 5) (action.Reply 1 0 (reply.CodeAndMsg code.ClosingDataConnection (codes "File successfully written")))
          ∷ asked (command.Appe (codes "a.txt")) 2 (action.Reply 1 0 (reply.CodeAndMsg code.FileStatusOkay (codes "Ready to receive data")))
          ∷ begun 2 12
          ∷ ended 2 result.Written 6 (Put (codes "/a.txt") 6) (action.Reply 1 0 (reply.CodeAndMsg code.ClosingDataConnection (codes "File successfully written")))
          ∷ asked (command.Retr (codes "a.txt")) 3 (action.Reply 1 0 (reply.CodeAndMsg code.FileStatusOkay (codes "Sending data")))
          ∷ begun 3 13
          ∷ ended 3 result.Sent 11 (Got (codes "/a.txt") 11) (action.Reply 1 0 (reply.CodeAndMsg code.ClosingDataConnection (codes "Successfully sent"))) ∷ [],
      codes "> 1 stor 1 a.txt\n= queued 1.1\n- reply 1 0 150 Ready to receive data\n"
          ++ codes "> 1 data 11 10.0.0.1:4001 50000\n= attached 1\n- start 1.1 11\n"
          ++ codes "> 1 end 1.1\n? done written 5 -\n= finished\n- completed 1.1 delivered\n- notify 1 2 0x1 put 5 3 6 ann/a.txt\n- reply 1 0 226 File successfully written\n"
          ++ codes "> 1 appe 1 a.txt\n= queued 1.2\n- reply 1 0 150 Ready to receive data\n"
          ++ codes "> 1 data 12 10.0.0.1:4001 50000\n= attached 1\n- start 1.2 12\n"
          ++ codes "> 1 end 1.2\n? done written 6 -\n= finished\n- completed 1.2 delivered\n- notify 1 3 0x1 put 6 3 6 ann/a.txt\n- reply 1 0 226 File successfully written\n"
          ++ codes "> 1 retr 1 a.txt\n= queued 1.3\n- reply 1 0 150 Sending data\n"
          ++ codes "> 1 data 13 10.0.0.1:4001 50000\n= attached 1\n- start 1.3 13\n"
          ++ codes "> 1 end 1.3\n? done sent 11 -\n= finished\n- completed 1.3 delivered\n- notify 1 4 0x1 got 11 3 6 ann/a.txt\n- reply 1 0 226 Successfully sent\n",
    )
    -- a listing whose link fails, one that nobody is told of, and one without a link
    ∷ (
      record {
        event = later (kind.End (transfer 1));
        answer = answer.Done (record { result = result.WriteFailed; bytes = 3; fault = Some link.Reset });
        decision = decision.Finished;
        actions = action.Completed (transfer 1) true ∷ action.Reply 1 0 (reply.CodeAndMsg code.TransientFileError (codes "Failed to write file")) ∷ [];
      }
          ∷ record {
            event = later (kind.End (transfer 2));
            answer = answer.Done (record { result = result.Listed; bytes = 64; fault = None });
            decision = decision.Finished;
            actions = action.Completed (transfer 2) false ∷ [];
          }
          ∷ record {
            event = later (kind.Transfer 1 (command.List None None));
            answer = answer.None;
            decision = decision.NoSlot;
            actions = action.Reply 1 0 (reply.CodeAndMsg code.CantOpenDataConnection (codes "No data connection established")) ∷ [];
          } ∷ [],
      codes "> 1 end 1.1\n? done writefailed 3 reset\n= finished\n- completed 1.1 delivered\n- reply 1 0 450 Failed to write file\n"
          ++ codes "> 1 end 1.2\n? done listed 64 -\n= finished\n- completed 1.2 lost\n"
          ++ codes "> 1 list 1\n= noslot\n- reply 1 0 425 No data connection established\n",
    )
    -- a piece that moved, an ABOR, and the piece that is cut
    ∷ (
      record { event = later (kind.Piece (transfer 1)); answer = answer.Moved 8192; decision = decision.Moved; actions = [] }
          ∷ record { event = later (kind.Abor 1); answer = answer.None; decision = decision.Aborting; actions = [] }
          ∷ record {
            event = later (kind.Piece (transfer 1));
            answer = answer.None;
            decision = decision.Cut;
            actions =
                action.Cancelled (transfer 1)
                ∷ action.Reply 1 0 (reply.CodeAndMsg code.ConnectionClosed (codes "Datachannel unexpectedly closed"))
                ∷ action.Close 11
                ∷ action.Reply 1 0 (reply.CodeAndMsg code.ClosingDataConnection (codes "Closed data channel")) ∷ [];
          } ∷ [],
      codes "> 1 piece 1.1\n? moved 8192\n= moved\n> 1 abor 1\n= aborting\n"
          ++ codes "> 1 piece 1.1\n= cut\n- cancelled 1.1\n- reply 1 0 426 Datachannel unexpectedly closed\n- close 11\n"
          ++ codes "- reply 1 0 226 Closed data channel\n",
    ) ∷ [])
unfolding digits
printed = refl

pub spelled_answers : AreSpelled answer_line
    ((answer.Done (record { result = result.Refused error.PermanentFileNotAvailable; bytes = 0; fault = None }), codes "? done permanentfile 0 -\n")
    ∷ (answer.Done (record { result = result.OutOfMemory; bytes = 7; fault = Some link.BrokenPipe }), codes "? done memory 7 pipe\n") ∷ [])
unfolding digits
spelled_answers = refl

pub action_line-cancelled : action_line (action.Cancelled (record { session = 12; nr = 3 })) ≡ codes "- cancelled 12.3\n"
unfolding digits
action_line-cancelled = refl

pub spelled_lines : AreSpelled event_line
    -- no path, the empty path, and a path that begins with a hyphen
    ((later (kind.Transfer 1 (command.List None None)), codes "1 list 1")
    ∷ (later (kind.Transfer 1 (command.Nlst (Some []))), codes "1 nlst 1 ")
    ∷ (later (kind.Transfer 1 (command.Mlsd (Some (codes "-")))), codes "1 mlsd 1 -")
    -- the most significant digit comes first
    ∷ (later (kind.Stou 1 (2 ^ 124 + 10)), codes "1 stou 1 1000000000000000000000000000000a") ∷ [])
unfolding digits hex_digits
spelled_lines = refl

-- ---- lines that spell nothing

pub bad_lines : AreBad event_of
    (codes "1 retr 1"
    ∷ codes "1 end 1."
    ∷ codes "1 end 1 1"
    -- a digit too few, and a letter in upper case
    ∷ codes "1 stou 1 0000000000000000000000000000001"
    ∷ codes "1 stou 1 0000000000000000000000000000000A" ∷ [])
unfolding event_of word_value read_as number_at word_at text_field digits hex_word_at hex_digits
bad_lines = refl

-- ---- lines that are read

pub read_lines : AreRead event_of
    -- a path that is there and empty
    ((later (kind.Transfer 1 (command.List None (Some []))), codes "1 list 1 ")
    ∷ (later (kind.Transfer 1 (command.List None None)), codes "1 list 1")
    -- no session has such a transfer, and yet it has a line
    ∷ (later (kind.End (record { session = 1; nr = 0 })), codes "1 end 1.0")
    ∷ (later (kind.Piece (transfer 2)), codes "1 piece 1.2")
    ∷ (later (kind.Stou 1 (15 * 2 ^ 124 + 10)), codes "1 stou 1 f000000000000000000000000000000a") ∷ [])
unfolding event_of word_value read_as number_at word_at optional_text_field text_field text_from digits hex_word_at hex_digits
read_lines = refl
