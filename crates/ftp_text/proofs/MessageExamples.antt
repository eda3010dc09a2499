-- Worked examples of messages of the control layer, of ABOR, of idle sessions and of the stop: as they are printed, and the lines
-- of their events.
use Rattle.std.proofs.Common.{◌≡◌, ℕ, List, [], ◌∷◌, ◌++◌, Some, None, refl}
use Rattle.std.specs.Prelude.{codes}
use Rattle.std.specs.List.{flat_map}
use Rattle.std.specs.Fmt.{digits}
use Rattle.ftp_base.specs.declared.error_kind.ErrorKind.TheVariants as error
use Rattle.ftp_base.specs.declared.message.ControlChanMsg.{ControlChanMsg}
use Rattle.ftp_base.specs.declared.message.ControlChanMsg.TheVariants as message
use Rattle.ftp_base.specs.declared.notice.DataEvent.TheVariants as data_event
use Rattle.ftp_base.specs.declared.notice.Notice.{Notice}
use Rattle.ftp_base.specs.declared.notice.Notice.TheVariants as notice
use Rattle.ftp_base.specs.declared.notice.PresenceEvent.TheVariants as presence
use Rattle.ftp_base.specs.declared.reply.Reply.TheVariants as reply
use Rattle.ftp_base.specs.declared.reply.ReplyCode.{ReplyCode}
use Rattle.ftp_base.specs.declared.reply.ReplyCode.TheVariants as code
use Rattle.ftp_events.specs.declared.action.Action.{Action}
use Rattle.ftp_events.specs.declared.action.Action.TheVariants as action
use Rattle.ftp_events.specs.declared.decision.Decision.{Decision}
use Rattle.ftp_events.specs.declared.decision.Decision.TheVariants as decision
use Rattle.ftp_events.specs.declared.entry.Entry.{Entry}
use Rattle.ftp_events.specs.declared.event.Answer.TheVariants as answer
use Rattle.ftp_events.specs.declared.event.EventKind.{EventKind}
use Rattle.ftp_events.specs.declared.event.EventKind.TheVariants as kind
use Rattle.ftp_events.specs.declared.event.HubEvent.{HubEvent}
use Rattle.ftp_text.specs.Message.{message_at, two_paths_at}
use Rattle.ftp_text.specs.Reading.{number_at, text_from, text_field, word_value, word_at}
use Rattle.ftp_text.specs.Events.{event_line}
use Rattle.ftp_text.specs.Printing.{print, decision_line, action_line}
use Rattle.ftp_text.specs.EventReading.{event_of, read_as}
use Rattle.ftp_text.proofs.Samples.{AreSpelled, AreRead, AreBad}

abbrev happens : EventKind → HubEvent
happens k = record { at = 1; kind = k }

abbrev has : ControlChanMsg → HubEvent
has m = happens (kind.Internal 1 m)

abbrev entry : EventKind → Decision → List Action → Entry
entry k d actions = record { event = happens k; answer = answer.None; decision = d; actions = actions }

abbrev notify : ℕ → ℕ → Notice → Action
notify s nr what = action.Notify s (record { username = codes "ann"; trace_id = record { 0 = s }; sequence_number = nr }) what

abbrev told : ℕ → ReplyCode → List ℕ → Action
told s c text = action.Reply s 0 (reply.CodeAndMsg c text)

-- ---- as they are printed

-- a new name, and a reply as it is
pub print-told : print
    (entry (kind.Internal 1 (message.RenameSuccess (codes "/a") (codes "/b"))) decision.Told
    (notify 1 2 (notice.Data (data_event.Renamed (codes "/a") (codes "/b"))) ∷ told 1 code.FileActionOkay (codes "Renamed") ∷ [])
    ∷ entry (kind.Internal 1 (message.CommandChannelReply (reply.CodeAndMsg code.CommandOkay (codes "Always in binary mode")))) decision.Told
    (told 1 code.CommandOkay (codes "Always in binary mode") ∷ []) ∷ [])
    ≡ codes "> 1 internal 1 renamed 2 /a/b\n= told\n- notify 1 2 0x1 renamed 0 3 2 ann/a/b\n- reply 1 0 250 Renamed\n"
    ++ codes "> 1 internal 1 reply 200 Always in binary mode\n= told\n- reply 1 0 200 Always in binary mode\n"
unfolding digits
print-told = refl

-- each other notice of a message
pub notify_lines : flat_map action_line
    (notify 1 1 (notice.Data (data_event.Deleted (codes "/a"))) ∷ notify 1 2 (notice.Data (data_event.MadeDir (codes "/d")))
    ∷ notify 1 3 (notice.Data (data_event.RemovedDir [])) ∷ [])
    ≡ codes "- notify 1 1 0x1 deleted 0 3 2 ann/a\n- notify 1 2 0x1 madedir 0 3 2 ann/d\n- notify 1 3 0x1 removeddir 0 3 0 ann\n"
unfolding digits
notify_lines = refl

-- a slot is given up, an idle session ends, and with the stop two sessions do
pub print-ends : print
    (entry (kind.Abor 1) decision.Aborted (action.Cancelled (record { session = 1; nr = 1 }) ∷ told 1 code.ClosingDataConnection (codes "Closed data channel") ∷ [])
    ∷ entry (kind.IdleTick 1) decision.TimedOut
    (notify 1 2 (notice.Presence presence.LoggedOut) ∷ told 1 code.ClosingControlConnection (codes "Session timed out. Closing control connection") ∷ action.Close 1 ∷ [])
    ∷ entry kind.Scavenge decision.Scavenged []
    ∷ entry kind.Shutdown decision.Stopped
    (notify 2 2 (notice.Presence presence.LoggedOut) ∷ action.Close 2 ∷ notify 3 2 (notice.Presence presence.LoggedOut) ∷ action.Close 3 ∷ []) ∷ [])
    ≡ codes "> 1 abor 1\n= aborted\n- cancelled 1.1\n- reply 1 0 226 Closed data channel\n"
    ++ codes "> 1 idle 1\n= timedout\n- notify 1 2 0x1 logout 0 3 0 ann\n- reply 1 0 221 Session timed out. Closing control connection\n- close 1\n"
    ++ codes "> 1 scavenge\n= scavenged\n"
    ++ codes "> 1 shutdown\n= stopped\n- notify 2 2 0x2 logout 0 3 0 ann\n- close 2\n- notify 3 2 0x3 logout 0 3 0 ann\n- close 3\n"
unfolding digits
print-ends = refl

pub decision_lines : flat_map decision_line (decision.NothingToAbort ∷ decision.Waited ∷ []) ≡ codes "= nothingtoabort\n= waited\n"
decision_lines = refl

-- ---- the lines of the events

pub spelled_lines : AreSpelled event_line
    -- a message that only the core has is told by its session alone
    ((has message.WriteFailed, codes "1 internal 1")
    -- the length counts bytes, not what spells them
    ∷ (has (message.RenameSuccess (255 ∷ []) (codes "b")), codes "1 internal 1 renamed 1 \\xffb") ∷ [])
unfolding digits
spelled_lines = refl

pub read_lines : AreRead event_of
    ((has (message.RenameSuccess (codes "/a") (codes "/b")), codes "1 internal 1 renamed 2 /a/b")
    -- either path may be empty
    ∷ (has (message.RenameSuccess (codes "/a/b") []), codes "1 internal 1 renamed 4 /a/b")
    ∷ (has (message.RenameSuccess [] []), codes "1 internal 1 renamed 0 ")
    ∷ (has message.PermissionDenied, codes "1 internal 1 denied")
    ∷ (has (message.DelFileSuccess []), codes "1 internal 1 deleted ")
    ∷ (has (message.StorageError error.InsufficientStorageSpaceError), codes "1 internal 1 kind space")
    ∷ (has (message.CommandChannelReply (reply.CodeAndMsg code.BadFileName (codes "no"))), codes "1 internal 1 reply 553 no")
    ∷ (happens (kind.Abor 1), codes "1 abor 1")
    ∷ (happens (kind.IdleTick 1), codes "1 idle 1")
    ∷ (happens kind.Scavenge, codes "1 scavenge")
    ∷ (happens kind.Shutdown, codes "1 shutdown") ∷ [])
unfolding event_of word_value read_as message_at two_paths_at number_at text_field text_from word_at digits
read_lines = refl

-- ---- lines that spell nothing

pub bad_lines : AreBad event_of
    -- the first path is longer than both
    (codes "1 internal 1 renamed 5 /a/b"
    ∷ codes "1 internal 1 renamed 0"
    ∷ codes "1 internal 1"
    ∷ codes "1 internal 1 reply 999 no"
    -- a storage that refuses nothing has no message
    ∷ codes "1 internal 1 kind ok"
    ∷ codes "1 internal 1 denied "
    -- the stop is about no one session
    ∷ codes "1 shutdown 1" ∷ [])
unfolding event_of word_value read_as message_at two_paths_at number_at text_field text_from word_at digits
bad_lines = refl
