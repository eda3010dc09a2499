-- What a message to the control layer answers, and what it notifies.
use Rattle.std.specs.Prelude.{ℕ, Bool, true, false, List, Option, Some, None, codes}
use Rattle.ftp_base.specs.declared.error_kind.ErrorKind.{ErrorKind}
use Rattle.ftp_base.specs.declared.error_kind.ErrorKind.TheVariants as error
use Rattle.ftp_base.specs.declared.message.ControlChanMsg.{ControlChanMsg}
use Rattle.ftp_base.specs.declared.message.ControlChanMsg.TheVariants as message
use Rattle.ftp_base.specs.declared.notice.DataEvent.{DataEvent}
use Rattle.ftp_base.specs.declared.notice.DataEvent.TheVariants.{Got, Put, Deleted, MadeDir, RemovedDir, Renamed}
use Rattle.ftp_base.specs.declared.reply.ReplyCode.TheVariants as code
use Rattle.ftp_base.specs.declared.reply.Reply.{Reply}
use Rattle.ftp_base.specs.declared.reply.Reply.TheVariants as reply
use Rattle.ftp_transfer.specs.declared.job.Completion.{Completion}
use Rattle.ftp_transfer.specs.declared.job.Completion.TheVariants as result
use Rattle.ftp_transfer.specs.declared.job.Outcome.{Outcome}

-- a refusal by the storage
abbrev pub reply_of_kind : ErrorKind → Reply
reply_of_kind error.TransientFileNotAvailable = reply.CodeAndMsg code.TransientFileError (codes "File not found")
reply_of_kind error.PermanentFileNotAvailable = reply.CodeAndMsg code.FileError (codes "File not found")
reply_of_kind error.PermanentDirectoryNotAvailable = reply.CodeAndMsg code.FileError (codes "Directory not found")
reply_of_kind error.PermanentDirectoryNotEmpty = reply.CodeAndMsg code.FileError (codes "Directory not empty")
reply_of_kind error.PermissionDenied = reply.CodeAndMsg code.FileError (codes "Permission denied")
reply_of_kind error.ConnectionClosed = reply.CodeAndMsg code.ConnectionClosed (codes "Connection closed")
reply_of_kind error.LocalError = reply.CodeAndMsg code.LocalError (codes "Local error")
reply_of_kind error.PageTypeUnknown = reply.CodeAndMsg code.PageTypeUnknown (codes "Page type unknown")
reply_of_kind error.InsufficientStorageSpaceError = reply.CodeAndMsg code.OutOfSpace (codes "Insufficient storage space")
reply_of_kind error.ExceededStorageAllocationError = reply.CodeAndMsg code.ExceededStorageAllocation (codes "Exceeded storage allocation")
reply_of_kind error.FileNameNotAllowedError = reply.CodeAndMsg code.BadFileName (codes "File name not allowed")
reply_of_kind error.CommandNotImplemented = reply.CodeAndMsg code.CommandNotImplemented (codes "Command not implemented")

-- the reply to a message
abbrev pub reply_of : ControlChanMsg → Reply
reply_of (message.AuthSuccess username trace_id) = reply.CodeAndMsg code.UserLoggedIn (codes "User logged in, proceed")
reply_of message.AuthFailed = reply.CodeAndMsg code.NotLoggedIn (codes "Authentication failed")
reply_of message.CwdSuccess = reply.CodeAndMsg code.FileActionOkay (codes "Successfully changed working directory")
reply_of (message.StorageError kind) = reply_of_kind kind
reply_of (message.SentData path bytes) = reply.CodeAndMsg code.ClosingDataConnection (codes "Successfully sent")
reply_of (message.WrittenData path bytes) = reply.CodeAndMsg code.ClosingDataConnection (codes "File successfully written")
reply_of message.WriteFailed = reply.CodeAndMsg code.TransientFileError (codes "Failed to write file")
reply_of message.DirectorySuccessfullyListed = reply.CodeAndMsg code.ClosingDataConnection (codes "Listed the directory")
reply_of message.PermissionDenied = reply.CodeAndMsg code.FileError (codes "Permision denied")
reply_of message.NotFound = reply.CodeAndMsg code.FileError (codes "File not found")
reply_of message.ConnectionReset = reply.CodeAndMsg code.ConnectionClosed (codes "Datachannel unexpectedly closed")
reply_of message.DataConnectionClosedAfterStor = reply.CodeAndMsg code.FileActionOkay (codes "unFTP holds your data for you")
reply_of message.DirectoryListFailure = reply.CodeAndMsg code.ClosingDataConnection (codes "Failed to list the directory")
reply_of (message.DelFileSuccess path) = reply.CodeAndMsg code.FileActionOkay (codes "Successfully removed")
reply_of (message.RmDirSuccess path) = reply.CodeAndMsg code.FileActionOkay (codes "Successfully removed")
reply_of (message.RenameSuccess old_path new_path) = reply.CodeAndMsg code.FileActionOkay (codes "Renamed")
reply_of message.DelFail = reply.CodeAndMsg code.TransientFileError (codes "Failed to delete the file")
reply_of (message.MkDirSuccess path) = reply.CodeAndMsg code.DirCreated path
reply_of message.MkdirFail = reply.CodeAndMsg code.FileError (codes "Failed to create directory")
reply_of message.ExitControlLoop = reply.None
reply_of message.SecureControlChannel = reply.None
reply_of message.PlaintextControlChannel = reply.None
reply_of (message.CommandChannelReply given) = given

-- the message is answered by words for what was changed in the storage, or could not be
abbrev pub is_of_change : ControlChanMsg → Bool
is_of_change (message.DelFileSuccess path) = true
is_of_change (message.RmDirSuccess path) = true
is_of_change (message.RenameSuccess old_path new_path) = true
is_of_change message.DelFail = true
is_of_change message.MkdirFail = true
is_of_change _ = false

-- the message is answered by words, and not by a path, by a reply that it has, or not at all
abbrev pub is_worded : ControlChanMsg → Bool
is_worded (message.MkDirSuccess path) = false
is_worded (message.CommandChannelReply given) = false
is_worded message.ExitControlLoop = false
is_worded message.SecureControlChannel = false
is_worded message.PlaintextControlChannel = false
is_worded _ = true

-- the messages that the control layer itself has for a client, and not the core
abbrev pub is_for_control : ControlChanMsg → Bool
is_for_control message.PermissionDenied = true
is_for_control message.NotFound = true
is_for_control (message.DelFileSuccess path) = true
is_for_control (message.RmDirSuccess path) = true
is_for_control (message.RenameSuccess old_path new_path) = true
is_for_control message.DelFail = true
is_for_control (message.MkDirSuccess path) = true
is_for_control message.MkdirFail = true
is_for_control (message.CommandChannelReply given) = true
is_for_control (message.StorageError kind) = true
is_for_control _ = false

-- what a message notifies
abbrev pub notice_of : ControlChanMsg → Option DataEvent
notice_of (message.SentData path bytes) = Some (Got path bytes)
notice_of (message.WrittenData path bytes) = Some (Put path bytes)
notice_of (message.DelFileSuccess path) = Some (Deleted path)
notice_of (message.RmDirSuccess path) = Some (RemovedDir path)
notice_of (message.RenameSuccess old_path new_path) = Some (Renamed old_path new_path)
notice_of (message.MkDirSuccess path) = Some (MadeDir path)
notice_of _ = None

-- the message of an outcome, for the job's path
abbrev pub message_of_outcome : List ℕ → Outcome → Completion → ControlChanMsg
message_of_outcome path outcome result.Sent = message.SentData path outcome.bytes
message_of_outcome path outcome result.Written = message.WrittenData path outcome.bytes
message_of_outcome path outcome result.Listed = message.DirectorySuccessfullyListed
message_of_outcome path outcome result.WriteFailed = message.WriteFailed
message_of_outcome path outcome (result.Refused kind) = message.StorageError kind
message_of_outcome path outcome result.OutOfMemory =
    message.CommandChannelReply (reply.CodeAndMsg code.OutOfSpace (codes "Out of memory"))
