-- Messages to the control layer by their names and fields.
use Rattle.std.specs.Prelude.{ℕ, List, codes}
use Rattle.ftp_base.specs.declared.message.ControlChanMsg.{ControlChanMsg}
use Rattle.ftp_base.specs.declared.message.ControlChanMsg.TheVariants as message

-- the message's name in lower case
abbrev pub label : ControlChanMsg → List ℕ
label message.PermissionDenied = codes "permissiondenied"
label message.NotFound = codes "notfound"
label (message.SentData path bytes) = codes "sentdata"
label (message.WrittenData path bytes) = codes "writtendata"
label message.ConnectionReset = codes "connectionreset"
label message.DataConnectionClosedAfterStor = codes "dataconnectionclosedafterstor"
label message.WriteFailed = codes "writefailed"
label message.DirectorySuccessfullyListed = codes "directorysuccessfullylisted"
label message.DirectoryListFailure = codes "directorylistfailure"
label message.CwdSuccess = codes "cwdsuccess"
label (message.DelFileSuccess path) = codes "delfilesuccess"
label (message.RmDirSuccess path) = codes "rmdirsuccess"
label (message.RenameSuccess old_path new_path) = codes "renamesuccess"
label message.DelFail = codes "delfail"
label (message.MkDirSuccess path) = codes "mkdirsuccess"
label message.MkdirFail = codes "mkdirfail"
label (message.AuthSuccess username trace_id) = codes "authsuccess"
label message.AuthFailed = codes "authfailed"
label message.ExitControlLoop = codes "exitcontrolloop"
label message.SecureControlChannel = codes "securecontrolchannel"
label message.PlaintextControlChannel = codes "plaintextcontrolchannel"
label (message.CommandChannelReply reply) = codes "commandchannelreply"
label (message.StorageError kind) = codes "storageerror"
