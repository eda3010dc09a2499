-- Replies as they are sent (RFC 959, section 4.2).
use Rattle.std.specs.Prelude.{ℕ, List, [], ◌++◌, codes}
use Rattle.ftp_base.specs.declared.reply.ReplyCode.{ReplyCode}
use Rattle.ftp_base.specs.declared.reply.ReplyCode.TheVariants as code
use Rattle.ftp_base.specs.declared.reply.Reply.{Reply}
use Rattle.ftp_base.specs.declared.reply.Reply.TheVariants as reply

-- the digits of each reply code
abbrev pub code_text : ReplyCode → List ℕ
code_text code.FileStatusOkay = codes "150"
code_text code.CommandOkay = codes "200"
code_text code.ServiceReady = codes "220"
code_text code.ClosingControlConnection = codes "221"
code_text code.ClosingDataConnection = codes "226"
code_text code.EnteringPassiveMode = codes "227"
code_text code.UserLoggedIn = codes "230"
code_text code.FileActionOkay = codes "250"
code_text code.DirCreated = codes "257"
code_text code.NeedPassword = codes "331"
code_text code.FileActionPending = codes "350"
code_text code.CantOpenDataConnection = codes "425"
code_text code.ConnectionClosed = codes "426"
code_text code.TransientFileError = codes "450"
code_text code.LocalError = codes "451"
code_text code.OutOfSpace = codes "452"
code_text code.CommandSyntaxError = codes "500"
code_text code.ParameterSyntaxError = codes "501"
code_text code.CommandNotImplemented = codes "502"
code_text code.BadCommandSequence = codes "503"
code_text code.NotLoggedIn = codes "530"
code_text code.FileError = codes "550"
code_text code.PageTypeUnknown = codes "551"
code_text code.ExceededStorageAllocation = codes "552"
code_text code.BadFileName = codes "553"

-- the line of a reply: the digits, a space, the text, CR and LF
abbrev pub encoding : Reply → List ℕ
encoding reply.None = []
encoding (reply.CodeAndMsg code msg) = code_text code ++ codes " " ++ msg ++ codes "\r\n"
