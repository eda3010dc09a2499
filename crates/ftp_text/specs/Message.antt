-- How a message to the control layer is spelled and read: by a word, and by what stands behind the word.
--
-- A message that only the core itself has, and one that says nothing, has no word, and nothing is written of it.
use Rattle.std.specs.Prelude.{ℕ, nat_le, Bool, List, [], ◌∷◌, ◌++◌, length, take, drop, codes, Some}
use Rattle.ftp_base.specs.declared.message.ControlChanMsg.{ControlChanMsg}
use Rattle.ftp_base.specs.declared.message.ControlChanMsg.TheVariants as message
use Rattle.ftp_base.specs.declared.reply.ReplyCode.{ReplyCode}
use Rattle.ftp_base.specs.declared.reply.ReplyCode.TheVariants as code
use Rattle.ftp_base.specs.declared.reply.Reply.TheVariants as reply
use Rattle.ftp_base.specs.Reply.{code_text}
use Rattle.ftp_text.specs.LineWords.{MessageWord}
use Rattle.ftp_text.specs.LineWords as word
use Rattle.ftp_text.specs.Fields.{field, number, escape, kind_text, IsText, IsNumber}
use Rattle.ftp_text.specs.Reading.{Reader, pair, made, tested, number_field, text_field, word_value, worded, kinds}

-- ---- spelling

-- the word of each message
abbrev pub message_word_text : MessageWord → List ℕ
message_word_text word.Denied = codes "denied"
message_word_text word.NotFound = codes "notfound"
message_word_text word.DelFail = codes "delfail"
message_word_text word.MkdirFail = codes "mkdirfail"
message_word_text word.Deleted = codes "deleted"
message_word_text word.Removed = codes "removed"
message_word_text word.Made = codes "made"
message_word_text word.Renamed = codes "renamed"
message_word_text word.Kind = codes "kind"
message_word_text word.AsItIs = codes "reply"

-- the word as a field
abbrev pub message_word : MessageWord → List ℕ
message_word w = field (message_word_text w)

-- two paths: how long the first is, and both as one text
abbrev pub two_paths : List ℕ × List ℕ → List ℕ
two_paths paths = number (length paths.0) ++ field (escape (paths.0 ++ paths.1))

-- the code and the text of a reply
abbrev pub code_and_text : ReplyCode × List ℕ → List ℕ
code_and_text reply = field (code_text reply.0) ++ field (escape reply.1)

-- the word and the fields of a message
abbrev pub message_fields : ControlChanMsg → List ℕ
message_fields message.PermissionDenied = message_word word.Denied
message_fields message.NotFound = message_word word.NotFound
message_fields message.DelFail = message_word word.DelFail
message_fields message.MkdirFail = message_word word.MkdirFail
message_fields (message.DelFileSuccess path) = message_word word.Deleted ++ field (escape path)
message_fields (message.RmDirSuccess path) = message_word word.Removed ++ field (escape path)
message_fields (message.MkDirSuccess path) = message_word word.Made ++ field (escape path)
message_fields (message.RenameSuccess old_path new_path) = message_word word.Renamed ++ two_paths (old_path, new_path)
message_fields (message.StorageError kind) = message_word word.Kind ++ field (kind_text kind)
message_fields (message.CommandChannelReply (reply.CodeAndMsg code text)) = message_word word.AsItIs ++ code_and_text (code, text)
message_fields _ = []

-- the paths are bytes, and the length of the first fits its type
abbrev pub ArePaths : List ℕ × List ℕ → Type 0
ArePaths paths = IsNumber (length paths.0) × IsText paths.0 × IsText paths.1

-- the message has a word, and its fields lie in the ranges of their types
abbrev pub IsMessage : ControlChanMsg → Type 0
IsMessage message.PermissionDenied = Unit {0}
IsMessage message.NotFound = Unit {0}
IsMessage message.DelFail = Unit {0}
IsMessage message.MkdirFail = Unit {0}
IsMessage (message.DelFileSuccess path) = IsText path
IsMessage (message.RmDirSuccess path) = IsText path
IsMessage (message.MkDirSuccess path) = IsText path
IsMessage (message.RenameSuccess old_path new_path) = ArePaths (old_path, new_path)
IsMessage (message.StorageError kind) = Unit {0}
IsMessage (message.CommandChannelReply (reply.CodeAndMsg code text)) = IsText text
IsMessage _ = ⊥

-- ---- reading

-- the words of messages that have fields
abbrev pub words_with_fields : List MessageWord
words_with_fields = word.Deleted ∷ word.Removed ∷ word.Made ∷ word.Renamed ∷ word.Kind ∷ word.AsItIs ∷ []

-- all words of messages
abbrev pub message_words : List MessageWord
message_words = word.Denied ∷ word.NotFound ∷ word.DelFail ∷ word.MkdirFail ∷ words_with_fields

-- all codes of replies
abbrev pub reply_codes : List ReplyCode
reply_codes =
    code.FileStatusOkay ∷ code.CommandOkay ∷ code.ServiceReady ∷ code.ClosingControlConnection ∷ code.ClosingDataConnection
    ∷ code.EnteringPassiveMode ∷ code.UserLoggedIn ∷ code.FileActionOkay ∷ code.DirCreated ∷ code.NeedPassword
    ∷ code.FileActionPending ∷ code.CantOpenDataConnection ∷ code.ConnectionClosed ∷ code.TransientFileError
    ∷ code.LocalError ∷ code.OutOfSpace ∷ code.CommandSyntaxError ∷ code.ParameterSyntaxError
    ∷ code.CommandNotImplemented ∷ code.BadCommandSequence ∷ code.NotLoggedIn ∷ code.FileError ∷ code.PageTypeUnknown
    ∷ code.ExceededStorageAllocation ∷ code.BadFileName ∷ []

-- the text is as long as its first part is to be
abbrev pub has_first : ℕ × List ℕ → Bool
has_first x = nat_le x.0 (length x.1)

-- the first part of a text, which is so long, and the rest
abbrev pub cut : ℕ × List ℕ → List ℕ × List ℕ
cut x = (take x.0 x.1, drop x.0 x.1)

-- two paths up to the end
unfoldable pub two_paths_at : Reader (List ℕ × List ℕ)
two_paths_at = made cut (tested has_first (pair number_field text_field))

-- the code and the text of a reply
abbrev pub code_and_text_at : Reader (ReplyCode × List ℕ)
code_and_text_at = pair (word_value code_text reply_codes) text_field

-- the message that is its word alone
abbrev pub nothing_more : ControlChanMsg → Reader ControlChanMsg
nothing_more m bytes = Some (m, bytes)

-- the message behind its word
abbrev pub message_behind : MessageWord → Reader ControlChanMsg
message_behind word.Denied = nothing_more message.PermissionDenied
message_behind word.NotFound = nothing_more message.NotFound
message_behind word.DelFail = nothing_more message.DelFail
message_behind word.MkdirFail = nothing_more message.MkdirFail
message_behind word.Deleted = made message.DelFileSuccess text_field
message_behind word.Removed = made message.RmDirSuccess text_field
message_behind word.Made = made message.MkDirSuccess text_field
message_behind word.Renamed = made (λ x. message.RenameSuccess x.0 x.1) two_paths_at
message_behind word.Kind = made message.StorageError (word_value kind_text kinds)
message_behind word.AsItIs = made (λ x. message.CommandChannelReply (reply.CodeAndMsg x.0 x.1)) code_and_text_at

-- a message up to the end
unfoldable pub message_at : Reader ControlChanMsg
message_at = worded message_word_text message_words message_behind
