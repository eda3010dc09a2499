-- What may be done on a line beside what the profile does, and for whom.
use Rattle.std.specs.Prelude.{◌≡◌, ℕ, ⊤, Bool, true, false, List, Option}
use Rattle.std.specs.Option.{option_copied}
use Rattle.ftp_base.specs.declared.message.ControlChanMsg.TheVariants as message
use Rattle.ftp_base.specs.declared.reply.Reply.TheVariants as reply
use Rattle.ftp_base.specs.declared.reply.ReplyCode.{ReplyCode}
use Rattle.ftp_control.specs.declared.command.Command.{Command}
use Rattle.ftp_control.specs.declared.command.Command.TheVariants as command
use Rattle.ftp_extras.specs.declared.extra.Asker.{Asker}
use Rattle.ftp_extras.specs.declared.extra.Extra.{Extra}
use Rattle.ftp_extras.specs.declared.extra.Extra.TheVariants as extra
use Rattle.ftp_extras.specs.ReplyLines.{ReplyText, reply_bytes, AreReplyLines}

-- who asks: the name that was given last, whether the user is logged in, and the working directory
pub record AskerView : Type 0 where
  pub name : Option (List ℕ)
  pub is_in : Bool
  pub cwd : List ℕ

-- who asks, as contracts see it
abbrev pub seen : Asker → AskerView
seen asker = record { name = option_copied asker.name; is_in = asker.is_in; cwd = asker.cwd.now }

-- the command gives a password
abbrev pub gives_password : Command → Bool
gives_password (command.Pass password) = true
gives_password _ = false

-- what the profile does
abbrev pub is_passed : Extra → Bool
is_passed extra.Pass = true
is_passed _ = false

-- what the profile does, or a refusal of the storage
abbrev pub is_passed_or_refused : Extra → Bool
is_passed_or_refused extra.Pass = true
is_passed_or_refused (extra.Tell (message.StorageError kind)) = true
is_passed_or_refused _ = false

-- this may be done on the line of a command: anything on a word that is no command's, and a transfer may be refused as the
-- storage refuses
abbrev pub is_beside : Command → Extra → Bool
is_beside (command.Other word) x = true
is_beside (command.Data c) x = is_passed_or_refused x
is_beside _ x = is_passed x

-- what is said is whole replies, and what is done in place of the line gives no password
abbrev pub IsWhole : Extra → Type 0
IsWhole (extra.Say bytes) = AreReplyLines bytes
IsWhole (extra.As c) = gives_password c ≡ false
IsWhole _ = ⊤

-- a reply in lines is said
abbrev pub says_text : ReplyText → Extra
says_text text = extra.Say (reply_bytes text)

-- a reply of the hub's is told
abbrev pub tells : ReplyCode → List ℕ → Extra
tells code text = extra.Tell (message.CommandChannelReply (reply.CodeAndMsg code text))
