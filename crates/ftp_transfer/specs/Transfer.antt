-- Which results suit which command.
use Rattle.std.specs.Prelude.{Bool, true, false}
use Rattle.ftp_base.specs.declared.command.DataChanCmd.{DataChanCmd}
use Rattle.ftp_base.specs.declared.command.DataChanCmd.TheVariants as command
use Rattle.ftp_transfer.specs.declared.job.Completion.{Completion}
use Rattle.ftp_transfer.specs.declared.job.Completion.TheVariants as result
use Rattle.ftp_transfer.specs.declared.job.Outcome.{Outcome}
use Rattle.ftp_transfer.specs.declared.job.PieceResult.{PieceResult}
use Rattle.ftp_transfer.specs.declared.job.PieceResult.TheVariants.{More, Ended}

-- LIST, NLST and MLSD
abbrev pub is_listing : DataChanCmd → Bool
is_listing (command.List options path) = true
is_listing (command.Nlst path) = true
is_listing (command.Mlsd path) = true
is_listing _ = false

-- STOR and APPE
abbrev pub is_store : DataChanCmd → Bool
is_store (command.Stor path) = true
is_store (command.Appe path) = true
is_store _ = false

-- RETR
abbrev pub is_retrieve : DataChanCmd → Bool
is_retrieve (command.Retr path) = true
is_retrieve _ = false

-- the command can end with the result
abbrev pub suits : Completion → DataChanCmd → Bool
suits result.Sent c = is_retrieve c
suits result.Written c = is_store c
suits result.Listed c = is_listing c
suits result.WriteFailed c = is_listing c
suits (result.Refused kind) c = true
suits result.OutOfMemory c = true

-- a piece ended the transfer so
abbrev pub IfEnded : PieceResult → (Outcome → Type 0) → Type 0
IfEnded (More bytes) P = Unit {0}
IfEnded (Ended outcome) P = P outcome
