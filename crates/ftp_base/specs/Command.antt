-- Commands that move bytes over a data connection.
use Rattle.std.specs.Prelude.{ℕ, List, Option, Some}
use Rattle.ftp_base.specs.declared.command.DataChanCmd.{DataChanCmd}
use Rattle.ftp_base.specs.declared.command.DataChanCmd.TheVariants as command

-- the path that a command names
abbrev pub path_of : DataChanCmd → Option (List ℕ)
path_of (command.Retr path) = Some path
path_of (command.Stor path) = Some path
path_of (command.Appe path) = Some path
path_of (command.List options path) = path
path_of (command.Nlst path) = path
path_of (command.Mlsd path) = path
