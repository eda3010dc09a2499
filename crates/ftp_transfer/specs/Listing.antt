-- Listings as they are sent: a line a child.
use Rattle.std.specs.Prelude.{ℕ, ◌-◌, List, [], ◌++◌, length, replicate, Option, Some, None, codes, decimal, if◌then◌else◌}
use Rattle.std.specs.List.{flat_map}
use Rattle.ftp_base.specs.declared.command.DataChanCmd.{DataChanCmd}
use Rattle.ftp_base.specs.declared.command.DataChanCmd.TheVariants as command
use Rattle.ftp_base.specs.declared.storage.Meta.{Meta}
use Rattle.ftp_base.specs.declared.storage.FileInfo.{FileInfo}
use Rattle.ftp_base.specs.declared.storage.Looks.{Looks}

-- the facts of a file or a directory (RFC 3659, section 7)
abbrev pub facts : Meta → List ℕ
facts meta = if meta.is_dir then codes "type=dir;" else codes "type=file;size=" ++ decimal meta.len ++ codes ";"

-- the fact of when it was last changed, where that is told
abbrev pub modify_fact : Option Looks → List ℕ
modify_fact None = []
modify_fact (Some looks) = codes "modify=" ++ looks.modify ++ codes ";"

-- a number in twelve places, on the right of them
abbrev pub twelve_places : ℕ → List ℕ
twelve_places n = replicate (12 - length (decimal n)) 32 ++ decimal n

-- what it is and who may do what, in ten letters
abbrev pub mode : Meta → Option Looks → List ℕ
mode meta None = if meta.is_dir then codes "drwxrwxrwx" else codes "-rw-rw-rw-"
mode meta (Some looks) = (if meta.is_dir then codes "d" else codes "-") ++ looks.mode

-- when it was last changed
abbrev pub date_shown : Option Looks → List ℕ
date_shown None = codes "Jan 01 1970"
date_shown (Some looks) = looks.shown

-- the line of a child without its end
abbrev pub entry_of : DataChanCmd → FileInfo → List ℕ
entry_of (command.List options path) child =
    mode child.meta child.looks ++ codes " 1 ftp ftp " ++ twelve_places child.meta.len ++ codes " " ++ date_shown child.looks ++ codes " " ++ child.name
entry_of (command.Nlst path) child = child.name
entry_of (command.Mlsd path) child = facts child.meta ++ modify_fact child.looks ++ codes " " ++ child.name
entry_of _ child = []

-- the line of a child
abbrev pub line_of : DataChanCmd → FileInfo → List ℕ
line_of c child = entry_of c child ++ codes "\r\n"

-- what LIST, NLST and MLSD send of the children of a directory
abbrev pub listing_text : DataChanCmd → List FileInfo → List ℕ
listing_text c children = flat_map (line_of c) children
