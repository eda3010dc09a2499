-- What a transfer is fixed to when it is asked for.
use Rattle.std.specs.Prelude.{ℕ, Bool, true, false, ◌&&◌, ◌==◌, List, [], ◌∷◌, Option, Some, None, if◌then◌else◌}
use Rattle.std.specs.Str.{bytes_eq}
use Rattle.ftp_base.specs.declared.command.DataChanCmd.{DataChanCmd}
use Rattle.ftp_base.specs.declared.command.DataChanCmd.TheVariants.{Retr, Stor, Appe, Nlst, Mlsd}
use Rattle.ftp_base.specs.declared.command.DataChanCmd.TheVariants as command
use Rattle.ftp_transfer.specs.declared.job.Ticket.{Ticket}
use Rattle.ftp_transfer.specs.declared.job.Job.{Job}
use Rattle.ftp_transfer.specs.declared.job.Completion.{Completion}
use Rattle.ftp_transfer.specs.declared.job.Completion.TheVariants as result
use Rattle.ftp_transfer.specs.Path.{join_path}
use Rattle.ftp_events.specs.declared.session.Pending.{Pending}
use Rattle.ftp_events.specs.declared.session.Running.{Running}

-- the tickets are equal
abbrev pub same_ticket : Ticket → Ticket → Bool
same_ticket a b = (a.session == b.session) && (a.nr == b.nr)

-- the path of a listing: the directory itself for no path or `.`
abbrev pub listed_path : List ℕ → Option (List ℕ) → List ℕ
listed_path dir None = dir
listed_path dir (Some path) = if bytes_eq path (46 ∷ []) then dir else join_path dir path

-- the path of a command
abbrev pub command_path : List ℕ → DataChanCmd → List ℕ
command_path dir (Retr path) = join_path dir path
command_path dir (Stor path) = join_path dir path
command_path dir (Appe path) = join_path dir path
command_path dir (command.List options path) = listed_path dir path
command_path dir (Nlst path) = listed_path dir path
command_path dir (Mlsd path) = listed_path dir path

-- the offset of a command: RETR and STOR begin at the session's
abbrev pub command_offset : ℕ → DataChanCmd → ℕ
command_offset n (Retr path) = n
command_offset n (Stor path) = n
command_offset n _ = 0

-- what a 150 fixes of a transfer: who asks, what, from where
abbrev pub pending_of : Ticket → List ℕ → List ℕ → ℕ → DataChanCmd → Pending
pending_of ticket user dir n c =
    record { ticket = ticket; user = user; command = c; path = command_path dir c; offset = command_offset n c }

-- a transfer on its link
abbrev pub job_of : Pending → ℕ → Job
job_of p number =
    record { ticket = p.ticket; user = p.user; command = p.command; path = p.path; offset = p.offset; number = number; done = 0 }

-- it as it starts
abbrev pub run_of : Pending → ℕ → Running
run_of p number = record { job = job_of p number; marked = false }

-- a RETR, STOR or APPE that succeeded
abbrev pub moves_file : Completion → Bool
moves_file result.Sent = true
moves_file result.Written = true
moves_file _ = false
