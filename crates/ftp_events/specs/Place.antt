-- A session's directory, restart offset and count of transfers, read from the session's history.
use Rattle.std.specs.Prelude.{ℕ, Bool, List, [], ◌∷◌, Option, Some, None, if◌then◌else◌}
use Rattle.std.specs.Bool.{then_some}
use Rattle.ftp_base.specs.Storage.{root}
use Rattle.ftp_transfer.specs.Path.{join_path}
use Rattle.ftp_events.specs.declared.entry.Entry.{Entry}
use Rattle.ftp_events.specs.declared.event.EventKind.{EventKind}
use Rattle.ftp_events.specs.declared.event.EventKind.TheVariants.{Rest, Cwd}
use Rattle.ftp_events.specs.declared.event.Answer.{Answer}
use Rattle.ftp_events.specs.declared.event.Answer.TheVariants.{Done}
use Rattle.ftp_events.specs.declared.decision.Decision.{Decision}
use Rattle.ftp_events.specs.declared.decision.Decision.TheVariants.{RestOk, CwdOk, Finished}
use Rattle.ftp_events.specs.Words.{latest, total}
use Rattle.ftp_events.specs.Classes.{slot_move, queues_one}
use Rattle.ftp_events.specs.Transfer.{moves_file}

-- the directory after an entry
abbrev pub cwd_after : Decision → EventKind → List ℕ → List ℕ
cwd_after CwdOk (Cwd session path refusal) dir = join_path dir path
cwd_after _ _ dir = dir

-- the working directory
abbrev pub cwd : List Entry → List ℕ
cwd [] = root
cwd (e ∷ h) = cwd_after e.decision e.event.kind (cwd h)

-- the restart offset that an entry sets: none is left after a transfer of a file that succeeded
abbrev pub offset_by : Decision → EventKind → Answer → Option ℕ
offset_by RestOk (Rest session offset) answer = Some offset
offset_by Finished k (Done outcome) = then_some (moves_file outcome.result) 0
offset_by _ _ _ = None

-- where the next RETR or STOR begins
abbrev pub offset : List Entry → ℕ
offset h = latest 0 (λ e. offset_by e.decision e.event.kind e.answer) h

-- a transfer was queued
abbrev pub is_queued : Decision → Bool
is_queued d = queues_one (slot_move d)

-- how many transfers were queued
abbrev pub ticket_count : List Entry → ℕ
ticket_count h = total (λ e. if is_queued e.decision then 1 else 0) h
