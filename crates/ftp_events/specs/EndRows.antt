-- What is decided on the pieces and the ends of jobs.
use Rattle.std.specs.Prelude.{ℕ, ◌+◌, ◌-◌, ◌^◌, Bool, not, ◌&&◌, nat_le, Option, Some, None}
use Rattle.ftp_transfer.specs.declared.job.Ticket.{Ticket}
use Rattle.ftp_transfer.specs.declared.job.Job.{Job}
use Rattle.ftp_transfer.specs.declared.job.Outcome.{Outcome}
use Rattle.ftp_events.specs.declared.session.Running.{Running}
use Rattle.ftp_transfer.specs.Transfer.{suits, is_listing}
use Rattle.ftp_events.specs.declared.event.Answer.{Answer}
use Rattle.ftp_events.specs.declared.event.Answer.TheVariants as answer
use Rattle.ftp_events.specs.declared.decision.Decision.{Decision}
use Rattle.ftp_events.specs.declared.decision.Decision.TheVariants.{UnknownNumber, NotExpected, Finished, Moved, Cut}
use Rattle.ftp_events.specs.Words.{◌⇒◌∣◌}
use Rattle.ftp_events.specs.Transfer.{same_ticket}

-- the job can end so: the result suits its command, and the bytes of earlier pieces are counted
abbrev pub can_end : Job → Outcome → Bool
can_end job outcome = suits outcome.result job.command && nat_le job.done outcome.bytes

-- the job can go on so: it moves a file, by 1 to 8,192 bytes, and their count does not pass its end
abbrev pub can_move : Job → ℕ → Bool
can_move job bytes = not (is_listing job.command) && (nat_le 1 bytes && (nat_le bytes 8192 && nat_le (job.done + bytes) (2 ^ 64 - 1)))

-- the end of a job, by its outcome
abbrev pub outcome_row : Job → Answer → Decision
outcome_row job (answer.Done outcome) = can_end job outcome ⇒ Finished ∣ NotExpected
outcome_row job _ = NotExpected

-- a piece of a job, which may be its last
abbrev pub moved_row : Job → Answer → Decision
moved_row job (answer.Moved bytes) = can_move job bytes ⇒ Moved ∣ NotExpected
moved_row job given = outcome_row job given

-- a job that is to stop is cut
abbrev pub unless_marked : Running → Decision → Decision
unless_marked r d = r.marked ⇒ Cut ∣ d

-- the end of a job that runs
abbrev pub end_row : Ticket → Answer → Option Running → Decision
end_row ticket answer None = UnknownNumber
end_row ticket answer (Some r) = same_ticket r.job.ticket ticket ⇒ unless_marked r (outcome_row r.job answer) ∣ UnknownNumber

-- a piece of a job that runs
abbrev pub piece_row : Ticket → Answer → Option Running → Decision
piece_row ticket answer None = UnknownNumber
piece_row ticket answer (Some r) = same_ticket r.job.ticket ticket ⇒ unless_marked r (moved_row r.job answer) ∣ UnknownNumber
