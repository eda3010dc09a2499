-- What a job accepts: how it can go on, and how it can end.
use Rattle.std.proofs.Common.{◌≡◌, refl, ℕ, ◌+◌, ◌^◌, ◌<◌, ◌≤◌, true, false, arith}
use Rattle.std.proofs.lemmas.Bool.{le-leb}
use Rattle.ftp_transfer.specs.declared.job.Job.{Job}
use Rattle.ftp_transfer.specs.declared.job.Outcome.{Outcome}
use Rattle.ftp_transfer.specs.Transfer.{is_listing, suits}
use Rattle.ftp_events.specs.EndRows.{can_end, can_move}

-- it ends with a result that suits its command, where the bytes of earlier pieces are counted
pub end-fits : (job : Job) (outcome : Outcome) → suits outcome.result job.command ≡ true → job.done ≤ outcome.bytes → can_end job outcome ≡ true
end-fits job outcome fits counted = rw (fits, le-leb job.done outcome.bytes counted) refl

-- a file goes on with a piece that is neither empty nor too long, and does not pass the end of the count
pub piece-fits :
    (job : Job) (bytes : ℕ) →
    is_listing job.command ≡ false → 0 < bytes → bytes ≤ 8192 → job.done + bytes < 2 ^ 64 →
    can_move job bytes ≡ true
piece-fits job bytes file some short in_range =
    let least : 1 ≤ bytes = omega arith in
    let countable : job.done + bytes ≤ 18446744073709551615 = omega arith in
    rw (file, le-leb 1 bytes least, le-leb bytes 8192 short, le-leb (job.done + bytes) 18446744073709551615 countable) refl
