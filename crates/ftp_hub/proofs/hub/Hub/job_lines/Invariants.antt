use Rattle.std.proofs.Common.{◌≡◌, take}
use Rattle.std.specs.Prelude.{flat_map, nat_eq}
use Rattle.std.specs.HashMap as table
use Rattle.ftp_hub.proofs.Told.{jobs_at}
use Rattle.ftp_hub.proofs.hub.Hub.job_lines.Given as goal

-- the lines of those so far
abbrev pub invariant-loop-number : goal.invariant-loop-number
invariant-loop-number l = l.lines.items ≡ flat_map (jobs_at (table.get nat_eq l.self.jobs)) (take l.number-index l.number-items)
