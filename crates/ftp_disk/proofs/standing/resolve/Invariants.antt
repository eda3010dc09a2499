use Rattle.std.proofs.Common.{◌+◌, ◌<◌, ℕ}
use Rattle.ftp_disk.specs.FileSystem.{front_of, WasNoLink}
use Rattle.ftp_disk.specs.Standing.{Stood}
use Rattle.ftp_disk.proofs.standing.resolve.Given as goal

abbrev pub invariant-loop-n : goal.invariant-loop-n
invariant-loop-n g l =
    Stood (g.F.FileSystem.told l.system) (front_of l.place l.n) l.found
    × ((k : ℕ) → k < l.n → WasNoLink (g.F.FileSystem.told l.system) (front_of l.place (k + 1)))
