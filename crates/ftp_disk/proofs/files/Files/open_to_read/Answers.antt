use Rattle.ftp_disk.proofs.StandingLemmas.{WasFile-stood}
use Rattle.ftp_disk.proofs.files.Files.open_to_read.Goals as goal

pub open-requires-clause-file : goal.open-requires-clause-file
open-requires-clause-file g c =
    WasFile-stood (g.S.FileSystem.told c.args.self.now.system) c.args.place.now c.in-File.len (rw c.in-File.is at c.in_ok-found.ensures.found)
