use Rattle.ftp_disk.proofs.StandingLemmas.{WasFileOrNothing-file}
use Rattle.ftp_disk.proofs.files.Files.open_to_begin.Goals as goal

pub create-requires-clause-file : goal.create-requires-clause-file
create-requires-clause-file g c =
    WasFileOrNothing-file (g.S.FileSystem.told c.args.self.now.system) c.args.place.now c.in-File.field-0 (rw c.in-File.is at c.in_ok-found.ensures.found)
