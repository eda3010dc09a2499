use Rattle.ftp_disk.proofs.StandingLemmas.{WasFileOrNothing-file}
use Rattle.ftp_disk.proofs.opening.file_at.Goals as goal

pub returns-in-File-clause-found : goal.returns-in-File-clause-found
returns-in-File-clause-found g c = rw c.in-File.is at c.in_ok-found.ensures.found

pub returns-in-File-clause-may_create : goal.returns-in-File-clause-may_create
returns-in-File-clause-may_create g c =
    WasFileOrNothing-file (g.S.FileSystem.told c.args.system.now) c.args.place.now c.in-File.len (rw c.in-File.is at c.in_ok-found.ensures.found)
