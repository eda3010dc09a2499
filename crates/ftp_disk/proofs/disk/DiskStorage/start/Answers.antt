use Rattle.ftp_disk.proofs.DiskLemmas.{IsReached-closed}
use Rattle.ftp_disk.proofs.disk.DiskStorage.start.Goals as goal

pub returns-clause-reached : goal.returns-clause-reached
returns-clause-reached g c =
    IsReached-closed g.S.FileSystem.told c.close.new.self c.args.self.now c.args.user.now c.args.path.now c.close.ensures.closed c.in_ok-opened.ensures.reached
