use Rattle.std.proofs.Common.{◌≡◌, Some, rules}
use Rattle.std.specs.Arc.{arc_value}
use Rattle.ftp_disk.specs.Disk.{place_in_home}
use Rattle.ftp_disk.proofs.DiskLemmas.{IsReached-ok}
use Rattle.ftp_disk.proofs.disk.DiskStorage.open_beside.Goals as goal

pub returns-clause-reached : goal.returns-clause-reached
returns-clause-reached g c =
    let leads : place_in_home (arc_value c.self.inside.homes) c.args.user.now c.args.path.now ≡ Some c.in_ok-onto.onto = search rules in
    IsReached-ok g.S.FileSystem.told _ _ _ _ c.in_ok-onto.onto c.begin_beside.result c.self.view_is leads c.begin_beside.ensures.unlinked
