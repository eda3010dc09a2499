use Rattle.std.proofs.Common.{◌≡◌, Some, rules}
use Rattle.std.specs.Arc.{arc_value}
use Rattle.ftp_disk.specs.Disk.{place_in_home}
use Rattle.ftp_disk.proofs.DiskLemmas.{IsReached-same}
use Rattle.ftp_disk.proofs.disk.DiskStorage.open_at.Goals as goal

pub returns-clause-reached : goal.returns-clause-reached
returns-clause-reached g c =
    let leads : place_in_home (arc_value c.self.inside.homes) c.args.user.now c.args.path.now ≡ Some c.in_ok-place.place = search rules in
    IsReached-same g.S.FileSystem.told _ _ _ _ c.in_ok-place.place c.self.view_is leads c.in_ok-file.ensures.unlinked
