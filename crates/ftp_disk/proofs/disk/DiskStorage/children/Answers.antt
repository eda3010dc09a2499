use Rattle.ftp_disk.proofs.DiskLemmas.{WasListed-same}
use Rattle.ftp_disk.proofs.disk.DiskStorage.children.Goals as goal

pub returns-clause-listed : goal.returns-clause-listed
returns-clause-listed g c =
    WasListed-same (λ v. v.items) g.S.FileSystem.told _ _ _ _ c.in_ok-place.place c.list.result c.self.view_is
    c.in_ok-place.ensures.place c.list.ensures.listed
