use Rattle.std.proofs.Common.{◌∙◌, sym}
use Rattle.ftp_disk.proofs.DiskLemmas.{WasFound-same}
use Rattle.ftp_disk.proofs.disk.DiskStorage.look.Goals as goal

pub returns-in-Some-clause-found : goal.returns-in-Some-clause-found
returns-in-Some-clause-found g c =
    WasFound-same g.S.FileSystem.told _ _ _ _ c.in_ok-place.place c.in_ok-resolve.field-0 c.in-Some.meta c.self.view_is
    c.in_ok-place.ensures.place c.in_ok-resolve.ensures.unlinked c.in_ok-resolve.ensures.found (sym c.meta_of.ensures ∙ c.in-Some.is)
