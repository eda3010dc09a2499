use Rattle.std.proofs.Common.{OnOk, subst}
use Rattle.ftp_places.specs.Place.{Location}
use Rattle.ftp_disk.specs.FileSystem.{IsUnlinked}
use Rattle.ftp_disk.proofs.opening.resolve_writable.Goals as goal

pub returns-clause-unlinked : goal.returns-clause-unlinked
returns-clause-unlinked g c =
    subst (λ (p : Location). OnOk c.resolve.result (IsUnlinked (g.S.FileSystem.told c.args.system.now) p)) c.as_place.ensures c.resolve.ensures.unlinked
