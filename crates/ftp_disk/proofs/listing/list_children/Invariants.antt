use Rattle.std.proofs.Common.{All}
use Rattle.ftp_disk.specs.Listing.{IsShownOf}
use Rattle.ftp_disk.proofs.listing.list_children.Given as goal

abbrev pub invariant-loop-name : goal.invariant-loop-name
invariant-loop-name g l = All (IsShownOf (g.S.FileSystem.told l.system) l.place l.pattern) l.infos.items
