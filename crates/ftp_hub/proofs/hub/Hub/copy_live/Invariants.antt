use Rattle.std.proofs.Common.{◌≡◌, map, take}
use Rattle.std.specs.Prelude.{nat_eq}
use Rattle.std.specs.HashMap as table
use Rattle.ftp_hub.specs.Leavers.{leaver_of}
use Rattle.ftp_hub.proofs.hub.Hub.copy_live.Given as goal

-- those so far, each with its user
abbrev pub invariant-loop-number : goal.invariant-loop-number
invariant-loop-number l = record {
  items : l.leavers.items ≡ map (leaver_of (table.get nat_eq l.self.sessions)) (take l.number-index l.number-items);
  twice : l.leavers.twice ≡ l.fn.twice;
}
