use Rattle.std.proofs.Common.{◌≡◌, [], map, take}
use Rattle.std.specs.List.{fold}
use Rattle.ftp_places.specs.Names.{go}
use Rattle.ftp_places.proofs.names.names_of.Given as goal

abbrev pub invariant-loop-name : goal.invariant-loop-name
invariant-loop-name l = map (λ n. n.now) l.names.items ≡ fold go [] (take l.name-index (map (λ n. n.now) l.name-items))
