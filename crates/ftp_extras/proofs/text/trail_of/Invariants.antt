use Rattle.std.proofs.Common.{◌≡◌, map, take}
use Rattle.std.specs.List.{flat_map}
use Rattle.ftp_places.specs.Place.{slashed}
use Rattle.ftp_extras.proofs.text.trail_of.Given as goal

-- the names so far
abbrev pub invariant-loop-name : goal.invariant-loop-name
invariant-loop-name l = l.text.items ≡ flat_map slashed (take l.name-index (map (λ n. n.now) l.name-items))
