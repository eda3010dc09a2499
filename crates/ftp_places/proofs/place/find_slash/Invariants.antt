use Rattle.std.proofs.Common.{◌≡◌, ◌++◌, take, drop}
use Rattle.ftp_places.specs.Place.{before_separator}
use Rattle.ftp_places.proofs.place.find_slash.Given as goal

abbrev pub invariant-loop-i : goal.invariant-loop-i
invariant-loop-i l = before_separator l.fn.before l.path ≡ take l.i l.path ++ before_separator l.before (drop l.i l.path)
