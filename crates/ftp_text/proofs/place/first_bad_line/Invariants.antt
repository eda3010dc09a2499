use Rattle.std.proofs.Common.{ℕ, List, length}
use Rattle.ftp_text.specs.declared.line.LogLine.{LogLine}
use Rattle.ftp_text.specs.Place.{HasRead, IsLawful}
use Rattle.ftp_text.proofs.place.first_bad_line.Given as goal

abbrev pub invariant-loop-rest : goal.invariant-loop-rest
invariant-loop-rest l = record { lawful : IsLawful l.place; read : (before : List LogLine) × HasRead before l.text l.rest l.place }

abbrev pub decreases-loop-rest : goal.decreases-loop-rest
decreases-loop-rest l = length l.rest
