-- Moments along a log.
use Rattle.std.specs.Prelude.{ℕ, ◌≤◌, ⊤, List, [], ◌∷◌}
use Rattle.ftp_events.specs.declared.entry.Entry.{Entry}

-- the moment is not before that of the newest entry
abbrev pub IsLatest : ℕ → List Entry → Type 0
IsLatest at [] = ⊤
IsLatest at (e ∷ log) = e.event.at ≤ at

-- no moment is before that of the entry before
abbrev pub NeverFalls : List Entry → Type 0
NeverFalls [] = ⊤
NeverFalls (e ∷ log) = NeverFalls log × IsLatest e.event.at log
