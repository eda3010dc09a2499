-- Paths and names as they are sent in replies.
use Rattle.std.specs.Prelude.{ℕ, ◌==◌, List, [], ◌∷◌, ◌++◌, codes, if◌then◌else◌}
use Rattle.std.specs.List.{flat_map}
use Rattle.ftp_base.specs.Storage.{or_root}
use Rattle.ftp_places.specs.Names.{names_of}
use Rattle.ftp_places.specs.Place.{trail_of}

-- the path that a path leads to from the root, without `.` and `..`
abbrev pub resolved : List ℕ → List ℕ
resolved path = or_root (trail_of (names_of path))

-- a byte as it is sent: a carriage return as CR NUL, and a line feed, which would end the line, as NUL
abbrev pub sent_byte : ℕ → List ℕ
sent_byte b = if b == 13 then 13 ∷ 0 ∷ [] else (if b == 10 then 0 ∷ [] else b ∷ [])

-- a path or a name as it is sent
abbrev pub sent_text : List ℕ → List ℕ
sent_text text = flat_map sent_byte text

-- a byte as it is sent in quotes: a quote is doubled
abbrev pub quoted_byte : ℕ → List ℕ
quoted_byte b = if b == 34 then 34 ∷ 34 ∷ [] else sent_byte b

-- a path in quotes (RFC 959, Appendix II)
abbrev pub quoted : List ℕ → List ℕ
quoted path = codes "\"" ++ flat_map quoted_byte path ++ codes "\""
