-- How often each decision came, in lines.
use Rattle.std.specs.Prelude.{◌≡◌, ℕ, ◌==◌, Bool, List, [], ◌∷◌, ◌++◌, map, flat_map, zip, drop, codes, decimal, count_by, if◌then◌else◌}
use Rattle.std.specs.List.{list_all}
use Rattle.std.specs.Str.{bytes_eq}
use Rattle.std.specs.Cmp.Lexicographic.{slice_cmp}
use Rattle.std.specs.Ordering.{is_lt, nat_cmp}
use Rattle.ftp_events.specs.declared.entry.Entry.{Entry}
use Rattle.ftp_text.specs.Printing.{decision_text}

-- the names of all decisions, in byte order
unfoldable pub names : List (List ℕ)
names =
    codes "aborted" ∷ codes "aborting" ∷ codes "attached" ∷ codes "badaddress" ∷ codes "badsequence" ∷ codes "closed"
    ∷ codes "cut" ∷ codes "cwdok" ∷ codes "cwdrefused" ∷ codes "early" ∷ codes "finished" ∷ codes "full"
    ∷ codes "granted" ∷ codes "headerfault" ∷ codes "loggedin" ∷ codes "loginfailed" ∷ codes "misplaced"
    ∷ codes "modeoff" ∷ codes "moved" ∷ codes "needpass" ∷ codes "noconnection" ∷ codes "nolookup" ∷ codes "norestart"
    ∷ codes "noslot" ∷ codes "nosocket" ∷ codes "notexpected" ∷ codes "nothingtoabort" ∷ codes "notloggedin"
    ∷ codes "opened" ∷ codes "otheraddress" ∷ codes "passout" ∷ codes "portok" ∷ codes "queued" ∷ codes "quit"
    ∷ codes "reauth" ∷ codes "restok" ∷ codes "scavenged" ∷ codes "slotdropped" ∷ codes "stopped" ∷ codes "swept"
    ∷ codes "timedout" ∷ codes "told" ∷ codes "turned" ∷ codes "unknown" ∷ codes "used" ∷ codes "waited" ∷ []

-- each text stands before the next one in byte order
abbrev pub are_ascending : List (List ℕ) → Bool
are_ascending texts = list_all (λ (pair : List ℕ × List ℕ). is_lt (slice_cmp nat_cmp pair.0 pair.1)) (zip texts (drop 1 texts))

-- how many entries have a decision of this name
abbrev pub named_count : List Entry → List ℕ → ℕ
named_count log name = count_by (λ (e : Entry). bytes_eq (decision_text e.decision) name) log

-- the line of a name that came: its count, a space and the name
abbrev pub count_line : List ℕ → ℕ → List ℕ
count_line name n = if n == 0 then [] else decimal n ++ 32 ∷ name ++ 10 ∷ []

-- a line for each decision that came, in byte order of their names
abbrev pub count_lines : List Entry → List ℕ
count_lines log = flat_map (λ name. count_line name (named_count log name)) names

-- these are the counts of all names, in their order
abbrev pub AreCounts : List ℕ → List Entry → Type 0
AreCounts numbers log = numbers ≡ map (named_count log) names
