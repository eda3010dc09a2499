-- The lines of a script: what is skipped, the set-up lines, and the events. And the lines behind the log.
use Rattle.std.specs.Prelude.{◌≡◌, ℕ, ◌^◌, ◌<◌, ◌≤◌, ◌==◌, Bool, true, List, [], ◌∷◌, ◌++◌, codes, decimal}
use Rattle.ftp_text.specs.declared.setup.Item.{Item}
use Rattle.ftp_text.specs.declared.setup.Item.TheVariants as item
use Rattle.ftp_text.specs.Fields.{field, number, hex_text, escape, listed, link_call_text, IsText, AreCalls}
use Rattle.ftp_text.specs.Reading.{begins}
use Rattle.ftp_text.specs.Events.{event_line, IsEvent}
use Rattle.ftp_text.specs.Options.{listening_fields, rule_fields, IsListening, AreRules}

-- a line that is skipped: it is empty or a comment
abbrev pub is_skipped : List ℕ → Bool
is_skipped [] = true
is_skipped (c ∷ line) = c == 35

-- the line of an item; of what is skipped, one of many
abbrev pub item_line : Item → List ℕ
item_line item.Skip = []
item_line (item.Options mode lo hi host active idle lockout restart) =
    codes "options" ++ (listening_fields mode lo hi ++ rule_fields host active idle lockout restart)
item_line (item.Storage max fails) = codes "storage" ++ (number max ++ field (listed decimal fails))
item_line (item.Dir path) = codes "dir" ++ field (escape path)
item_line (item.File bytes path) = codes "file" ++ (field (hex_text bytes) ++ field (escape path))
item_line (item.Quota default) = codes "quota" ++ number default
item_line (item.Budget bytes user) = codes "budget" ++ (number bytes ++ field (escape user))
item_line (item.Link n chunk fails bytes) =
    codes "link" ++ (((number n ++ number chunk) ++ field (listed link_call_text fails)) ++ field (hex_text bytes))
item_line (item.Event e) = event_line e

-- a path that begins at the root
abbrev pub is_absolute : List ℕ → Bool
is_absolute path = begins 47 path

-- the options build, a call moves 1 to 65,536 bytes, the calls that fail rise from 1 on,
-- paths are absolute, and all lies in the ranges of the types
abbrev pub IsItem : Item → Type 0
IsItem item.Skip = Unit {0}
IsItem (item.Options mode lo hi host active idle lockout restart) = IsListening mode lo hi × AreRules host idle lockout
IsItem (item.Storage max fails) = (max < 2 ^ 64) × AreCalls (λ call. call) fails
IsItem (item.Dir path) = IsText path × (is_absolute path ≡ true)
IsItem (item.File bytes path) = IsText bytes × IsText path × (is_absolute path ≡ true)
IsItem (item.Quota default) = default < 2 ^ 64
IsItem (item.Budget bytes user) = (bytes < 2 ^ 64) × IsText user
IsItem (item.Link n chunk fails bytes) = (n < 2 ^ 64) × (1 ≤ chunk) × (chunk ≤ 65536) × AreCalls (λ call. call.0) fails × IsText bytes
IsItem (item.Event e) = IsEvent e

-- the line is the item's
abbrev pub IsItemOf : List ℕ → Item → Type 0
IsItemOf line item.Skip = is_skipped line ≡ true
IsItemOf line i = (item_line i ≡ line) × IsItem i

-- what was sent on a link
abbrev pub sent_line : ℕ → List ℕ → List ℕ
sent_line n bytes = (codes "link" ++ number n ++ codes " sent" ++ field (hex_text bytes)) ++ 10 ∷ []

-- a file of the storage
abbrev pub file_line : List ℕ × List ℕ → List ℕ
file_line file = item_line (item.File file.1 file.0) ++ 10 ∷ []
