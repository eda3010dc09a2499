-- Reading a line of a script.
use Rattle.std.specs.Prelude.{ℕ, ◌==◌, nat_le, Bool, List, length, codes, Option, Some, None, if◌then◌else◌}
use Rattle.ftp_text.specs.declared.setup.Item.{Item}
use Rattle.ftp_text.specs.declared.setup.Item.TheVariants as item
use Rattle.ftp_base.specs.declared.fault.LinkFault.{LinkFault}
use Rattle.ftp_text.specs.Reading.{◌>>=◌, Reader, pair, made, tested, begins, behind_text, small_field, number_field, hex_field, text_field, calls_field, call_of, link_call_of}
use Rattle.ftp_text.specs.EventReading.{event_of}
use Rattle.ftp_text.specs.Setup.{is_skipped, is_absolute}
use Rattle.ftp_text.specs.OptionsReading.{listening_at, rules_at}

-- a call moves bytes
abbrev pub moves : ((ℕ × ℕ) × List (ℕ × LinkFault)) × List ℕ → Bool
moves x = nat_le 1 x.0.0.1

-- the line of the options
unfoldable pub options_at : Reader Item
options_at =
    made (λ x. item.Options x.0.0 x.0.1.0 x.0.1.1 x.1.0 x.1.1.0 x.1.1.1.0 x.1.1.1.1.0 x.1.1.1.1.1)
    (behind_text (codes "options") (pair listening_at rules_at))

-- the line of the storage
unfoldable pub storage_at : Reader Item
storage_at = made (λ x. item.Storage x.0 x.1) (behind_text (codes "storage") (pair number_field (calls_field call_of (λ call. call))))

-- the line of a directory
unfoldable pub dir_at : Reader Item
dir_at = made (λ path. item.Dir path) (tested is_absolute (behind_text (codes "dir") text_field))

-- the path of a file is absolute
abbrev pub is_placed : List ℕ × List ℕ → Bool
is_placed x = is_absolute x.1

-- the line of a file
unfoldable pub file_at : Reader Item
file_at = made (λ x. item.File x.0 x.1) (tested is_placed (behind_text (codes "file") (pair hex_field text_field)))

-- the line of budgets
unfoldable pub quota_at : Reader Item
quota_at = made (λ default. item.Quota default) (behind_text (codes "quota") number_field)

-- the line of a user's own budget
unfoldable pub budget_at : Reader Item
budget_at = made (λ x. item.Budget x.0 x.1) (behind_text (codes "budget") (pair number_field text_field))

-- the number, the chunk and the failing calls of a link
abbrev pub link_calls_at : Reader ((ℕ × ℕ) × List (ℕ × LinkFault))
link_calls_at bytes = pair (pair number_field (small_field 65537)) (calls_field link_call_of (λ call. call.0)) bytes

-- the line of a link
unfoldable pub link_at : Reader Item
link_at =
    made (λ x. item.Link x.0.0.0 x.0.0.1 x.0.1 x.1) (tested moves (behind_text (codes "link") (pair link_calls_at hex_field)))

-- all of the line
abbrev pub whole : Option (Item × List ℕ) → Option Item
whole read = read >>= λ x. if length x.1 == 0 then Some x.0 else None

-- the item of a whole line, by its first byte
unfoldable pub item_of : List ℕ → Option Item
item_of line =
    if is_skipped line then Some item.Skip
    else if begins 111 line then whole (options_at line)
    else if begins 115 line then whole (storage_at line)
    else if begins 100 line then whole (dir_at line)
    else if begins 102 line then whole (file_at line)
    else if begins 113 line then whole (quota_at line)
    else if begins 98 line then whole (budget_at line)
    else if begins 108 line then whole (link_at line)
    else (event_of line >>= λ e. Some (item.Event e))
