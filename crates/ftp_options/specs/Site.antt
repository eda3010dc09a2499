-- SITE commands by name.
use Rattle.std.specs.Prelude.{◌≡◌, ℕ, ◌==◌, ◌&&◌, ◌||◌, not, Bool, List, [], length, map, codes, is_some, Option, Some, None, if◌then◌else◌}
use Rattle.std.specs.List.{list_all}
use Rattle.std.specs.Char.{is_ascii_alphanumeric, to_ascii_uppercase}
use Rattle.std.specs.Map.{lookup}
use Rattle.std.specs.Str.{bytes_eq}
use Rattle.std.specs.Option.{option_or}
use Rattle.std.specs.Ordering.{nat_cmp}
use Rattle.std.specs.Cmp.Lexicographic.{slice_cmp}
use Rattle.std.specs.BTreeMap.{insert_entry}
use Rattle.ftp_options.specs.declared.error.ConfigFault.{ConfigFault}
use Rattle.ftp_options.specs.declared.error.ConfigFault.TheVariants.{InvalidName, Md5, Duplicate, ProviderAfterSite}
use Rattle.ftp_options.specs.Settings.{Draft}

-- a name in upper case
abbrev pub upper : List ℕ → List ℕ
upper name = map to_ascii_uppercase name

-- a letter, a digit, a hyphen or an underscore
abbrev pub is_name_byte : ℕ → Bool
is_name_byte b = is_ascii_alphanumeric b || (b == 45 || b == 95)

-- what a command can be named
abbrev pub is_name : List ℕ → Bool
is_name name = not (length name == 0) && list_all is_name_byte name

-- the handler that is registered under a name, whatever its case
abbrev pub handler_of : {Handler : Type 0} → List (List ℕ × Handler) → List ℕ → Option Handler
handler_of sites name = lookup (bytes_eq (upper name)) sites

-- the handlers with one more, in order of names
abbrev pub with_handler : {Handler : Type 0} → List (List ℕ × Handler) → List ℕ → Handler → List (List ℕ × Handler)
with_handler sites name handler = insert_entry (slice_cmp nat_cmp) sites (upper name) handler

-- the handlers under every name, where one more was registered
abbrev pub FindsOneMore : {Handler : Type 0} → List ℕ → Handler → (old new : List (List ℕ × Handler)) → Type 0
FindsOneMore name handler old new =
    (other : List ℕ) → handler_of new other ≡ (if bytes_eq (upper other) (upper name) then Some handler else handler_of old other)

-- the fault of a registration: a name that is none, then the built-in one, then one that is there
abbrev pub fault_of : {Handler : Type 0} → List (List ℕ × Handler) → List ℕ → Option ConfigFault
fault_of sites name =
    if not (is_name name) then Some (InvalidName name)
    else if bytes_eq (upper name) (codes "MD5") then Some Md5
    else if is_some (handler_of sites name) then Some (Duplicate (upper name))
    else None

-- what a registration makes of a draft: the first fault is kept, and after it nothing is registered
abbrev pub registered : {Handler : Type 0} → List ℕ → Handler → Draft Handler → Draft Handler
registered name handler d =
    let fault = option_or d.fault (fault_of d.handlers name) in
    record d { fault = fault; handlers = if is_some fault then d.handlers else with_handler d.handlers name handler }

-- what a provider of user details makes of a draft: names that are registered are a fault, and forgotten
abbrev pub provided : {Handler : Type 0} → Draft Handler → Draft Handler
provided d =
    if length d.handlers == 0 then d
    else record d { fault = option_or d.fault (Some ProviderAfterSite); handlers = [] }
