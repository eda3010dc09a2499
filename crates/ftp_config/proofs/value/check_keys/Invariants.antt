use Rattle.std.proofs.Common.{◌≡◌, ◌++◌, true, List, String, Global, map}
use Rattle.std.specs.List.{list_all}
use Rattle.ftp_config.proofs.NameLemmas.{is_known}
use Rattle.ftp_config.proofs.value.check_keys.Given as goal

-- the names so far are known, and the others are left
abbrev pub invariant-loop-name : goal.invariant-loop-name
invariant-loop-name l =
    (front : List (String Global)) × (front ++ l.name-iterator ≡ map (λ m. m.0) l.table.entries) × (list_all is_known front ≡ true)
