-- Which numbers were opened as sessions.
use Rattle.std.specs.Prelude.{ℕ, Bool, List}
use Rattle.std.specs.List.{list_any}
use Rattle.ftp_events.specs.declared.entry.Entry.{Entry}
use Rattle.ftp_events.specs.History.{opens}

-- some entry opened session s
abbrev pub was_opened : ℕ → List Entry → Bool
was_opened s log = list_any (λ e. opens e s) log
