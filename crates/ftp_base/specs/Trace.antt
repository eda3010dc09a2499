-- Trace ids as text.
use Rattle.std.specs.Prelude.{ℕ, false, List, ◌++◌, codes}
use Rattle.std.specs.Fmt.{digits}

-- `0x` and the hexadecimal digits without leading zeros
abbrev pub trace_text : ℕ → List ℕ
trace_text n = codes "0x" ++ digits 16 false n
