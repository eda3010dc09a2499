-- What sources give, what sinks and links take, and how faults are counted.
use Rattle.std.specs.Prelude.{◌≡◌, ℕ, ◌-◌, ◌^◌, ◌<◌, ◌≤◌, Bool, false, List, [], ◌++◌, length, take, drop, Option, Some, None, IfSome}
use Rattle.ftp_base.specs.declared.fault.LinkFault.{LinkFault}

-- a count of faults rose; at its last value a count stands still
abbrev pub HasRisen : ℕ → ℕ → Type 0
HasRisen old new = old < 2 ^ 64 - 1 → old < new

-- n bytes were read to the front of out: the first that were left, and none exactly where none was left
pub record ReadsFront (left : List ℕ) (later : Option (List ℕ)) (n : ℕ) (out : List ℕ) : Type 0 where
  pub within : n ≤ length left
  pub front : take n out ≡ take n left
  pub rest : later ≡ Some (drop n left)
  pub end : 0 < length out → n ≡ 0 → left ≡ []

-- the bytes were written behind what was there, where that is told
abbrev pub Writes : Option (List ℕ) → Option (List ℕ) → List ℕ → Type 0
Writes old new bytes = IfSome old (λ written. new ≡ Some (written ++ bytes))

-- what was sent on a connection, whether it is closed, and what its last failed read or write met
pub record Sending : Type 0 where
  pub sent : Option (List ℕ)
  pub closed : Bool
  pub last_fault : Option LinkFault

-- no other direction
abbrev pub nothing_sent : Sending
nothing_sent = record { sent = None; closed = false; last_fault = None }
