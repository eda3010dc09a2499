-- What is said to the client of a session.
use Rattle.std.specs.Prelude.{◌≡◌, ℕ, ◌+◌, ◌-◌, ◌^◌, ◌<◌, ◌≤◌, List, ◌++◌, codes, Option, unwrap_or}
use Rattle.ftp_base.specs.Edge.{EdgeView, Takes}
use Rattle.ftp_base.specs.Outside.{HasRisen}

-- nothing was read of a connection, and its count of faults rose where a call failed
pub record OnlyWrites (fails : Type 0) (unread unread_now : Option (List ℕ)) (count_before count_now : ℕ) : Type 0 where
  pub left : unread_now ≡ unread
  pub fault_rose : fails → HasRisen count_before count_now
  pub count : count_before ≤ count_now

-- nothing was read of a connection, its count of faults rose where a call failed, and the edge was paused alone
pub record OnlySays (fails : Type 0) (unread unread_now : Option (List ℕ)) (count_before count_now : ℕ) (before now : EdgeView) : Type 0 where
  pub left : unread_now ≡ unread
  pub fault_rose : fails → HasRisen count_before count_now
  pub count : count_before ≤ count_now
  pub edge : Takes (λ f. f) before now

-- the line of the greeting
abbrev pub greeting_line : Option (List ℕ) → List ℕ
greeting_line text = codes "220 " ++ unwrap_or text (codes "Welcome to the libunftp FTP server") ++ codes "\r\n"

-- so many milliseconds were paused; a count that stands at its last value sets no bound
abbrev pub IsPaused : ℕ → ℕ → ℕ → Type 0
IsPaused n old new = new < 2 ^ 64 - 1 → new ≡ old + n
