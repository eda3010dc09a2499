-- What a client sends and is sent.
use Rattle.std.specs.Prelude.{ℕ, ◌+◌, ◌-◌, ◌^◌, ◌==◌, Bool, List, ◌++◌, min, count_by, None}
use Rattle.std.specs.List.{repeat}
use Rattle.ftp_base.specs.Outside.{Sending}

-- what is left of the packet, the packet, how often it comes again, how many lines the client was sent, and whether the
-- connection is closed
pub record ClientState : Type 0 where
  pub left : List ℕ
  pub packet : List ℕ
  pub rounds : ℕ
  pub lines : ℕ
  pub closed : Bool

-- all that is left to be read
abbrev pub input : ClientState → List ℕ
input c = c.left ++ repeat c.rounds c.packet

-- what was sent is not told, and no call fails
abbrev pub sending : ClientState → Sending
sending c = record { sent = None; closed = c.closed; last_fault = None }

-- a count of lines after these bytes, which stands still at its last value
abbrev pub after : ℕ → List ℕ → ℕ
after lines bytes = min (lines + count_by (λ b. b == 10) bytes) (2 ^ 64 - 1)
