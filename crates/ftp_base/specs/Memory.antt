-- What callers see of the objects in memory: sources, sinks and links.
use Rattle.std.specs.Prelude.{ℕ, Bool, List, Contains, Option, Some, IfSome, IsSomeAnd}
use Rattle.ftp_base.specs.declared.fault.LinkFault.{LinkFault}
use Rattle.ftp_base.specs.Outside.{Sending}
use Rattle.ftp_base.specs.Calls.{Calls, one_more, fails_next_by, fault_limit_by, LastFailed}

-- what a source has left, how much a call reads at most, and its calls
pub record SourceState : Type 0 where
  pub left : List ℕ
  pub chunk : ℕ
  pub calls : Calls ℕ

-- what a sink took, how much a call writes at most, and its calls
pub record SinkState : Type 0 where
  pub written : List ℕ
  pub chunk : ℕ
  pub calls : Calls ℕ

-- a connection: what is left to be read and what was sent, whether it is closed, what the last failed read or write
-- met, how much a call moves at most, and its calls
pub record LinkState : Type 0 where
  pub left : List ℕ
  pub sent : List ℕ
  pub closed : Bool
  pub last_fault : Option LinkFault
  pub chunk : ℕ
  pub calls : Calls (ℕ × LinkFault)

-- how many faults were counted
abbrev pub faults_of : {T : Type 0} → Calls T → ℕ
faults_of calls = calls.faults

-- whether the call that comes next fails
abbrev pub fails_next : Calls ℕ → Bool
fails_next calls = fails_next_by (λ call. call) calls

-- whether the call that comes next fails, where each comes with its fault
abbrev pub link_fails_next : Calls (ℕ × LinkFault) → Bool
link_fails_next calls = fails_next_by (λ call. call.0) calls

-- how many faults there can be in all
abbrev pub fault_limit : Calls ℕ → ℕ
fault_limit calls = fault_limit_by (λ call. call) calls

-- how many faults there can be in all, where each call comes with its fault
abbrev pub link_fault_limit : Calls (ℕ × LinkFault) → ℕ
link_fault_limit calls = fault_limit_by (λ call. call.0) calls

-- what is left to be read of a link in memory, which tells it
abbrev pub link_left : LinkState → Option (List ℕ)
link_left link = Some link.left

-- the other direction of a link in memory, which tells what was sent
abbrev pub link_sending : LinkState → Sending
link_sending link = record { sent = Some link.sent; closed = link.closed; last_fault = link.last_fault }

-- how many faults a link in memory counted
abbrev pub link_faults : LinkState → ℕ
link_faults link = faults_of link.calls

-- how many faults a link in memory can count in all
abbrev pub link_limit : LinkState → ℕ
link_limit link = link_fault_limit link.calls

-- the fault is one that the list names for the call that comes next
abbrev pub IsNextFault : Calls (ℕ × LinkFault) → Option LinkFault → Type 0
IsNextFault calls fault = IsSomeAnd fault (λ f. Contains calls.failing (one_more calls.made, f))

-- the last call of a link failed, where its calls are told, and the fault is one that the list names for it
abbrev pub LinkMet : Option (Calls (ℕ × LinkFault)) → Option (Calls (ℕ × LinkFault)) → Option LinkFault → Type 0
LinkMet old new fault =
    IfSome old (λ c. IsSomeAnd new (λ d. IsSomeAnd fault (λ f. LastFailed (λ call. call.0) c d (d.made, f))))

-- the last call of a link failed, where its calls are told
abbrev pub LinkFailed : Option (Calls (ℕ × LinkFault)) → Option (Calls (ℕ × LinkFault)) → Type 0
LinkFailed old new =
    IfSome old (λ c. IsSomeAnd new (λ d. (f : LinkFault) × LastFailed (λ call. call.0) c d (d.made, f)))

-- the last call of a storage or a sink failed, where its calls are told, and it is one of those that fail
abbrev pub StorageMet : Option (Calls ℕ) → Option (Calls ℕ) → Type 0
StorageMet old new = IfSome old (λ c. IsSomeAnd new (λ d. LastFailed (λ call. call) c d d.made))
