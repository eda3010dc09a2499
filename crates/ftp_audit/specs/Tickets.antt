-- A table by tickets.
use Rattle.std.specs.Prelude.{ℕ, ◌==◌, ◌&&◌, Bool, Option}
use Rattle.std.specs.declared.hash.FoldHasher.{FoldHasher}
use Rattle.std.specs.declared.hash.BuildHasherDefault.{BuildHasherDefault}
use Rattle.std.specs.HashMap as map
use Rattle.ftp_transfer.specs.declared.job.Ticket.{Ticket}
use Rattle.ftp_audit.specs.declared.request.Request.{Request}

-- transfers by session and number
abbrev pub Requests : Type 0
Requests = map.HashMap (ℕ × ℕ) Request (BuildHasherDefault FoldHasher)

-- the keys are equal
abbrev pub same_pair : ℕ × ℕ → ℕ × ℕ → Bool
same_pair a b = (a.0 == b.0) && (a.1 == b.1)

-- what the table has for a ticket
abbrev pub request_at : Requests → Ticket → Option Request
request_at table t = map.get same_pair table (t.session, t.nr)
