use Rattle.std.proofs.Common.{ℕ, length, ◌-◌, ◌≡◌, ◌≤◌, take}
use Rattle.ftp_base.specs.declared.fault.LinkFault.{LinkFault}
use Rattle.ftp_base.specs.Calls.{AllWell}
use Rattle.ftp_base.specs.Kept.{OnlySends}
use Rattle.ftp_base.specs.Outside.{Writes}
use Rattle.ftp_transfer.proofs.send.send.Given as goal

-- what went so far is the front of the bytes
abbrev pub invariant-loop-sent : goal.invariant-loop-sent
invariant-loop-sent g l = record {
  within : l.sent ≤ length l.bytes;
  wrote : Writes (g.L.Source.sending l.fn.link).sent (g.L.Source.sending l.link).sent (take l.sent l.bytes);
  only_sends : OnlySends g.L.Source.left g.L.Source.sending g.L.Source.faults g.L.Source.fault_limit l.fn.link l.link;
  last_fault : (g.L.Source.sending l.link).last_fault ≡ (g.L.Source.sending l.fn.link).last_fault;
  link_well : AllWell (λ (call : ℕ × LinkFault). call.0) (g.L.Source.calls l.fn.link) (g.L.Source.calls l.link);
}

abbrev pub decreases-loop-sent : goal.decreases-loop-sent
decreases-loop-sent g l = length l.bytes - l.sent
