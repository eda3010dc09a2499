use Rattle.std.proofs.Common.{◌≡◌}
use Rattle.std.specs.Prelude.{ℕ, IfSome}
use Rattle.ftp_base.specs.declared.fault.LinkFault.{LinkFault}
use Rattle.ftp_base.specs.Calls.{AllWell}
use Rattle.ftp_base.specs.Kept.{OnlyReads}
use Rattle.ftp_proxy.proofs.Scan.{Scanned}
use Rattle.ftp_proxy.proofs.reader.read_line.Given as goal

abbrev pub invariant-loop-i : goal.invariant-loop-i
invariant-loop-i g l = record {
  scanned : IfSome (g.S.Source.left l.initial.source) (λ all. Scanned all l.bytes l.i (g.S.Source.left l.source));
  only_reads : OnlyReads g.S.Source.sending g.S.Source.faults g.S.Source.fault_limit l.initial.source l.source;
  unlisted : AllWell (λ (call : ℕ × LinkFault). call.0) (g.S.Source.calls l.initial.source) (g.S.Source.calls l.source);
  last_fault : (g.S.Source.sending l.source).last_fault ≡ (g.S.Source.sending l.initial.source).last_fault;
}
