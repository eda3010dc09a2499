use Rattle.std.proofs.Common.{◌∙◌, arith, eq-eqb}
use Rattle.std.specs.Prelude.{ℕ}
use Rattle.std.proofs.lemmas.Bool.Decides.{nat_tests}
use Rattle.std.proofs.lemmas.Option.{IfSome_then}
use Rattle.ftp_base.specs.declared.fault.LinkFault.{LinkFault}
use Rattle.ftp_base.proofs.CallsMade.{AllWell-more, LinkMet-more}
use Rattle.ftp_base.proofs.KeptLemmas.{OnlyReads-more}
use Rattle.ftp_proxy.proofs.Scan.{scan_more, scan_found, scan_ended, scan_full, scan_failed}
use Rattle.ftp_proxy.proofs.reader.read_line.Goals as goal

pub returns-in_err-byte-clause-front : goal.returns-in_err-byte-clause-front
returns-in_err-byte-clause-front g c = λ _.
    IfSome_then _ c.loop-i.invariant.scanned
    (λ all s. scan_failed all c.loop-i.bytes c.loop-i.i _ _ s (omega arith) c.in_err-byte.ensures.unchanged)

pub returns-in_err-byte-clause-as_listed : goal.returns-in_err-byte-clause-as_listed
returns-in_err-byte-clause-as_listed g c = λ _.
    LinkMet-more _ _ _ _ c.loop-i.invariant.unlisted c.in_err-byte.ensures.as_listed

pub returns-in_default-clause-unlisted : goal.returns-in_default-clause-unlisted
returns-in_default-clause-unlisted g c = λ _.
    AllWell-more (λ (call : ℕ × LinkFault). call.0) _ _ _ c.loop-i.invariant.unlisted c.in_ok-byte.ensures.unlisted

pub returns-then-byte-eq10-clause-unlisted : goal.returns-then-byte-eq10-clause-unlisted
returns-then-byte-eq10-clause-unlisted g c = λ _.
    AllWell-more (λ (call : ℕ × LinkFault). call.0) _ _ _ c.loop-i.invariant.unlisted c.in_ok-byte.ensures.unlisted

pub returns-in_default-clause-end : goal.returns-in_default-clause-end
returns-in_default-clause-end g c = λ _.
    IfSome_then _ c.loop-i.invariant.scanned
    (λ all s. (scan_ended all c.loop-i.bytes c.loop-i.i _ _ _ s (omega arith) c.in_ok-byte.ensures.next c.in_default.is).0)

pub returns-in_default-clause-all : goal.returns-in_default-clause-all
returns-in_default-clause-all g c = λ _.
    IfSome_then _ c.loop-i.invariant.scanned
    (λ all s. (scan_ended all c.loop-i.bytes c.loop-i.i _ _ _ s (omega arith) c.in_ok-byte.ensures.next c.in_default.is).1)

pub returns-then-byte-eq10-clause-found : goal.returns-then-byte-eq10-clause-found
returns-then-byte-eq10-clause-found g c =
    IfSome_then _ c.loop-i.invariant.scanned
    (λ all s. (scan_found all c.loop-i.bytes c.loop-i.i c.in-Some.byte _ _ _ s (omega arith) c.in_ok-byte.ensures.next c.in-Some.is (eq-eqb _ _ c.if-byte-eq10.true)).0)

pub returns-then-byte-eq10-clause-taken : goal.returns-then-byte-eq10-clause-taken
returns-then-byte-eq10-clause-taken g c =
    IfSome_then _ c.loop-i.invariant.scanned
    (λ all s. (scan_found all c.loop-i.bytes c.loop-i.i c.in-Some.byte _ _ _ s (omega arith) c.in_ok-byte.ensures.next c.in-Some.is (eq-eqb _ _ c.if-byte-eq10.true)).1)

pub loop-i-preserved : goal.loop-i-preserved
loop-i-preserved g c = record {
  scanned =
      IfSome_then _ c.loop-i.invariant.scanned
      (λ all s. scan_more all c.loop-i.bytes c.loop-i.i c.in-Some.byte _ _ _ s (grind arith) c.in_ok-byte.ensures.next c.in-Some.is (grind (arith, nat_tests)));
  only_reads = OnlyReads-more c.loop-i.invariant.only_reads c.read_byte.ensures.only_reads;
  unlisted = AllWell-more (λ (call : ℕ × LinkFault). call.0) _ _ _ c.loop-i.invariant.unlisted c.in_ok-byte.ensures.unlisted;
  last_fault = c.in_ok-byte.ensures.last_fault ∙ c.loop-i.invariant.last_fault;
}

pub returns-clause-found : goal.returns-clause-found
returns-clause-found g c =
    IfSome_then _ c.loop-i.invariant.scanned (λ all s. (scan_full all c.loop-i.bytes c.loop-i.i _ s (omega arith)).0)

pub returns-clause-taken : goal.returns-clause-taken
returns-clause-taken g c =
    IfSome_then _ c.loop-i.invariant.scanned (λ all s. (scan_full all c.loop-i.bytes c.loop-i.i _ s (omega arith)).1)
