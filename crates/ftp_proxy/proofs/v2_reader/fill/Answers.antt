use Rattle.std.proofs.Common.{arith}
use Rattle.std.proofs.lemmas.Option.{IfSome_then}
use Rattle.ftp_proxy.proofs.ReadLemmas.{ReadsWell-more, ReadsToFault-more, fill_more, fill_all}
use Rattle.ftp_proxy.proofs.v2_reader.fill.Goals as goal

pub returns-in-Ok-eq0-clause-went : goal.returns-in-Ok-eq0-clause-went
returns-in-Ok-eq0-clause-went g c =
    ReadsWell-more c.loop-filled.invariant.went (record { last_fault = c.in-Ok-eq0.ensures.last_fault; unlisted = c.in-Ok-eq0.ensures.unlisted; only_reads = c.read.ensures.only_reads })

pub returns-in-Err-clause-went : goal.returns-in-Err-clause-went
returns-in-Err-clause-went g c =
    ReadsToFault-more c.loop-filled.invariant.went
    (record { met = c.in-Err.ensures.met; as_listed = c.in-Err.ensures.as_listed; fault_rose = c.in-Err.ensures.fault_rose; only_reads = c.read.ensures.only_reads })

pub loop-filled-preserved : goal.loop-filled-preserved
loop-filled-preserved g c = record {
  small = λ i. omega (arith, c.type_inv.out i);
  within = omega (arith, c.in-Ok.ensures.within, c.read.auto.out);
  filling = IfSome_then _ c.loop-filled.invariant.filling (λ all f. fill_more all c.loop-filled.out c.read.new.out c.loop-filled.filled c.in-Ok.n _ _ _ f c.loop-filled.invariant.within c.in-Ok.ensures.within c.in-Ok.ensures.read);
  went = ReadsWell-more c.loop-filled.invariant.went (record { last_fault = c.in-Ok.ensures.last_fault; unlisted = c.in-Ok.ensures.unlisted; only_reads = c.read.ensures.only_reads });
}

pub returns-clause-filled : goal.returns-clause-filled
returns-clause-filled g c =
    IfSome_then _ c.loop-filled.invariant.filling (λ all f. fill_all all c.loop-filled.out c.loop-filled.filled _ f c.loop-filled.invariant.within c.loop-filled-test.false c.loop-filled.invariant.small)
