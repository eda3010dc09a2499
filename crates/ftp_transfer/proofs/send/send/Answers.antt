use Rattle.std.proofs.Common.{ℕ, arith, length-drop, ◌∙◌, ◌≡◌, ap, Err}
use Rattle.ftp_base.specs.declared.fault.LinkFault.{LinkFault}
use Rattle.ftp_base.specs.declared.fault.Failed.TheVariants.{Fault}
use Rattle.ftp_base.proofs.CallsMade.{AllWell-more}
use Rattle.ftp_base.proofs.KeptLemmas.{OnlySends-more}
use Rattle.ftp_transfer.proofs.RunLemmas.{LinkRose_later}
use Rattle.ftp_transfer.proofs.Pieces.{Writes-more, take-drop_rest}
use Rattle.ftp_transfer.proofs.send.send.Goals as goal

pub loop-sent-preserved : goal.loop-sent-preserved
loop-sent-preserved g c =
    let kept = c.loop-sent.invariant in
    let rest = take-drop_rest c.loop-sent.sent c.args.bytes.now in
    let ok = rw rest at c.in-Ok.ensures in
    record {
      within = omega (arith, ok.within, length-drop c.loop-sent.sent c.args.bytes.now);
      wrote = Writes-more _ _ _ c.loop-sent.sent c.in-Ok.n c.args.bytes.now kept.wrote ok.wrote;
      only_sends = OnlySends-more kept.only_sends c.send_some.ensures.only_sends;
      last_fault = ok.last_fault ∙ kept.last_fault;
      link_well = AllWell-more (λ (call : ℕ × LinkFault). call.0) _ _ _ kept.link_well ok.unlisted;
    }

pub returns-in-Err-clause-fault_rose : goal.returns-in-Err-clause-fault_rose
returns-in-Err-clause-fault_rose g c stopped =
    let kept = c.loop-sent.invariant in
    let fault : c.in-Err.failed ≡ Fault = cc in
    LinkRose_later _ _ _ _ kept.only_sends.counts c.send_some.ensures.only_sends.counts kept.link_well (c.in-Err.ensures.fault_rose (ap Err fault), c.in-Err.ensures.as_listed (ap Err fault))
