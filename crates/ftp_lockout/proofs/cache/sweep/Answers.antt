use Rattle.std.proofs.Common.{not, ap, sym, subst, ◌∙◌, arith}
use Rattle.ftp_lockout.specs.declared.cache.Failures.{Failures}
use Rattle.ftp_lockout.specs.declared.key.LoginKey.{LoginKey}
use Rattle.ftp_lockout.specs.Failures.{recorded, is_expired}
use Rattle.ftp_lockout.specs.Places.{AreInKeyOrder, records_in}
use Rattle.ftp_lockout.proofs.Records.{Records, recorded-filter, order-filter}
use Rattle.ftp_lockout.proofs.BlockLemmas.{got-read}
use Rattle.ftp_lockout.proofs.BlockEdits.{swept-more, swept-all}
use Rattle.ftp_lockout.proofs.cache.sweep.Goals as goal

pub loop-i-preserved : goal.loop-i-preserved
loop-i-preserved c =
    let bs = c.loop-i.blocks.items in
    let old = c.args.blocks.now.items in
    let v = c.index_mut.result.now in
    let got = got-read bs c.loop-i.i v (omega (arith, c.loop-i.blocks.ok.0)) c.index_mut.ensures.value in
    let more =
    swept-more bs old c.loop-i.i v c.sweep_block.new.block (λ (e : LoginKey × Failures). not (is_expired c.args.policy c.args.at e.1)) got
    c.sweep_block.ensures.items c.sweep_block.ensures.capacity c.loop-i.invariant.roomy c.loop-i.invariant.done c.loop-i.invariant.rest in
    record {
      len = c.loop-i.invariant.len;
      capacity = c.loop-i.invariant.capacity;
      roomy = more.0;
      done = more.1;
      rest = more.2;
    }

pub returns-clause-recorded : goal.returns-clause-recorded
returns-clause-recorded c = λ key.
    let bs = c.loop-i.blocks.items in
    let old = c.args.blocks.now.items in
    let swept = swept-all bs old c.loop-i.i (λ (e : LoginKey × Failures). not (is_expired c.args.policy c.args.at e.1)) (omega (arith, c.loop-i.blocks.ok.0)) (omega (arith, c.loop-i.blocks.ok.0, c.args.blocks.now.ok.0)) c.loop-i.invariant.done in
    ap (λ (x : Records). recorded x key) (c.drop_empty.ensures.records ∙ swept)
    ∙ recorded-filter c.args.policy c.args.at (records_in old) c.requires.order key

pub returns-clause-order : goal.returns-clause-order
returns-clause-order c =
    let bs = c.loop-i.blocks.items in
    let old = c.args.blocks.now.items in
    let p = λ (e : LoginKey × Failures). not (is_expired c.args.policy c.args.at e.1) in
    let swept = swept-all bs old c.loop-i.i p (omega (arith, c.loop-i.blocks.ok.0)) (omega (arith, c.loop-i.blocks.ok.0, c.args.blocks.now.ok.0)) c.loop-i.invariant.done in
    subst AreInKeyOrder (sym (c.drop_empty.ensures.records ∙ swept)) (order-filter p (records_in old) c.requires.order)
