use borrow.Rule.Slice.PartMut.{put_mid}
use Rattle.std.proofs.Common.{◌≡◌, ℕ, ◌+◌, ◌-◌, None, sym, subst, ◌∙◌, arith}
use Rattle.std.proofs.lemmas.Result.{err_from_is_err_and}
use Rattle.ftp_proxy.specs.Reading.{refusal_at}
use Rattle.ftp_proxy.proofs.ReadLemmas.{ReadsWell-more, IsRefused-more, IsRefused-well}
use Rattle.ftp_proxy.proofs.OutcomeLemmas.{begun_more, begun_refused, begun_error, refused_answer}
use Rattle.ftp_proxy.proofs.v2_reader.read_head.Goals as goal

pub returns-in_err-fill-clause-head : goal.returns-in_err-fill-clause-head
returns-in_err-fill-clause-head g c = λ all b.
    let p = err_from_is_err_and c.from_residual.result c.from_residual.ensures.1 in
    rw (p.1, p.2)
    (begun_error all c.loop-i.head c.fill.new.out c.loop-i.i _ _ c.in_err-fill.field-0.0 (omega arith) (omega (arith, c.fill.auto.out)) (c.loop-i.invariant.head all b) c.in_err-fill.ensures.filled)

pub returns-in_err-fill-clause-went : goal.returns-in_err-fill-clause-went
returns-in_err-fill-clause-went g c =
    let p = err_from_is_err_and c.from_residual.result c.from_residual.ensures.1 in
    rw (p.1, p.2) (IsRefused-more g.S.Source.is_link c.fill.new.source c.in_err-fill.field-0.0 c.loop-i.invariant.went c.in_err-fill.ensures.went)

pub returns-in-Some-clause-head : goal.returns-in-Some-clause-head
returns-in-Some-clause-head g c = λ all b.
    let r = begun_refused all c.loop-i.head c.fill.new.out c.loop-i.i _ _ _ c.in-Some.e (omega arith) (omega (arith, c.fill.auto.out)) (omega arith) (c.loop-i.invariant.head all b) c.in_ok-fill.ensures.filled (sym c.refusal_at.ensures.refusal ∙ c.in-Some.is) in
    refused_answer all c.in-Some.e _ r.0 r.1

pub returns-in-Some-clause-went : goal.returns-in-Some-clause-went
returns-in-Some-clause-went g c =
    IsRefused-well g.S.Source.is_link c.in-Some.e c.in-Some.ensures.no_fault (ReadsWell-more c.loop-i.invariant.went c.in_ok-fill.ensures.went)

pub loop-i-preserved : goal.loop-i-preserved
loop-i-preserved g c = record {
  head = λ all b.
      begun_more all c.loop-i.head c.fill.new.out c.loop-i.i _ _ _ (omega arith) (omega (arith, c.fill.auto.out)) (omega arith) (c.loop-i.invariant.head all b) c.in_ok-fill.ensures.filled (sym c.refusal_at.ensures.refusal ∙ c.in_default.is);
  last = λ above.
      let is : c.loop-i.i ≡ 15 = omega arith in
      subst (λ (k : ℕ). refusal_at (put_mid c.loop-i.i (c.loop-i.i + 1 - c.loop-i.i) c.loop-i.head c.fill.new.out) k ≡ None) is (sym c.refusal_at.ensures.refusal ∙ c.in_default.is);
  went = ReadsWell-more c.loop-i.invariant.went c.in_ok-fill.ensures.went;
}
