use Rattle.std.proofs.Common.{◌∷◌, get_or, arith}
use Rattle.std.proofs.lemmas.Option.{IfSome_then}
use Rattle.std.proofs.lemmas.Result.{err_from_is_err_and}
use Rattle.ftp_proxy.proofs.ReadLemmas.{ReadsWell-more}
use Rattle.ftp_proxy.proofs.LineLemmas.{read_to_feed, read_to_end, read_to_fault, read_to_full, read_to_more}
use Rattle.ftp_proxy.proofs.AnyLemmas.{line_more}
use Rattle.ftp_proxy.proofs.version1.read_line.Goals as goal

pub returns-then-bytes-i-eq10-clause-line : goal.returns-then-bytes-i-eq10-clause-line
returns-then-bytes-i-eq10-clause-line g c =
    IfSome_then (g.S.Source.left c.args.source.now) c.loop-i.invariant.line (λ left r.
    let f = read_to_feed (get_or c.args.bytes.now 0 0 ∷ left) c.loop-i.bytes c.loop-i.i _ (omega arith) (omega arith) r c.if-bytes-i-eq10.true in (f.1, f.2))

pub returns-in_err-byte-clause-line : goal.returns-in_err-byte-clause-line
returns-in_err-byte-clause-line g c =
    let p = err_from_is_err_and c.from_residual.result c.from_residual.ensures.1 in
    rw (p.1, p.2)
    (IfSome_then (g.S.Source.left c.args.source.now) c.loop-i.invariant.line (λ left r.
    (c.in_err-byte.ensures.only_fault, read_to_fault (get_or c.args.bytes.now 0 0 ∷ left) c.loop-i.bytes c.loop-i.i _ _ (omega arith) (omega arith) r c.if-bytes-i-eq10.false c.in_err-byte.ensures.unchanged)))

pub returns-in_err-byte-clause-went : goal.returns-in_err-byte-clause-went
returns-in_err-byte-clause-went g c =
    let p = err_from_is_err_and c.from_residual.result c.from_residual.ensures.1 in
    rw (p.1, p.2) (line_more g.S.Source.is_link c.in_err-byte.field-0.0 c.loop-i.invariant.went c.in_err-byte.ensures.fault c.in_err-byte.ensures.only_fault)

pub returns-in_default-clause-line : goal.returns-in_default-clause-line
returns-in_default-clause-line g c =
    IfSome_then (g.S.Source.left c.args.source.now) c.loop-i.invariant.line (λ left r.
    read_to_end (get_or c.args.bytes.now 0 0 ∷ left) c.loop-i.bytes c.loop-i.i _ _ _ (omega arith) (omega arith) r c.if-bytes-i-eq10.false c.in_ok-byte.ensures.next c.in_default.is)

pub returns-in_default-clause-went : goal.returns-in_default-clause-went
returns-in_default-clause-went g c = ReadsWell-more c.loop-i.invariant.went c.in_ok-byte.ensures.well

pub loop-i-preserved : goal.loop-i-preserved
loop-i-preserved g c = record {
  line =
      IfSome_then (g.S.Source.left c.args.source.now) c.loop-i.invariant.line (λ left r.
      read_to_more (get_or c.args.bytes.now 0 0 ∷ left) c.loop-i.bytes c.loop-i.i c.in-Some.byte _ _ _ (omega arith) (omega arith) r c.if-bytes-i-eq10.false c.in_ok-byte.ensures.next c.in-Some.is);
  went = ReadsWell-more c.loop-i.invariant.went c.in_ok-byte.ensures.well;
}

pub returns-clause-line : goal.returns-clause-line
returns-clause-line g c =
    IfSome_then (g.S.Source.left c.args.source.now) c.loop-i.invariant.line (λ left r.
    read_to_full (get_or c.args.bytes.now 0 0 ∷ left) c.loop-i.bytes c.loop-i.i _ (omega arith) r)
