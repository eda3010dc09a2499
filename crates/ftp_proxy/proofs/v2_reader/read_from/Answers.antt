use Rattle.std.proofs.lemmas.Result.{err_from_is_err_and}
use Rattle.ftp_proxy.proofs.ReadLemmas.{ReadsWell-more, IsRefused-more}
use Rattle.ftp_proxy.proofs.OutcomeLemmas.{from_refused, from_read}
use Rattle.ftp_proxy.proofs.v2_reader.read_from.Goals as goal

pub returns-in_err-body-clause-read : goal.returns-in_err-body-clause-read
returns-in_err-body-clause-read g c = λ all b.
    let p = err_from_is_err_and c.from_residual-in_err-body.result c.from_residual-in_err-body.ensures.1 in
    rw (p.1, p.2) (from_refused all c.read_head.new.head _ _ c.in_err-body.field-0.0 (c.in_ok-read_head.ensures.head all b) c.in_err-body.ensures.block)

pub returns-in_err-body-clause-went : goal.returns-in_err-body-clause-went
returns-in_err-body-clause-went g c =
    let p = err_from_is_err_and c.from_residual-in_err-body.result c.from_residual-in_err-body.ensures.1 in
    rw (p.1, p.2) (IsRefused-more g.S.Source.is_link c.read_body.new.source c.in_err-body.field-0.0 c.in_ok-read_head.ensures.went c.in_err-body.ensures.went)

pub returns-clause-read : goal.returns-clause-read
returns-clause-read g c = λ all b.
    from_read all c.read_head.new.head _ _ c.in_ok-body.body (c.in_ok-read_head.ensures.head all b) c.in_ok-body.ensures.block

pub returns-clause-went : goal.returns-clause-went
returns-clause-went g c = ReadsWell-more c.in_ok-read_head.ensures.went c.in_ok-body.ensures.went
