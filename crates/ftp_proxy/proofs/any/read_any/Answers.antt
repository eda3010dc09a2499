use Rattle.std.proofs.lemmas.Result.{err_from_is_err_and}
use Rattle.std.proofs.Common.{sym, subst}
use Rattle.ftp_proxy.specs.declared.error.ProxyError.{ProxyError}
use Rattle.ftp_proxy.specs.Any.{IsAnyRead, any_failed}
use Rattle.ftp_proxy.proofs.AnyLemmas.{any_more, first_failed, first_ended, first_read, refused_line}
use Rattle.ftp_proxy.proofs.any.read_any.Goals as goal

pub returns-in_err-first-clause-read : goal.returns-in_err-first-clause-read
returns-in_err-first-clause-read g c =
    let p = err_from_is_err_and c.from_residual.result c.from_residual.ensures.1 in
    rw (p.1, p.2) (first_failed (g.S.Source.left c.args.source.now) (g.S.Source.left c.read_byte.new.source) c.in_err-first.field-0.0 c.in_err-first.ensures.only_fault c.in_err-first.ensures.unchanged)

pub returns-in_err-first-clause-went : goal.returns-in_err-first-clause-went
returns-in_err-first-clause-went g c =
    let p = err_from_is_err_and c.from_residual.result c.from_residual.ensures.1 in
    rw (p.1, p.2)
    (subst (λ (e : ProxyError). IsAnyRead g.S.Source.sending g.S.Source.faults g.S.Source.fault_limit g.S.Source.calls g.S.Source.is_link c.args.source.now c.read_byte.new.source (any_failed (refused_line e)))
    (sym c.in_err-first.ensures.only_fault) c.in_err-first.ensures.fault)

pub returns-in_default-clause-read : goal.returns-in_default-clause-read
returns-in_default-clause-read g c =
    first_ended (g.S.Source.left c.args.source.now) (g.S.Source.left c.read_byte.new.source) c.in_ok-first.field-0 c.in_ok-first.ensures.next c.in_default.is

pub returns-clause-read : goal.returns-clause-read
returns-clause-read g c =
    first_read (g.S.Source.left c.args.source.now) (g.S.Source.left c.read_byte.new.source) (g.S.Source.left c.read_any_behind.new.source) c.in_ok-first.field-0 c.in-Some.first c.read_any_behind.result c.in_ok-first.ensures.next c.in-Some.is c.read_any_behind.ensures.read

pub returns-clause-went : goal.returns-clause-went
returns-clause-went g c = any_more g.S.Source.is_link c.read_any_behind.new.source (any_failed c.read_any_behind.result) c.in_ok-first.ensures.well c.read_any_behind.ensures.went
