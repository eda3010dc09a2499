use Rattle.std.proofs.lemmas.Option.{IfSome_then}
use Rattle.ftp_proxy.specs.Any.{any_failed}
use Rattle.ftp_proxy.proofs.AnyLemmas.{any_well, any_fault, any_only_reads}
use Rattle.ftp_proxy.proofs.any.read_proxy_any.Goals as goal

pub returns : goal.returns
returns g c =
    let well = any_well g.S.Source.sending g.S.Source.faults g.S.Source.fault_limit g.S.Source.calls g.S.Source.is_link c.args.source.now c.read_any.new.source (any_failed c.read_any.result) c.read_any.ensures.went in
    let fault = any_fault g.S.Source.sending g.S.Source.faults g.S.Source.fault_limit g.S.Source.calls g.S.Source.is_link c.args.source.now c.read_any.new.source (any_failed c.read_any.result) c.read_any.ensures.went in
    record {
      header = IfSome_then (g.S.Source.left c.args.source.now) c.read_any.ensures.read (λ l r. r.0);
      taken = IfSome_then (g.S.Source.left c.args.source.now) c.read_any.ensures.read (λ l r. r.1);
      last_fault = λ is. (well is).last_fault;
      met = λ is. (fault is).met;
      unlisted = λ is. (well is).unlisted;
      as_listed = λ is. (fault is).as_listed;
      fault_rose = λ is. (fault is).fault_rose;
      only_reads = any_only_reads g.S.Source.sending g.S.Source.faults g.S.Source.fault_limit g.S.Source.calls g.S.Source.is_link c.args.source.now c.read_any.new.source (any_failed c.read_any.result) c.read_any.ensures.went;
    }
