use Rattle.std.proofs.Common.{refl, sym, ◌∙◌, arith}
use Rattle.ftp_proxy.proofs.AnyLemmas.{any_line, any_block, block_behind, line_behind}
use Rattle.ftp_proxy.proofs.any.read_any_behind.Goals as goal

pub returns-then-is_version2-clause-read : goal.returns-then-is_version2-clause-read
returns-then-is_version2-clause-read g c =
    rw c.version2.ensures (block_behind (g.S.Source.left c.args.source.now) (g.S.Source.left c.read_from.new.source) c.args.first _ c.read_from.result (sym c.is_version2.ensures ∙ c.if-is_version2.true) (omega arith) refl c.read_from.ensures.read)

pub returns-then-is_version2-clause-went : goal.returns-then-is_version2-clause-went
returns-then-is_version2-clause-went g c =
    rw c.version2.ensures (any_block g.S.Source.sending g.S.Source.faults g.S.Source.fault_limit g.S.Source.calls g.S.Source.is_link c.args.source.now c.read_from.new.source c.read_from.result c.read_from.ensures.went)

pub returns-clause-read : goal.returns-clause-read
returns-clause-read g c =
    rw c.version1.ensures (line_behind (g.S.Source.left c.args.source.now) (g.S.Source.left c.read_behind.new.source) c.args.first c.read_behind.result (sym c.is_version2.ensures ∙ c.if-is_version2.false) c.read_behind.ensures.line c.read_behind.ensures.taken)

pub returns-clause-went : goal.returns-clause-went
returns-clause-went g c =
    rw c.version1.ensures (any_line g.S.Source.sending g.S.Source.faults g.S.Source.fault_limit g.S.Source.calls g.S.Source.is_link c.args.source.now c.read_behind.new.source c.read_behind.result c.read_behind.ensures.went)
