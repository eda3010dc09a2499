use Rattle.std.proofs.Common.{◌∷◌}
use Rattle.std.proofs.lemmas.Option.{IfSome_then}
use Rattle.ftp_proxy.proofs.LineLemmas.{answer_front}
use Rattle.ftp_proxy.proofs.version1.read_behind.Goals as goal

pub returns-clause-line : goal.returns-clause-line
returns-clause-line g c =
    IfSome_then (g.S.Source.left c.args.source.now) c.in_ok-len.ensures.line (λ left r.
    answer_front (c.args.first ∷ left) _ c.read_proxy_header.result r.0 c.read_proxy_header.ensures.line)
