use Rattle.std.proofs.Common.{◌-◌, length}
use Rattle.std.proofs.lemmas.Option.{IfSome_then}
use Rattle.ftp_control.proofs.LineLemmas.{read_on, kept_before}
use Rattle.ftp_control.proofs.lines.read_more.Goals as goal

pub returns-in_err-n-clause-others : goal.returns-in_err-n-clause-others
returns-in_err-n-clause-others g c =
    kept_before c.args.buffer.now c.read.new.out (length c.args.buffer.now - c.args.span.end) c.args.span.start c.args.span.end c.requires.within.0 c.requires.within.1

pub returns-clause-others : goal.returns-clause-others
returns-clause-others g c =
    kept_before c.args.buffer.now c.read.new.out (length c.args.buffer.now - c.args.span.end) c.args.span.start c.args.span.end c.requires.within.0 c.requires.within.1

pub returns-clause-told : goal.returns-clause-told
returns-clause-told g c =
    IfSome_then (g.S.Source.left c.args.source.now) c.in_ok-n.ensures.read
    (λ l p. read_on c.args.buffer.now c.read.new.out (length c.args.buffer.now - c.args.span.end) c.args.span.start c.args.span.end c.in_ok-n.n l _ c.requires.within.0 c.requires.within.1 c.in_ok-n.ensures.within p)
