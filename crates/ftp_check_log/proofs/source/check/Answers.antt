use Rattle.std.proofs.Common.{[]}
use Rattle.ftp_check_log.proofs.SourceLemmas.{text-source, only-source, right-source}
use Rattle.ftp_check_log.proofs.source.check.Goals as goal

pub returns-clause-only : goal.returns-clause-only
returns-clause-only g c = only-source c.verdict_of-verdict.result c.verdict_of-verdict.new.checker (g.S.Source.left c.args.source.now) c.verdict_of-verdict.ensures.tells

pub returns-clause-right : goal.returns-clause-right
returns-clause-right g c = right-source c.verdict_of-verdict.result c.verdict_of-verdict.new.checker (g.S.Source.left c.args.source.now) c.verdict_of-verdict.ensures.tells

pub returns-clause-tells : goal.returns-clause-tells
returns-clause-tells g c = text-source c.verdict_of-verdict.result c.verdict_of-verdict.new.checker (g.S.Source.left c.args.source.now) c.verdict_of-verdict.ensures.tells

pub verdict_of-verdict-requires-clause-start : goal.verdict_of-verdict-requires-clause-start
verdict_of-verdict-requires-clause-start g c = c.new-checker.ensures.start []
