use Rattle.std.proofs.Common.{[]}
use Rattle.ftp_check_log.proofs.explanation.explain.Goals as goal

pub explain_by-explanation-requires-clause-start : goal.explain_by-explanation-requires-clause-start
explain_by-explanation-requires-clause-start g c = c.new-checker.ensures.start []
