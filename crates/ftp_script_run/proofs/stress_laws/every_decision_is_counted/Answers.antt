use Rattle.std.proofs.Common.{refl}
use Rattle.ftp_script_run.specs.Counts.{names}
use Rattle.ftp_script_run.proofs.Examples.{every-named}
use Rattle.ftp_script_run.proofs.stress_laws.every_decision_is_counted.Goals as goal

pub returns-clause-ascending : goal.returns-clause-ascending
unfolding names
returns-clause-ascending c = refl

pub returns-clause-every : goal.returns-clause-every
returns-clause-every c = every-named
