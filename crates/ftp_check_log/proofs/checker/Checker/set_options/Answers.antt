use Rattle.std.proofs.Common.{ap, ◌∙◌}
use Rattle.ftp_options.specs.Builder.{settings_of}
use Rattle.ftp_check_log.proofs.CheckLemmas.{takes-options}
use Rattle.ftp_check_log.proofs.checker.Checker.set_options.Goals as goal

pub returns-clause-set : goal.returns-clause-set
returns-clause-set c =
    takes-options c.args.self.now c.args.item c.new.result
    (ap settings_of c.new.ensures.options ∙ c.options_in.ensures) c.new.ensures.stands c.new.ensures.count
