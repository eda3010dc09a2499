use Rattle.std.proofs.Common.{ap, ◌∙◌}
use Rattle.ftp_options.specs.Builder.{settings_of}
use Rattle.ftp_check_log.proofs.EndLemmas.{start-checks}
use Rattle.ftp_check_log.proofs.checker.Checker.new.Goals as goal

pub returns-clause-start : goal.returns-clause-start
returns-clause-start c = λ all.
    start-checks _ all (c.new-place.ensures.start all) (ap settings_of c.new-hub.ensures.options ∙ c.default_options-options.ensures) c.new-hub.ensures.stands c.new-hub.ensures.count
    (c.from_vec-due.ensures ∙ c.new-none.ensures.items) c.new-log.ensures
