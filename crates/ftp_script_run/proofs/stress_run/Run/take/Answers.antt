use Rattle.ftp_script_run.proofs.StressRunLemmas.{takes-one}
use Rattle.ftp_script_run.proofs.stress_run.Run.take.Goals as goal

pub returns-in-Ok : goal.returns-in-Ok
returns-in-Ok c =
    takes-one c.args.self.now c.count.new.self c.prepare.new.self c.args.kind c.prepare.ensures.same
    c.count.ensures.stands c.count.ensures.counts c.count.ensures.options c.count.ensures.count
