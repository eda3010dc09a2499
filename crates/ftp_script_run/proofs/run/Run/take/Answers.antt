use Rattle.std.proofs.Common.{inl, [], refl}
use Rattle.ftp_control.proofs.WritingLemmas.{on_err, on_ok-then, writes-nil}
use Rattle.ftp_script_run.proofs.run.Run.take.Goals as goal

pub returns-in_default-clause-took : goal.returns-in_default-clause-took
returns-in_default-clause-took g c =
    on_ok-then c.set_up.result c.set_up.ensures.took (λ took before items log kept may. ([], took before items log kept may, writes-nil (g.K.Sink.written c.args.sink.now)))

pub returns-in_default-clause-front : goal.returns-in_default-clause-front
returns-in_default-clause-front g c = on_err c.set_up.result (λ before items log kept may. inl refl)
