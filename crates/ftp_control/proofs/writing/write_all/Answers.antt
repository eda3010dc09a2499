use Rattle.ftp_control.proofs.WritingLemmas.{so_far_front, on_err}
use Rattle.ftp_control.proofs.writing.write_all.Goals as goal

pub returns-in_err-n-clause-front : goal.returns-in_err-n-clause-front
returns-in_err-n-clause-front g c =
    on_err c.from_residual.result
    (so_far_front (g.K.Sink.written c.args.sink.now) (g.K.Sink.written c.loop-rest.sink) (g.K.Sink.written c.write.new.self) c.args.bytes.now c.loop-rest.rest.now c.loop-rest.invariant.so_far c.in_err-n.ensures.unchanged)
