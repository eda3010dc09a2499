use Rattle.ftp_script_run.specs.Left.{link_lines, file_lines}
use Rattle.ftp_control.proofs.WritingLemmas.{front-longer, front-more, on_err, on_err-then}
use Rattle.ftp_script_run.proofs.run.Run.end.Goals as goal

pub returns-in_err-print_links-clause-front : goal.returns-in_err-print_links-clause-front
returns-in_err-print_links-clause-front g c =
    let run = c.args.self.now in
    on_err c.from_residual.result
    (front-longer (g.K.Sink.written c.args.sink.now) (g.K.Sink.written c.print_links.new.sink) (link_lines run.links) (file_lines run.storage.inner) c.in_err-print_links.ensures.front)

pub returns-clause-front : goal.returns-clause-front
returns-clause-front g c =
    let run = c.args.self.now in
    on_err-then c.print_files.result (rw c.inner.ensures at c.print_files.ensures.front) (λ front.
    front-more (g.K.Sink.written c.args.sink.now) (g.K.Sink.written c.print_links.new.sink) (g.K.Sink.written c.print_files.new.sink)
    (link_lines run.links) (file_lines run.storage.inner) c.in_ok-print_links.ensures.wrote front)
