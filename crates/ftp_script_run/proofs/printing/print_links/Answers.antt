use Rattle.std.proofs.Common.{◌≡◌, ◌∙◌, List, ℕ, subst}
use Rattle.std.specs.List.{flat_map}
use Rattle.std.specs.FinMap as map
use Rattle.ftp_control.specs.Writing.{WritesFront}
use Rattle.ftp_script_run.specs.Left.{sent_on}
use Rattle.ftp_control.proofs.WritingLemmas.{on_err}
use Rattle.ftp_script_run.proofs.Written.{front-part}
use Rattle.ftp_script_run.proofs.printing.print_links.Goals as goal

pub returns-in_err-print_sent-clause-front : goal.returns-in_err-print_sent-clause-front
returns-in_err-print_sent-clause-front g c =
    let same : c.deref-number-items.result.now ≡ map.keys c.args.links.now = c.deref-number-items.ensures.value ∙ c.in-Ok.ensures in
    on_err c.from_residual.result
    (subst (λ (numbers : List ℕ). WritesFront (g.K.Sink.written c.args.sink.now) (g.K.Sink.written c.print_sent.new.sink) (flat_map (sent_on c.args.links.now) numbers)) same
    (front-part (sent_on c.args.links.now) c.deref-number-items.result.now c.loop-number.number-index 0
    (g.K.Sink.written c.args.sink.now) (g.K.Sink.written c.loop-number.sink) (g.K.Sink.written c.print_sent.new.sink)
    c.loop-number-test.true c.loop-number.invariant.wrote c.in_err-print_sent.ensures.front))
