use Rattle.std.proofs.Common.{◌≡◌, ◌++◌, ◌∙◌, ap, subst}
use Rattle.std.specs.Prelude.{Err}
use Rattle.std.proofs.lemmas.Option.{IfSome_then}
use Rattle.ftp_control.specs.Lines.{bytes_in}
use Rattle.ftp_hub.specs.Stands.{options_of}
use Rattle.ftp_script_run.specs.declared.text_script.ScriptError.{ScriptError}
use Rattle.ftp_script_run.specs.declared.text_script.ScriptError.TheVariants as error
use Rattle.ftp_script_run.specs.Resuming.{GivesState}
use Rattle.ftp_script_run.specs.Runs.{outside}
use Rattle.ftp_script_run.proofs.BeginLemmas.{bad-lines, bad-state, begun-at, refused-cause}
use Rattle.ftp_script_run.proofs.ResumeLemmas.{awaits-all}
use Rattle.ftp_script_run.proofs.RunLemmas.{keeps-state}
use Rattle.ftp_script_run.proofs.resuming.begin.Goals as goal

-- a line that no state has there, or the one that is missing
pub returns-in-Err-clause-bad : goal.returns-in-Err-clause-bad
returns-in-Err-clause-bad g c = λ k is.
    let same : c.in-Err.error ≡ error.BadLine k = cc in
    IfSome_then (g.S.Source.left c.args.source.now) c.in_ok-head.ensures.told
    (λ left found.
    bad-lines k (bytes_in c.args.buffer.now c.args.held.now ++ left) (bytes_in c.read.new.buffer c.read.new.held) (g.S.Source.left c.read.new.source) c.in_ok-head.head found
    (λ texts keeps. subst (λ (e : ScriptError). GivesState c.in_ok-head.head texts (Err e)) same (c.in-Err.ensures.told texts keeps)))

pub returns-in-Ok-go_on_from-clause-begun : goal.returns-in-Ok-go_on_from-clause-begun
returns-in-Ok-go_on_from-clause-begun g c =
    let o = options_of c.set_options.new.run.hub in
    record {
      options = o;
      state = c.in-Ok.state;
      kept =
          keeps-state o c.in-Ok.state c.set_options.new.run c.go_on_from.new.self c.in-Ok-go_on_from.ensures.options c.in-Ok-go_on_from.ensures.stands c.in-Ok-go_on_from.ensures.count
          (ap outside c.go_on_from.ensures.others) c.in_ok-set_options.ensures.start;
      awaits = awaits-all _ c.in-Ok.state c.in_ok-links.ensures;
      begun =
          IfSome_then (g.S.Source.left c.args.source.now) c.in_ok-head.ensures.told
          (λ left found.
          begun-at (bytes_in c.args.buffer.now c.args.held.now ++ left) (bytes_in c.read.new.buffer c.read.new.held) (g.S.Source.left c.read.new.source) c.in_ok-head.head o c.in-Ok.state c.last-before.result found
          c.in-Ok.ensures.told c.in_ok-set_options.ensures.set c.in-Ok-go_on_from.ensures.passed c.last-before.ensures.place);
    }

-- a state that the options refuse
pub returns-clause-bad : goal.returns-clause-bad
returns-clause-bad g c = λ k is.
    let named : c.refused_at.result ≡ error.BadLine k = cc in
    let o = options_of c.set_options.new.run.hub in
    IfSome_then (g.S.Source.left c.args.source.now) c.in_ok-head.ensures.told
    (λ left found.
    bad-state k (bytes_in c.args.buffer.now c.args.held.now ++ left) (bytes_in c.read.new.buffer c.read.new.held) (g.S.Source.left c.read.new.source) c.in_ok-head.head o c.in-Ok.state c.in-Err-go_on_from.error found
    c.in-Ok.ensures.told c.in_ok-set_options.ensures.set
    (refused-cause o c.in-Ok.state c.in-Err-go_on_from.error
    (λ memory. (let told : c.refused_at.result ≡ error.Memory = c.refused_at.ensures.memory memory in cc))
    c.in-Err-go_on_from.ensures.refused)
    (c.refused_at.ensures.line k named ∙ c.last-before.ensures.place))

pub returns-clause-fault_rose : goal.returns-clause-fault_rose
returns-clause-fault_rose g c = λ is.
    let named : c.refused_at.result ≡ error.Fault = cc in absurd (c.refused_at.ensures.no_fault named)
