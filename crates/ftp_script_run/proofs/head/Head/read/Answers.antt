use Rattle.std.proofs.Common.{[], ◌++◌, Option, subst, sym, ◌∙◌}
use Rattle.std.proofs.lemmas.Option.{IfSome_then}
use Rattle.ftp_control.specs.Lines.{bytes_in}
use Rattle.ftp_text.specs.declared.setup.Item.{Item}
use Rattle.ftp_script_run.specs.Resumed.{AreOfOptions, ReadsHead}
use Rattle.ftp_script_run.proofs.head.Head.read.Goals as goal

pub returns-in-Ok-clause-told : goal.returns-in-Ok-clause-told
returns-in-Ok-clause-told g c =
    let head = c.new-head in
    IfSome_then (g.S.Source.left c.args.source.now) c.in_ok-options.ensures.told
    (λ l r.
    let bytes = bytes_in c.args.buffer.now c.args.held.now ++ l in
    c.in-Ok.ensures.told bytes
    (subst (λ (o : Option Item). ReadsHead bytes o [] c.in_ok-options.is_there c.read_options.new.line.items (bytes_in c.read_options.new.buffer c.read_options.new.held) (g.S.Source.left c.read_options.new.source)) (sym head.ensures.options) r))

pub returns-in-Ok-clause-options : goal.returns-in-Ok-clause-options
returns-in-Ok-clause-options g c = subst AreOfOptions (sym (c.in-Ok.ensures.options ∙ c.new-head.ensures.options)) c.in_ok-options.ensures.options
