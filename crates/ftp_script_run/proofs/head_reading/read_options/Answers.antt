use Rattle.std.proofs.Common.{ℕ, Bool, List, [], ◌++◌, Option, subst, sym}
use Rattle.std.specs.Prelude.{IfSome}
use Rattle.std.proofs.lemmas.Option.{IfSome_then}
use Rattle.ftp_control.specs.Lines.{bytes_in}
use Rattle.ftp_text.specs.declared.setup.Item.{Item}
use Rattle.ftp_script_run.specs.Resumed.{AreOfOptions, IsOptionsLine, ReadsHead, ReadsLine}
use Rattle.ftp_script_run.proofs.HeadLemmas.{head-options}
use Rattle.ftp_script_run.proofs.StressRunLemmas.{if_ok-then}
use Rattle.ftp_script_run.proofs.head_reading.read_options.Goals as goal

pub returns-in-Some-clause-told : goal.returns-in-Some-clause-told
returns-in-Some-clause-told g c =
    let left = g.S.Source.left c.args.source.now in
    let now = g.S.Source.left c.read_line.new.source in
    let line = c.read_line.new.line.items in
    let held = bytes_in c.read_line.new.buffer c.read_line.new.held in
    let next = c.read_behind.new.line.items in
    let out = bytes_in c.read_behind.new.buffer c.read_behind.new.held in
    let later = g.S.Source.left c.read_behind.new.source in
    let found = subst (λ (o : Option Item). IfSome o (λ i. IsOptionsLine c.as_slice.result.now i)) c.in-Some.is c.in_ok-options.ensures.found in
    let is = subst (λ (w : List ℕ). IsOptionsLine w c.in-Some.options) c.as_slice.ensures.value found in
    let first = subst (λ (b : Bool). IfSome left (λ l. ReadsLine b (bytes_in c.args.buffer.now c.args.held.now ++ l) line held now)) c.if-not-branch.false c.in_ok-read_line.ensures.told in
    if_ok-then c.read_behind.result c.read_behind.ensures.told
    (λ read more.
    subst (λ (o : Option Item). IfSome left (λ l. ReadsHead (bytes_in c.args.buffer.now c.args.held.now ++ l) o [] read.1 next out later)) (sym more.0)
    (IfSome_then left first (λ l r. head-options (bytes_in c.args.buffer.now c.args.held.now ++ l) line held next out now later read.1 c.in-Some.options r is more.1)))

pub returns-in-Some-clause-options : goal.returns-in-Some-clause-options
returns-in-Some-clause-options g c =
    let lawful = subst AreOfOptions c.in-Some.is c.in_ok-options.ensures.options in
    if_ok-then c.read_behind.result c.read_behind.ensures.told (λ read more. subst AreOfOptions (sym more.0) lawful)
