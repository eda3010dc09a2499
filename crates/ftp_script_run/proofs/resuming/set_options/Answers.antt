use Rattle.std.proofs.Common.{None, Option, [], subst, sym}
use Rattle.ftp_hub.specs.Stands.{options_of}
use Rattle.ftp_text.specs.declared.setup.Item.{Item}
use Rattle.ftp_script_run.specs.Resumed.{AreOfOptions, AreOptionsOf}
use Rattle.ftp_script_run.proofs.BeginLemmas.{options-come, options-first, options-quiet, options-start}
use Rattle.ftp_script_run.proofs.resuming.set_options.Goals as goal

pub set_up-requires-clause-may : goal.set_up-requires-clause-may
set_up-requires-clause-may c =
    let given = subst AreOfOptions c.in-Some.is c.requires.options in
    options-come c.args.run.now c.in-Some.options given.0 given.1 c.requires.new

pub set_up-requires-clause-quiet : goal.set_up-requires-clause-quiet
set_up-requires-clause-quiet c =
    let given = subst AreOfOptions c.in-Some.is c.requires.options in
    options-quiet c.in-Some.options given.1

pub returns-in-Ok-clause-set : goal.returns-in-Ok-clause-set
returns-in-Ok-clause-set c =
    let given = subst AreOfOptions c.in-Some.is c.requires.options in
    let kept = c.in-Ok.ensures.took None [] [] c.requires.new (options-first c.args.run.now c.in-Some.options given.1 c.requires.new) in
    subst (λ (o : Option Item). AreOptionsOf o (options_of c.set_up.new.self.hub)) (sym c.in-Some.is) kept.options

pub returns-in-Ok-clause-start : goal.returns-in-Ok-clause-start
returns-in-Ok-clause-start c =
    let given = subst AreOfOptions c.in-Some.is c.requires.options in
    options-start c.set_up.new.self c.in-Some.options given.1
    (c.in-Ok.ensures.took None [] [] c.requires.new (options-first c.args.run.now c.in-Some.options given.1 c.requires.new))
