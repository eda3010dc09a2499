use Rattle.std.proofs.Common.{ℕ, ◌∙◌, ap, sym}
use Rattle.std.specs.List.{list_all}
use Rattle.ftp_hub.specs.Runs.{is_linked}
use Rattle.ftp_script_run.proofs.ResumeLemmas.{awaits-linked, awaits-none}
use Rattle.ftp_script_run.proofs.resumed.Resumed.has_links.Goals as goal

pub returns-then-not-has_all-clause-linked : goal.returns-then-not-has_all-clause-linked
returns-then-not-has_all-clause-linked c = λ o state items log kept w.
    sym c.if-not-has_all.true ∙ c.has_all.ensures
    ∙ ap (list_all (λ (n : ℕ). is_linked c.args.run.now.links n)) c.as_slice.ensures.value
    ∙ awaits-linked c.args.self.now o state c.args.run.now items log kept w

pub returns-clause-linked : goal.returns-clause-linked
returns-clause-linked c = λ o state items log kept w.
    sym c.if-not-has_all.false ∙ c.has_all.ensures
    ∙ ap (list_all (λ (n : ℕ). is_linked c.args.run.now.links n)) c.as_slice.ensures.value
    ∙ awaits-linked c.args.self.now o state c.args.run.now items log kept w

pub returns-clause-awaits : goal.returns-clause-awaits
returns-clause-awaits c = λ o state items log kept w.
    awaits-none _ state items c.clear.ensures.items
    (sym
    (sym c.if-not-has_all.false ∙ c.has_all.ensures
    ∙ ap (list_all (λ (n : ℕ). is_linked c.args.run.now.links n)) c.as_slice.ensures.value
    ∙ awaits-linked c.args.self.now o state c.args.run.now items log kept w))
