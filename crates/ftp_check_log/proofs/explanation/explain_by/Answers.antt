use Rattle.std.proofs.Common.{sym, subst, ◌∙◌}
use Rattle.std.specs.Prelude.{IfOk}
use Rattle.ftp_options.specs.declared.options.Options.{Options}
use Rattle.ftp_check_log.specs.Explanations.{TellsOfLog, IsRightAsSaid}
use Rattle.ftp_check_log.proofs.ExplanationLemmas.{why-source, explains-source, kept-said}
use Rattle.ftp_check_log.proofs.explanation.explain_by.Goals as goal

pub explained-requires : goal.explained-requires
explained-requires g c =
    let checker = c.verdict_of.new.checker in
    record {
      right =
          subst (λ (o : Options). IsRightAsSaid c.in-Ok.verdict o checker.log.entries) (sym c.options.ensures)
          (kept-said c.in-Ok.verdict checker (c.verdict_of.ensures.keeps ∙ c.requires.keeps) c.in-Ok.ensures.kept);
    }

pub returns-in-Ok-clause-tells : goal.returns-in-Ok-clause-tells
returns-in-Ok-clause-tells g c =
    let checker = c.verdict_of.new.checker in
    why-source c.explained.result c.args.k c.in-Ok.verdict checker (g.S.Source.left c.args.source.now) (c.verdict_of.ensures.keeps ∙ c.requires.keeps) c.in-Ok.ensures.tells
    (subst (λ (o : Options). IfOk c.explained.result (TellsOfLog c.in-Ok.verdict o checker.log.entries c.args.k)) c.options.ensures c.explained.ensures.tells)

pub returns-in-Ok-clause-verdict : goal.returns-in-Ok-clause-verdict
returns-in-Ok-clause-verdict g c =
    let checker = c.verdict_of.new.checker in
    let left = g.S.Source.left c.args.source.now in
    explains-source c.explained.result c.args.k left
    (why-source c.explained.result c.args.k c.in-Ok.verdict checker left (c.verdict_of.ensures.keeps ∙ c.requires.keeps) c.in-Ok.ensures.tells
    (subst (λ (o : Options). IfOk c.explained.result (TellsOfLog c.in-Ok.verdict o checker.log.entries c.args.k)) c.options.ensures c.explained.ensures.tells))
