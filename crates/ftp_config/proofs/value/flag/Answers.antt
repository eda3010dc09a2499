use Rattle.std.proofs.Common.{ap, sym, ◌∙◌, option_map, is_some, subst, IfErr}
use Rattle.toml.specs.View.{table_view, view}
use Rattle.ftp_config.specs.Config.{value_at, is_flag, IsFaultIn}
use Rattle.ftp_config.proofs.ValueLemmas.{refuses, no_value}
use Rattle.ftp_config.proofs.value.flag.Goals as goal

pub returns-clause-refused : goal.returns-clause-refused
returns-clause-refused c =
    subst (λ r. IfErr r (IsFaultIn (table_view c.args.table.now))) (sym c.ok_or.ensures.value)
    (no_value c.as_bool.result c.args.key (table_view c.args.table.now) (λ none.
    refuses c.args.key is_flag (value_at c.args.key (table_view c.args.table.now)) (view c.in-Some.value.now) c.requires.kind
    (sym c.at.ensures ∙ ap (option_map (λ v. view v.now)) c.in-Some.is)
    (ap is_some (sym c.as_bool.ensures ∙ none))))
