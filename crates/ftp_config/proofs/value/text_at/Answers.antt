use Rattle.std.proofs.Common.{ap, sym, ◌∙◌, option_map, is_some}
use Rattle.std.specs.Option.{option_copied}
use Rattle.toml.specs.View.{table_view, view}
use Rattle.ftp_config.specs.Config.{value_at, is_text}
use Rattle.ftp_config.proofs.ValueLemmas.{refuses}
use Rattle.ftp_config.proofs.value.text_at.Goals as goal

pub returns-in_default-as_str-clause-refused : goal.returns-in_default-as_str-clause-refused
returns-in_default-as_str-clause-refused c =
    refuses c.args.key is_text (value_at c.args.key (table_view c.args.table.now)) (view c.in-Some.value.now) c.requires.kind
    (sym c.at.ensures ∙ ap (option_map (λ v. view v.now)) c.in-Some.is)
    (ap is_some (sym c.as_str.ensures ∙ ap option_copied c.in_default-as_str.is))
