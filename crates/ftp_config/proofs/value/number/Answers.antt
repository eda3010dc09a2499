use Rattle.std.proofs.Common.{◌≡◌, None, ap, sym, ◌∙◌, option_map, is_some, option_and_then, subst, IfErr, rules}
use Rattle.toml.specs.View.{table_view, view}
use Rattle.ftp_config.specs.Config.{value_at, is_count_in, within, IsFaultIn}
use Rattle.ftp_config.proofs.ValueLemmas.{refuses, no_value}
use Rattle.ftp_config.proofs.value.number.Goals as goal

pub returns-in_default-as_integer-clause-refused : goal.returns-in_default-as_integer-clause-refused
returns-in_default-as_integer-clause-refused c =
    refuses c.args.key (is_count_in c.args.lo c.args.hi) (value_at c.args.key (table_view c.args.table.now)) (view c.in-Some.value.now) c.requires.kind
    (sym c.at.ensures ∙ ap (option_map (λ v. view v.now)) c.in-Some.is)
    (ap (λ z. is_some (option_and_then (within c.args.lo c.args.hi) z)) (sym c.as_integer.ensures ∙ c.in_default-as_integer.is))

pub returns-clause-refused : goal.returns-clause-refused
returns-clause-refused c =
    subst (λ r. IfErr r (IsFaultIn (table_view c.args.table.now))) (sym c.ok_or.ensures.value)
    (no_value c.within.result c.args.key (table_view c.args.table.now) (λ none.
    refuses c.args.key (is_count_in c.args.lo c.args.hi) (value_at c.args.key (table_view c.args.table.now)) (view c.in-Some.value.now) c.requires.kind
    (sym c.at.ensures ∙ ap (option_map (λ v. view v.now)) c.in-Some.is)
    (let none : within c.args.lo c.args.hi c.in-Some-as_integer.n ≡ None = search (rules, none, c.within.ensures) in
    ap (λ z. is_some (option_and_then (within c.args.lo c.args.hi) z)) (sym c.as_integer.ensures ∙ c.in-Some-as_integer.is) ∙ ap is_some none)))
