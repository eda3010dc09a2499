use Rattle.std.proofs.Common.{◌≡◌, ◌++◌, List, String, Global, None, true, rules, map, subst, sym, ap, ◌∙◌, string_bytes}
use Rattle.std.specs.List.{list_any}
use Rattle.std.specs.Str.{bytes_eq}
use Rattle.toml.specs.View.{table_view}
use Rattle.ftp_config.specs.Keys.{config_key}
use Rattle.ftp_config.specs.Config.{keys_of_document}
use Rattle.ftp_config.proofs.NameLemmas.{is_known, all_known, is_told, known_more}
use Rattle.ftp_config.proofs.value.check_keys.Goals as goal

pub loop-name-preserved : goal.loop-name-preserved
loop-name-preserved c =
    let front : List (String Global) = c.loop-name.invariant.0 in
    let names : List (String Global) = map (λ m. m.0) c.args.table.now.entries in
    let known : is_known c.in-Some.name.now ≡ true = search (rules, c.if-is_none.false, c.is_none.ensures, c.config_key.ensures, c.as_str.ensures) in
    known_more front c.in-Some.name.now c.next.new.self names
    (subst (λ rest. front ++ rest ≡ names) c.in-Some.ensures.steps c.loop-name.invariant.1) c.loop-name.invariant.2 known

pub returns-then-is_none-clause-refused : goal.returns-then-is_none-clause-refused
returns-then-is_none-clause-refused c =
    let front : List (String Global) = c.loop-name.invariant.0 in
    let names : List (String Global) = map (λ m. m.0) c.args.table.now.entries in
    let text = c.in_ok-from_slice.ensures ∙ c.as_bytes.ensures.value in (
      subst (λ n. list_any (bytes_eq n) (keys_of_document (table_view c.args.table.now)) ≡ true) (sym text)
          (is_told front c.in-Some.name.now c.next.new.self c.args.table.now.entries
          (subst (λ rest. front ++ rest ≡ names) c.in-Some.ensures.steps c.loop-name.invariant.1)),
      (let unknown : config_key (string_bytes c.in-Some.name.now) ≡ None = search (rules, c.if-is_none.true, c.is_none.ensures, c.config_key.ensures, c.as_str.ensures) in
          ap config_key text ∙ unknown),
    )

pub returns-clause-known : goal.returns-clause-known
returns-clause-known c =
    let front : List (String Global) = c.loop-name.invariant.0 in
    all_known front c.args.table.now.entries
    (subst (λ rest. front ++ rest ≡ map (λ m. m.0) c.args.table.now.entries) c.in-None.ensures.steps.0 c.loop-name.invariant.1) c.loop-name.invariant.2
