use Rattle.std.proofs.Common.{◌≡◌, ◌∙◌, Some, option_map, refl, sym, ap}
use Rattle.std.specs.Str.{bytes_eq}
use Rattle.ftp_text.proofs.WordTables.{lookup-made}
use Rattle.ftp_text.proofs.word.value_or_none.Goals as goal

pub returns-in-Some : goal.returns-in-Some
returns-in-Some g c =
    let found = lookup-made (λ name. bytes_eq name.now c.args.word.now) (λ v. Some v) c.args.table.now ∙ ap (λ v. option_map (λ v. Some v) v) (sym c.value_named.ensures ∙ c.in-Some.is) in
    rw (sym c.eq.ensures ∙ c.if-eq.false, found) refl

pub returns-in-None : goal.returns-in-None
returns-in-None g c =
    let found = lookup-made (λ name. bytes_eq name.now c.args.word.now) (λ v. Some v) c.args.table.now ∙ ap (λ v. option_map (λ v. Some v) v) (sym c.value_named.ensures ∙ c.in-None.is) in
    rw (sym c.eq.ensures ∙ c.if-eq.false, found) refl
