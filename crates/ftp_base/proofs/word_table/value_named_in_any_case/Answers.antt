use Rattle.std.proofs.Common.{rules}
use Rattle.std.proofs.lemmas.Iterator.{YieldsList-from_slice}
use Rattle.std.proofs.lemmas.Iterator.Search.{find_from_yields_List}
use Rattle.std.specs.Str.{str_eq_ignore_ascii_case}
use Rattle.ftp_base.proofs.TableRows.{value-lent}
use Rattle.ftp_base.proofs.word_table.value_named_in_any_case.Goals as goal

pub returns : goal.returns
returns g c =
    value-lent (λ name. str_eq_ignore_ascii_case name.now c.args.word.now) c.args.table.now c.find.result c.map.result _
    (find_from_yields_List (λ row. str_eq_ignore_ascii_case row.0.now c.args.word.now) _ _ _ c.find.ensures.ran (YieldsList-from_slice _ c.iter.ensures.rest) (λ row b f told. search rules))
    c.map.ensures.cases (λ row v told. search rules)
