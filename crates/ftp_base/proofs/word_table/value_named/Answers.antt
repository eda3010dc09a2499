use Rattle.std.proofs.Common.{rules}
use Rattle.std.proofs.lemmas.Iterator.{YieldsList-from_slice}
use Rattle.std.proofs.lemmas.Iterator.Search.{find_from_yields_List}
use Rattle.std.specs.Str.{bytes_eq}
use Rattle.ftp_base.proofs.TableRows.{value-lent}
use Rattle.ftp_base.proofs.word_table.value_named.Goals as goal

pub returns : goal.returns
returns g c =
    value-lent (λ name. bytes_eq name.now c.args.word.now) c.args.table.now c.find.result c.map.result _
    (find_from_yields_List (λ row. bytes_eq row.0.now c.args.word.now) _ _ _ c.find.ensures.ran (YieldsList-from_slice _ c.iter.ensures.rest) (λ row b f told. search rules))
    c.map.ensures.cases (λ row v told. search rules)
