use Rattle.std.proofs.Common.{ap, sym, ◌∙◌, is_some}
use Rattle.std.specs.FinMap as map
use Rattle.ftp_base.proofs.Tables.{get-numbers}
use Rattle.ftp_base.proofs.link_table.LinkTable.has.Goals as goal

pub returns : goal.returns
returns g c =
    c.contains_key.ensures
    ∙ ap is_some
    (sym (get-numbers c.self.inside.links.entries c.args.number)
    ∙ ap (λ v. map.get v c.args.number) c.self.view_is)
