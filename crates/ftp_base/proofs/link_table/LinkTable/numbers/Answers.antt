use Rattle.std.proofs.Common.{ap, ◌∙◌, sym, subst, nat_eq}
use Rattle.std.specs.List.{IsDistinct}
use Rattle.std.specs.FinMap as map
use Rattle.ftp_base.proofs.Numbers.{sorted_numbers}
use Rattle.ftp_base.proofs.link_table.LinkTable.numbers.Goals as goal

pub returns : goal.returns
returns g c =
    sorted_numbers c.self.inside.links.entries c.in_ok-numbers.numbers.items _
    c.in_ok-numbers.ensures.keys
    (subst (IsDistinct nat_eq) (sym c.in_ok-numbers.ensures.keys) c.in_ok-numbers.ensures.unique)
    c.sort_unstable.ensures.permutation
    c.sort_unstable.ensures.sorted
    ∙ ap map.keys c.self.view_is
