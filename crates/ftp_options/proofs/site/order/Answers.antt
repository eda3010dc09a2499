use Rattle.std.proofs.Common.{rules, ◌∙◌}
use Rattle.ftp_options.proofs.Names.{ends-left, ends-right}
use Rattle.ftp_options.proofs.site.order.Goals as goal
use Rattle.ftp_options.proofs.site.order.Goals.{in_default, in_default-2}

pub returns : goal.returns
returns c =
    let left = c.loop-left.left.now in
    let right = c.loop-left.right.now in
    elim c.if-left-lt1.branch [
      | in_default w ↦ c.cmp.ensures ∙ ends-left left right w.in_default.len_below ∙ c.loop-left.invariant
      | in_default-2 w ↦ c.cmp.ensures ∙ ends-right left right (search rules) ∙ c.loop-left.invariant
    ]
