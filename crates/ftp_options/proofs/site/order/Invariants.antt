use Rattle.std.proofs.Common.{◌≡◌, length}
use Rattle.std.specs.Ordering.{nat_cmp}
use Rattle.std.specs.Cmp.Lexicographic.{slice_cmp}
use Rattle.ftp_options.specs.Site.{upper}
use Rattle.ftp_options.proofs.site.order.Given as goal

abbrev pub invariant-loop-left : goal.invariant-loop-left
invariant-loop-left l = slice_cmp nat_cmp l.left (upper l.right) ≡ slice_cmp nat_cmp l.fn.site (upper l.fn.name)

abbrev pub decreases-loop-left : goal.decreases-loop-left
decreases-loop-left l = length l.left
