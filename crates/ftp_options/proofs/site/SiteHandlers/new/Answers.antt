use Rattle.std.specs.Ordering.{nat_cmp}
use Rattle.std.specs.Cmp.Lexicographic.{slice_cmp}
use Rattle.ftp_base.proofs.Sorted.{none_rises}
use Rattle.ftp_options.proofs.site.SiteHandlers.new.Goals as goal

pub invariant_of-result : goal.invariant_of-result
invariant_of-result g c = rw c.new.ensures.items (none_rises (slice_cmp nat_cmp))
