use Rattle.ftp_lockout.proofs.Records.{none_in_order}
use Rattle.ftp_lockout.proofs.cache.FailedLoginsCache.new.Goals as goal

pub invariant_of-result : goal.invariant_of-result
invariant_of-result c = (
  rw c.new.ensures.items none_in_order,
  (λ i v got. let e = rw c.new.ensures.items at got in cc),
  c.new-2.ensures.items,
  (λ key f found. let e = rw c.new.ensures.items at found in cc),
)
