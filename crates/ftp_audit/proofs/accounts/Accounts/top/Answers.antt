use Rattle.std.proofs.Common.{rules}
use Rattle.ftp_audit.proofs.ListingLemmas.{sorted_by_rank}
use Rattle.ftp_audit.proofs.accounts.Accounts.top.Goals as goal

pub returns : goal.returns
returns c = (
  c.in_ok-rows.rows.items,
  c.in_ok-rows.ensures,
  record {
    ranked = c.sort_unstable_by.new.self.items;
    same = c.sort_unstable_by.ensures.permutation;
    by_rank = sorted_by_rank _ c.sort_unstable_by.ensures.sorted (λ a r q k. search rules);
    first = c.truncate.ensures.items;
  },
)
