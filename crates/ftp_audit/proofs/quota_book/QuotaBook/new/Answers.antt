use Rattle.ftp_audit.proofs.Balance.{balance_of_none}
use Rattle.ftp_audit.proofs.quota_book.QuotaBook.new.Goals as goal

pub invariant_of-result : goal.invariant_of-result
invariant_of-result c = record { ordered = c.new-2.ensures.ordered; balance = rw (c.new-3.ensures.empty, c.new-2.ensures.empty) balance_of_none }
