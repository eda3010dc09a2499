use Rattle.std.proofs.Common.{arith}
use Rattle.std.proofs.lemmas.Bool.Decides.{nat_tests}
use Rattle.ftp_switchboard.proofs.SettledLemmas.{Appends, IsDisjoint-appended, appended-cases, is_used-appended}
use Rattle.ftp_switchboard.proofs.numbers.append.Goals as goal

appends : (c : goal.In_ok-insert) → Appends c.args.settled.now.entries c.insert.new.self.entries c.args.lo c.args.hi
appends c = record {
  disjoint = c.requires.disjoint;
  was_sorted = c.insert.ensures.was_ordered;
  sorted = c.insert.ensures.ordered;
  filled = c.requires.filled;
  fits = c.ranges.hi.fits;
  behind = c.requires.behind;
  after = λ q. (let inserted = c.in_ok-insert.ensures.updates.0 q in grind (arith, nat_tests, inserted));
}

pub returns-clause-numbers : goal.returns-clause-numbers
returns-clause-numbers c = is_used-appended _ _ _ _ (appends c)

pub returns-clause-disjoint : goal.returns-clause-disjoint
returns-clause-disjoint c = IsDisjoint-appended _ _ _ _ (appends c)

pub returns-clause-ends : goal.returns-clause-ends
returns-clause-ends c lo hi ends = appended-cases _ _ _ _ lo hi (appends c) ends
