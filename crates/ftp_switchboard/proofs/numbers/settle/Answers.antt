use Rattle.std.proofs.Common.{arith}
use Rattle.std.proofs.lemmas.Bool.Decides.{nat_tests}
use Rattle.ftp_switchboard.proofs.SettledLemmas.{Widens, is_used-widened, IsDisjoint-widened, hi-above}
use Rattle.ftp_switchboard.proofs.numbers.settle.Goals as goal

then-widens : (c : goal.After-remove) → Widens c.args.settled.now.entries c.remove.new.self.entries c.args.n c.in-Some.lo c.hi_with-hi.result
then-widens c = record {
  disjoint = c.requires;
  was_sorted = c.insert.ensures.was_ordered;
  sorted = c.remove.ensures.ordered;
  unused = c.in-Some.ensures.unused;
  begins = c.in-Some.ensures.begins;
  ends = c.hi_with-hi.ensures.above;
  fits = c.hi_with-hi.ensures.fits;
  after = λ q.
      (let inserted = c.in_ok-insert.ensures.updates.0 q in
      let removed = c.remove.ensures.updates.0 q in
      let below = c.in-Some.ensures.begins.below in
      grind (arith, nat_tests, inserted, removed));
}

else-widens : (c : goal.Else-hi-n) → Widens c.args.settled.now.entries c.insert.new.self.entries c.args.n c.in-Some.lo c.hi_with-hi.result
else-widens c = record {
  disjoint = c.requires;
  was_sorted = c.insert.ensures.was_ordered;
  sorted = c.insert.ensures.ordered;
  unused = c.in-Some.ensures.unused;
  begins = c.in-Some.ensures.begins;
  ends = c.hi_with-hi.ensures.above;
  fits = c.hi_with-hi.ensures.fits;
  after = λ q.
      (let inserted = c.in_ok-insert.ensures.updates.0 q in
      let alone = hi-above c.args.settled.now.entries c.args.n c.hi_with-hi.result c.requires c.hi_with-hi.ensures.above in
      grind (arith, nat_tests, inserted, alone));
}

pub returns-then-hi-n-clause-numbers : goal.returns-then-hi-n-clause-numbers
returns-then-hi-n-clause-numbers c = is_used-widened _ _ _ _ _ (then-widens c)

pub returns-then-hi-n-clause-disjoint : goal.returns-then-hi-n-clause-disjoint
returns-then-hi-n-clause-disjoint c = IsDisjoint-widened _ _ _ _ _ (then-widens c)

pub returns-else-hi-n-clause-numbers : goal.returns-else-hi-n-clause-numbers
returns-else-hi-n-clause-numbers c = is_used-widened _ _ _ _ _ (else-widens c)

pub returns-else-hi-n-clause-disjoint : goal.returns-else-hi-n-clause-disjoint
returns-else-hi-n-clause-disjoint c = IsDisjoint-widened _ _ _ _ _ (else-widens c)
