use Rattle.std.proofs.Common.{◌≡◌, sym, ap, ◌∙◌, ◌+◌, ◌||◌, List, [], ◌∷◌, ◌++◌, take, inl, inr, arith}
use Rattle.std.specs.Prelude.{slice_index_or}
use Rattle.std.proofs.lemmas.List.{take_more}
use Rattle.ftp_switchboard.specs.declared.numbers.Interval.{Interval}
use Rattle.ftp_switchboard.specs.Used.{is_in, is_used, no_interval}
use Rattle.ftp_switchboard.proofs.SettledLemmas.{is_used-last-one}
use Rattle.ftp_switchboard.proofs.numbers.Numbers.of.Goals as goal

-- with one interval more they are those of the intervals so far
pub loop-interval-preserved : goal.loop-interval-preserved
loop-interval-preserved c =
    let i = c.loop-interval.interval-index in
    let xs : List Interval = c.args.intervals.now in
    let x : Interval = slice_index_or xs i no_interval in
    let inv = c.loop-interval.invariant in
    let front : take (i + 1) xs ≡ take i xs ++ x ∷ [] = take_more xs i no_interval c.loop-interval-test.true in
    record {
      numbers = λ n.
          c.in_ok-append.ensures.numbers n
          ∙ ap (λ b. is_in x n || b) (inv.numbers n)
          ∙ sym (ap (λ ys. is_used ys n) front ∙ is_used-last-one (take i xs) x n);
      disjoint = c.in_ok-append.ensures.disjoint;
      behind = λ lo hi j ends from below. elim (c.in_ok-append.ensures.ends lo hi ends) [
        | inl own ↦ (let gap = c.requires.apart.gaps i j (omega (arith, from)) below in omega (arith, own.1, gap))
        | inr old ↦ inv.behind lo hi j old (omega (arith, from)) below
      ];
    }
