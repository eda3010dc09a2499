-- How counts grow.
use Rattle.std.proofs.Common.{◌≡◌, ℕ, ◌+◌, ◌<◌, Bool, cond, List, ap, sym, ◌∙◌, add_assoc, get_or, take, length, count_by, subst}
use Rattle.std.proofs.lemmas.List.Sums.{sum_by_more}
use Rattle.ftp_events.specs.declared.action.Action.{Action}
use Rattle.ftp_events.specs.Tallies.{saturated, Grows}
use Rattle.ftp_events.specs.Counts.{one_if}

-- a count grows by what it grows by at first and then
grows-then : (n k old mid new : ℕ) → Grows n old mid → Grows k mid new → Grows (n + k) old new
grows-then n k old mid new first later = λ m h. later (m + n) (first m h) ∙ ap saturated (add_assoc m n k)

-- one action more
pub grows-take-more :
    (p : Action → Bool) (old mid new : ℕ) (actions : List Action) (i : ℕ) (a : Action) →
    i < length actions →
    a ≡ get_or actions i a →
    Grows (count_by p (take i actions)) old mid →
    Grows (one_if (p a)) mid new →
    Grows (count_by p (take (i + 1) actions)) old new
grows-take-more p old mid new actions i a lt is first later =
    let more : count_by p (take (i + 1) actions) ≡ count_by p (take i actions) + one_if (p a) =
    sum_by_more (λ y. cond (p y) 1 0) actions i a lt ∙ ap (λ b. count_by p (take i actions) + cond (p b) 1 0) (sym is) in
    subst (λ n. Grows n old new) (sym more) (grows-then (count_by p (take i actions)) (one_if (p a)) old mid new first later)
