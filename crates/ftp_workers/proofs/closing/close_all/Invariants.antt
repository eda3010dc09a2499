use Rattle.std.proofs.Common.{◌≡◌, ℕ, cond, take, None, nat_eq}
use Rattle.indexmap.specs.IndexMap.{get}
use Rattle.ftp_workers.specs.Carried.{is_closed}
use Rattle.ftp_workers.proofs.closing.close_all.Given as goal

-- the links that the actions so far close are gone, and the others are there
abbrev pub invariant-loop-action : goal.invariant-loop-action
invariant-loop-action l =
    (n : ℕ) → get nat_eq l.links n ≡ cond (is_closed (take l.action-index l.actions) n) None (get nat_eq l.initial.links n)
