use Rattle.std.proofs.Common.{◌≡◌, ◌≤◌, ◌+◌, length, take, not}
use Rattle.std.specs.List.{suffix_len}
use Rattle.ftp_base.specs.Storage.{is_slash}
use Rattle.ftp_base.proofs.path.name_start.Given as goal

-- no slash stands behind
abbrev pub invariant-loop-start : goal.invariant-loop-start
invariant-loop-start l =
    (l.start ≤ length l.path)
    × (l.start + suffix_len (λ b. not (is_slash b)) l.path ≡ length l.path + suffix_len (λ b. not (is_slash b)) (take l.start l.path))

abbrev pub decreases-loop-start : goal.decreases-loop-start
decreases-loop-start l = l.start
