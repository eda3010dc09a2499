use Rattle.std.proofs.Common.{◌≡◌, vec_len}
use Rattle.std.specs.Prelude.{filter}
use Rattle.std.specs.Option.{option_or}
use Rattle.ftp_lockout.specs.declared.key.LoginKey.{LoginKey}
use Rattle.ftp_lockout.specs.Failures.{failures_of}
use Rattle.ftp_hub.specs.State.{is_made_by, recorded_in}
use Rattle.ftp_hub.proofs.records.cache_of.Given as goal

-- with the lines that are left, the records are those of all
abbrev pub invariant-loop-line : goal.invariant-loop-line
invariant-loop-line l = record {
  told : (key : LoginKey) →
      option_or (recorded_in (filter (is_made_by l.policy.block_by) l.lines.items) key) (failures_of l.cache key)
      ≡ recorded_in (filter (is_made_by l.policy.block_by) l.initial.lines.items) key;
  policy : l.cache.policy ≡ l.policy;
}

abbrev pub decreases-loop-line : goal.decreases-loop-line
decreases-loop-line l = vec_len l.lines
