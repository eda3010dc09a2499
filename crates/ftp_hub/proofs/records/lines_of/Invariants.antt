use Rattle.std.proofs.Common.{◌≡◌, ◌++◌, true}
use Rattle.std.specs.List.{AllByRecursion}
use Rattle.std.specs.Map.{keys_of}
use Rattle.ftp_lockout.specs.Logins.{IsKey}
use Rattle.ftp_hub.specs.State.{entries_of, is_made_by}
use Rattle.ftp_hub.proofs.records.lines_of.Given as goal

-- the lines so far and the records that are left are all, and these are of keys of the policy
abbrev pub invariant-loop-key : goal.invariant-loop-key
invariant-loop-key l = record {
  entries : entries_of l.lines.items ++ l.key-iterator.rest.items ≡ l.fn.records.items;
  made : AllByRecursion (λ line. is_made_by l.block_by line ≡ true) l.lines.items;
  keys : AllByRecursion (IsKey l.block_by) (keys_of l.key-iterator.rest.items);
}
