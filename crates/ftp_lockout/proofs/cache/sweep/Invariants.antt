use Rattle.std.proofs.Common.{◌≡◌, take, drop, not}
use Rattle.std.specs.Prelude.{filter, vec_len, vec_capacity}
use Rattle.ftp_lockout.specs.Failures.{is_expired}
use Rattle.ftp_lockout.specs.Places.{AreRoomy, records_in}
use Rattle.ftp_lockout.proofs.cache.sweep.Given as goal

-- the blocks so far are swept, and the others as they were
abbrev pub invariant-loop-i : goal.invariant-loop-i
invariant-loop-i l = record {
  len : vec_len l.blocks ≡ vec_len l.fn.blocks;
  capacity : vec_capacity l.blocks ≡ vec_capacity l.fn.blocks;
  roomy : AreRoomy l.blocks.items;
  done : records_in (take l.i l.blocks.items) ≡ filter (λ e. not (is_expired l.policy l.at e.1)) (records_in (take l.i l.fn.blocks.items));
  rest : drop l.i l.blocks.items ≡ drop l.i l.fn.blocks.items;
}
