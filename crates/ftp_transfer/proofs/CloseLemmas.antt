-- What a run moved, where the link is closed behind it.
use Rattle.std.proofs.Common.{◌≡◌, ◌∙◌, ℕ, List, Option}
use Rattle.ftp_base.specs.declared.fault.LinkFault.{LinkFault}
use Rattle.ftp_base.specs.Outside.{Sending}
use Rattle.ftp_transfer.specs.declared.job.Completion.{Completion}
use Rattle.ftp_transfer.specs.declared.job.Job.{Job}
use Rattle.ftp_transfer.specs.Ran.{Told, Moves}

-- a close sends nothing and takes nothing
pub Moves-closed : {job : Job} {old new : Told} {m : ℕ} {r : Completion} {fault : Option LinkFault} (left : Option (List ℕ)) (sending : Sending) →
    left ≡ new.left → sending.sent ≡ new.sending.sent → sending.last_fault ≡ new.sending.last_fault →
    Moves job old new m r fault → Moves job old (record new { left = left; sending = sending }) m r fault
Moves-closed left sending same_left same_sent same_fault moves = record {
  rule = moves.rule;
  owned = moves.owned;
  begun = moves.begun;
  sent = rw same_sent moves.sent;
  within = moves.within;
  whole = moves.whole;
  silent = λ store. same_sent ∙ moves.silent store;
  kept = λ other. ((moves.kept other).0, same_left ∙ (moves.kept other).1);
  stored = moves.stored;
  grown = moves.grown;
  written = λ done. rw same_left (moves.written done);
  countable = moves.countable;
  cause = rw (same_fault, same_left) moves.cause;
  refused = rw same_left moves.refused;
  unrefused = moves.unrefused;
  refused_last = λ store told. rw same_left (moves.refused_last store told);
  link_well = moves.link_well;
  storage_well = moves.storage_well;
}
