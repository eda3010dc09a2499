-- What stays as it was over calls that follow one another.
use Rattle.std.proofs.Common.{ℕ, List, Option, ◌∙◌, arith}
use Rattle.ftp_base.specs.Kept.{CountsOn, OnlySends, OnlyReads}
use Rattle.ftp_base.specs.Outside.{Sending}

module _ {T : Type 0} {faults fault_limit : T → ℕ} where
  -- without a call the counts are the same
  pub CountsOn-same : {a : T} → CountsOn faults fault_limit a a
  CountsOn-same = record { count = omega arith; limit = omega arith }

  -- counts that went on go on
  pub CountsOn-more : {a b c : T} → CountsOn faults fault_limit a b → CountsOn faults fault_limit b c → CountsOn faults fault_limit a c
  CountsOn-more first next =
      record { count = omega (arith, first.count, next.count); limit = omega (arith, first.limit, next.limit) }

  -- calls that send, after others that do
  pub OnlySends-more : {left : T → Option (List ℕ)} {sending : T → Sending} {a b c : T} →
      OnlySends left sending faults fault_limit a b → OnlySends left sending faults fault_limit b c → OnlySends left sending faults fault_limit a c
  OnlySends-more first next =
      record {
        same_left = next.same_left ∙ first.same_left;
        closed = next.closed ∙ first.closed;
        counts = CountsOn-more first.counts next.counts;
      }

  -- calls that read, after others that do
  pub OnlyReads-more : {sending : T → Sending} {a b c : T} →
      OnlyReads sending faults fault_limit a b → OnlyReads sending faults fault_limit b c → OnlyReads sending faults fault_limit a c
  OnlyReads-more first next =
      record {
        sent = next.sent ∙ first.sent;
        closed = next.closed ∙ first.closed;
        counts = CountsOn-more first.counts next.counts;
      }
