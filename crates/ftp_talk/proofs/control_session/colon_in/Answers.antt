use Rattle.std.proofs.Common.{sym, arith, eq-eqb}
use Rattle.std.proofs.lemmas.List.Sums.{position_or_len_is}
use Rattle.ftp_talk.specs.Commands.{is_colon}
use Rattle.ftp_talk.proofs.control_session.colon_in.Goals as goal

pub returns-then-b-eq58-clause-count : goal.returns-then-b-eq58-clause-count
returns-then-b-eq58-clause-count c =
    sym (position_or_len_is is_colon c.args.bytes.now c.loop-i.i 0 (omega arith) c.loop-i.invariant (λ lt. eq-eqb _ _ c.if-b-eq58.true))

pub returns-clause-count : goal.returns-clause-count
returns-clause-count c =
    sym (position_or_len_is is_colon c.args.bytes.now _ 0 (omega arith) (λ k lt. c.loop-i.invariant k (omega arith)) (λ lt. absurd (omega arith)))
