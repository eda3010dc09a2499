use Rattle.std.proofs.Common.{cond, Some, ap, ◌∙◌, arith, inl, inr, eq-eqb, ne_eqb}
use Rattle.std.specs.FinMap as finmap
use Rattle.std.proofs.lemmas.Bool.{cases_eq}
use Rattle.ftp_switchboard.specs.Board.{Held, key}
use Rattle.ftp_switchboard.proofs.BoardLemmas.{get-insert-key}
use Rattle.ftp_bench.proofs.reservations.hold_ports.Goals as goal

-- One more port is held, beside those that were.
pub loop-port-preserved : goal.loop-port-preserved
loop-port-preserved c = record {
  lo = c.in_ok-try_and_claim.ensures.range.lo ∙ c.reserve_room.ensures.same.lo ∙ c.loop-port.invariant.lo;
  hi = c.in_ok-try_and_claim.ensures.range.hi ∙ c.reserve_room.ensures.same.hi ∙ c.loop-port.invariant.hi;
  held = λ p low first so_far.
      let rest = finmap.get c.reserve_room.new.self.held (key 1 p) in
      let put = ap (λ (held : Held). finmap.get held (key 1 p)) c.in_ok-try_and_claim.ensures.claimed ∙ get-insert-key c.reserve_room.new.self.held 1 p 1 c.loop-port.port 1 in
      let kept = ap (λ (held : Held). finmap.get held (key 1 p)) c.reserve_room.ensures.same.held in
      elim (cases_eq p c.loop-port.port) [
        | inl same ↦ put ∙ ap (λ b. cond b (Some 1) rest) (eq-eqb p c.loop-port.port same)
        | inr apart ↦
            put ∙ ap (λ b. cond b (Some 1) rest) (ne_eqb p c.loop-port.port apart) ∙ kept
            ∙ c.loop-port.invariant.held p low first (omega (arith, apart, so_far))
      ];
}
