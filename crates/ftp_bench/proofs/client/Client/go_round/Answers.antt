use Rattle.std.proofs.Common.{◌≡◌, [], ℕ, length, ap, arith}
use Rattle.std.proofs.lemmas.List.{length-drop}
use Rattle.ftp_bench.specs.Client.{ClientState}
use Rattle.ftp_bench.proofs.client.Client.go_round.Goals as goal
use Rattle.ftp_bench.proofs.client.Client.go_round.Goals.{else-self-len-via-then-self-len+else-self-gt0, else-self-len-via-else-self-len}

-- where nothing is left of the packet, it does not come again
pub returns-else-self-len-clause-some : goal.returns-else-self-len-clause-some
returns-else-self-len-clause-some c = λ none.
    let rounds = ap (λ (s : ClientState). s.rounds) c.self.view_is in
    let left = ap (λ (s : ClientState). length s.left) c.self.view_is in
    elim c.else-self-len.branch [
      | else-self-len-via-then-self-len+else-self-gt0 w ↦ omega (arith, rounds, w.if-self-gt0.false)
      | else-self-len-via-else-self-len w ↦
          absurd (w.if-self-len.false (omega (
            arith,
            left,
            length-drop c.self.inside.at c.self.inside.packet.items,
            ap length none,
            c.self.invariant.0,
            c.len.ensures,
          )))
    ]
