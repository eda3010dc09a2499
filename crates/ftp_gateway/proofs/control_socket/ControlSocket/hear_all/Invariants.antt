use Rattle.std.proofs.Common.{◌≡◌}
use Rattle.ftp_gateway.proofs.control_socket.ControlSocket.hear_all.Given as goal

abbrev pub invariant-loop-caller : goal.invariant-loop-caller
invariant-loop-caller g l = (l.self.asked ≡ l.fn.self.asked) × (l.self.grace_ms ≡ l.fn.self.grace_ms)
