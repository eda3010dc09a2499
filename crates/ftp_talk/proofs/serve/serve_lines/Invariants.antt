use Rattle.std.proofs.Common.{◌≤◌, List, [], length}
use Rattle.ftp_control.specs.ControlLine.{IsHeld, held_in}
use Rattle.ftp_talk.specs.Ground.{Ground}
use Rattle.ftp_talk.specs.Parts.{HeardLine}
use Rattle.ftp_talk.specs.Speaking.{Talking, HearsLines, IsOf}
use Rattle.ftp_talk.proofs.serve.serve_lines.Given as goal

-- the talk stands somewhere on its way through the input
abbrev pub invariant-loop : goal.invariant-loop
invariant-loop g l = record {
  held : IsHeld l.buffer.items l.held;
  room : length l.buffer.items ≤ 8193;
  talking : (q : Ground) → IsOf q g.D.Desk.vouches g.D.Desk.draws_next g.C.Control.is_always_ready (g.A.Authenticator.may_answer l.auth) →
      Talking q l.initial.state (g.E.Edge.view l.initial.edge) (g.D.Desk.view l.initial.desk) (g.C.Source.sending l.initial.control).sent [] [] (g.C.Source.left l.initial.control) →
      (hs : List HeardLine)
      × HearsLines (g.X.Extras.may l.initial.extras) (g.X.Extras.pending l.initial.extras) (g.X.Extras.may l.extras) (g.X.Extras.pending l.extras) hs
      × Talking q l.state (g.E.Edge.view l.edge) (g.D.Desk.view l.desk) (g.C.Source.sending l.control).sent hs (held_in l.buffer.items l.held) (g.C.Source.left l.control);
  count : g.C.Source.faults l.initial.control ≤ g.C.Source.faults l.control;
  extras_count : g.X.Extras.faults l.initial.extras ≤ g.X.Extras.faults l.extras;
}
