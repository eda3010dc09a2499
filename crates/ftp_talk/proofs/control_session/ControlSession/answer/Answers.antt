use Rattle.std.proofs.Common.{ℕ, [], subst, ◌∙◌, inr, arith, refl}
use Rattle.ftp_base.specs.Outside.{Writes}
use Rattle.ftp_talk.specs.Parts.{epsv_port}
use Rattle.ftp_talk.specs.Pieces.{said_pieces, piece_text, piece_delays, SaysPieces}
use Rattle.ftp_talk.specs.Saying.{IsPaused}
use Rattle.ftp_talk.proofs.PieceLemmas.{pieces-none}
use Rattle.ftp_control.proofs.WritingLemmas.{front-none}
use Rattle.ftp_talk.specs.Ground.{history}
use Rattle.ftp_talk.proofs.TalkLemmas.{spoken-is, front-after}
use Rattle.ftp_talk.proofs.control_session.ControlSession.answer.Goals as goal

pub returns-in_default-clause-spoke : goal.returns-in_default-clause-spoke
returns-in_default-clause-spoke g c = λ q ts pieces step vouches before desk0 desk kind same a n.
    let told = c.args.told.now in
    let e = told.entry in
    inr (record {
      earlier = told.earlier;
      entry = e;
      kind = n.kind;
      answer = n.answer;
      front = front-after q vouches c.args.self.now c.learn.new.self before (g.E.Edge.view c.args.edge.now) (g.E.Edge.view c.args.edge.now)
          desk0 desk (g.C.Source.sending c.args.control.now).sent (g.C.Source.sending c.args.control.now).sent
          ts pieces (said_pieces q.session (epsv_port c.args.is_epsv e.decision) told.earlier e.actions) step told.earlier e kind a same n (omega arith) c.learn.ensures.session c.learn.ensures.over
          (pieces-none _ _ _ _ [] _ (front-none _ []) refl);
    })

pub returns-in-Ok-say_for-clause-spoke : goal.returns-in-Ok-say_for-clause-spoke
returns-in-Ok-say_for-clause-spoke g c = λ q ts pieces step vouches before desk0 desk kind same a n.
    let told = c.args.told.now in
    let e = told.entry in
    let w = c.in-Ok.ensures.learnt q (history q ts) a.known in
    let session = c.learn.ensures.session ∙ a.known.session in
    record {
      earlier = told.earlier;
      entry = e;
      kind = n.kind;
      answer = n.answer;
      decision = refl;
      speaking =
          spoken-is q vouches c.args.self.now _ before (g.E.Edge.view c.args.edge.now) (g.E.Edge.view c.say_for.new.edge)
          desk0 desk (g.C.Source.sending c.args.control.now).sent (g.C.Source.sending c.say_for.new.link).sent
          ts pieces (said_pieces q.session (epsv_port c.args.is_epsv e.decision) told.earlier e.actions) step told.earlier e kind a same n c.in-Ok-say_for.ensures.calls.edge
          (record { session = w.session; raw = w.raw; client = w.client; host = w.host; range = w.range; active = w.active; login = w.login; name = w.name; cwd = w.cwd })
          c.learn.ensures.over
          (subst (λ (s : ℕ). Writes (g.C.Source.sending c.args.control.now).sent (g.C.Source.sending c.say_for.new.link).sent (piece_text (said_pieces s (epsv_port c.args.is_epsv e.decision) told.earlier e.actions))) session (rw (c.epsv_port-port.ensures, c.as_slice.ensures, c.as_slice-2.ensures) at c.in-Ok-say_for.ensures.wrote))
          (subst (λ (s : ℕ). IsPaused (piece_delays (said_pieces s (epsv_port c.args.is_epsv e.decision) told.earlier e.actions)) (g.E.Edge.view c.args.edge.now).paused (g.E.Edge.view c.say_for.new.edge).paused) session (rw (c.epsv_port-port.ensures, c.as_slice.ensures, c.as_slice-2.ensures) at c.in-Ok-say_for.ensures.paused));
    }

pub returns-in-Err-clause-spoke : goal.returns-in-Err-clause-spoke
returns-in-Err-clause-spoke g c = λ q ts pieces step vouches before desk0 desk kind same a n.
    let told = c.args.told.now in
    let e = told.entry in
    let session = c.learn.ensures.session ∙ a.known.session in
    inr (record {
      earlier = told.earlier;
      entry = e;
      kind = n.kind;
      answer = n.answer;
      front = front-after q vouches c.args.self.now _ before (g.E.Edge.view c.args.edge.now) (g.E.Edge.view c.say_for.new.edge)
          desk0 desk (g.C.Source.sending c.args.control.now).sent (g.C.Source.sending c.say_for.new.link).sent
          ts pieces (said_pieces q.session (epsv_port c.args.is_epsv e.decision) told.earlier e.actions) step told.earlier e kind a same n c.in-Err.ensures.calls.edge.count c.learn.ensures.session c.learn.ensures.over
          (subst (λ (s : ℕ). SaysPieces (g.C.Source.sending c.args.control.now).sent (g.C.Source.sending c.say_for.new.link).sent (g.E.Edge.view c.args.edge.now).paused (g.E.Edge.view c.say_for.new.edge).paused [] (said_pieces s (epsv_port c.args.is_epsv e.decision) told.earlier e.actions)) session (rw (c.epsv_port-port.ensures, c.as_slice.ensures, c.as_slice-2.ensures) at c.in-Err.ensures.front));
    })
