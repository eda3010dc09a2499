use Rattle.std.proofs.Common.{◌≡◌, ◌∙◌, ℕ, List, ◌++◌, Option, length, take, drop, ap, sym, subst, arith}
use Rattle.std.proofs.lemmas.List.{take-append-le, take_all}
use Rattle.ftp_control.specs.ControlLine.{IsHeld, held_in}
use Rattle.ftp_base.specs.Edge.{EdgeView}
use Rattle.ftp_shared.specs.Desk.{DeskView}
use Rattle.ftp_talk.specs.declared.control_session.ControlSession.{ControlSession}
use Rattle.ftp_talk.specs.Extended.{TalkFrontHeard, TalkFrontWith}
use Rattle.ftp_talk.specs.Ground.{Ground}
use Rattle.ftp_talk.specs.Parts.{HeardLine, MayDoSo}
use Rattle.ftp_talk.specs.Speaking.{HearsLines, IsCut, Talking}
use Rattle.ftp_talk.proofs.ServeLemmas.{cut-here}
use Rattle.ftp_talk.proofs.serve.serve_lines.Goals as goal

-- what was written to all of a buffer is the buffer afterwards
written_back : (n : ℕ) (xs ys : List ℕ) → length xs ≡ n → take n (xs ++ ys) ≡ xs
written_back n xs ys len = take-append-le n xs ys (omega (arith, len)) ∙ take_all n xs (omega (arith, len))

-- a talk is left between two lines
left-lines : (g : Ground) (state : ControlSession) (edge edge1 : EdgeView) (desk desk1 : DeskView) (sent left : Option (List ℕ)) (held : List ℕ) (may0 may : MayDoSo) (first pending : Option (List ℕ)) →
    ((hs : List HeardLine) → IsCut g state edge desk sent hs → TalkFrontHeard g edge1 desk1 sent hs) →
    (hs : List HeardLine) × HearsLines may0 first may pending hs × Talking g state edge desk sent hs held left → TalkFrontWith may0 first g edge1 desk1 sent
left-lines g state edge edge1 desk desk1 sent left held may0 may first pending leave t = (t.0, t.1.allowed, leave t.0 (cut-here g state edge desk sent _ t.0 _ t.2.standing))

pub returns-then-is_err-clause-ended : goal.returns-then-is_err-clause-ended
returns-then-is_err-clause-ended g c = λ q is first.
    left-lines q c.loop.state _ _ _ _ _ _ _ _ _ _ _ (λ hs. c.leave.ensures q hs (g.C.Source.sending c.loop.control).sent is.about) (c.loop.invariant.talking q is first)

pub returns-clause-ended : goal.returns-clause-ended
returns-clause-ended g c = λ q is first.
    left-lines q c.loop.state _ _ _ _ _ _ _ _ _ _ _ (λ hs. c.leave-2.ensures q hs (g.C.Source.sending c.loop.control).sent is.about) (c.loop.invariant.talking q is first)

pub returns-in-Some-clause-ended : goal.returns-in-Some-clause-ended
returns-in-Some-clause-ended g c = λ q is first.
    let t = c.loop.invariant.talking q is first in
    let before : held_in c.as_mut_slice-bytes.result.now c.loop.held ≡ held_in c.loop.buffer.items c.loop.held =
    ap (λ (x : List ℕ). held_in x c.loop.held) c.as_mut_slice-bytes.ensures.value ∙ c.widen.ensures.same in
    c.in-Some.ensures.ended q c.args.extras.now t.0 is t.1
    (subst (λ (x : List ℕ). Talking q c.loop.state (g.E.Edge.view c.loop.edge) (g.D.Desk.view c.loop.desk) (g.C.Source.sending c.loop.control).sent t.0 x (g.C.Source.left c.loop.control)) (sym before) t.2)

pub loop-preserved : goal.loop-preserved
loop-preserved g c =
    let back =
    written_back c.widen.new.buffer.len c.serve_next.new.buffer (drop (length c.serve_next.new.buffer) c.widen.new.buffer.items)
    (c.serve_next.ensures.len ∙ c.as_mut_slice-bytes.ensures.len) in
    let before : held_in c.as_mut_slice-bytes.result.now c.loop.held ≡ held_in c.loop.buffer.items c.loop.held =
    ap (λ (x : List ℕ). held_in x c.loop.held) c.as_mut_slice-bytes.ensures.value ∙ c.widen.ensures.same in
    record {
      held = subst (λ (x : List ℕ). IsHeld x c.serve_next.new.held) (sym back) c.serve_next.ensures.held;
      room = omega (arith, ap length back, c.serve_next.ensures.len, ap length c.as_mut_slice-bytes.ensures.value, c.widen.ensures.room);
      talking = λ q is first.
          let t = c.loop.invariant.talking q is first in
          let next =
          c.in_default.ensures.goes_on q c.args.extras.now t.0 is t.1
          (subst (λ (x : List ℕ). Talking q c.loop.state (g.E.Edge.view c.loop.edge) (g.D.Desk.view c.loop.desk) (g.C.Source.sending c.loop.control).sent t.0 x (g.C.Source.left c.loop.control)) (sym before) t.2) in (
            next.0,
            next.1,
            subst (λ (x : List ℕ). Talking q c.serve_next.new.self (g.E.Edge.view c.serve_next.new.edge) (g.D.Desk.view c.serve_next.new.desk) (g.C.Source.sending c.serve_next.new.control).sent next.0 (held_in x c.serve_next.new.held) (g.C.Source.left c.serve_next.new.control)) (sym back) next.2,
          );
      count = omega arith;
      extras_count = omega arith;
    }
