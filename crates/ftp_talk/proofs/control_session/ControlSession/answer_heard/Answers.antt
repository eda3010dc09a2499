use Rattle.std.proofs.Common.{ap, inl, inr, sym, subst, ◌∙◌}
use Rattle.ftp_base.specs.Outside.{Writes}
use Rattle.ftp_control.specs.Writing.{WritesFront}
use Rattle.ftp_talk.specs.Ground.{ALine}
use Rattle.ftp_talk.specs.Parts.{lines_said}
use Rattle.ftp_talk.proofs.HeardLemmas.{heard-cut, heard-ended, heard-err, heard-part, heard-said, taken}
use Rattle.ftp_talk.proofs.ServeLemmas.{cut-standing}
use Rattle.ftp_talk.proofs.control_session.ControlSession.answer_heard.Goals as goal

pub returns-in_default-clause-served : goal.returns-in_default-clause-served
returns-in_default-clause-served g c = λ q hs x rest about s hearing says read.
    inl (cut-standing q c.args.self.now _ _ _ _ _ _ hs _ s c.ask_heard.ensures.edge c.ask_heard.ensures.desk)

pub returns-in_err-decision-clause-served : goal.returns-in_err-decision-clause-served
returns-in_err-decision-clause-served g c = λ q hs x rest about s hearing says read.
    let t = taken q c.args.self.now _ _ _ _ _ x c.in-Ok.kind _ hs rest _ s hearing says c.is_epsv_line-is_epsv.ensures (c.in-Ok.ensures.asked q _ _ _ x.line about.1 s.speaking read) in
    heard-err c.from_residual.result q _ _ _ _ hs x rest c.from_residual.ensures.0
    (heard-cut q _ _ _ _ x _ hs rest t (c.in_err-decision.ensures.spoke q _ _ (ALine x.line) about.0 t.asking))

pub returns-then-is_end-clause-served : goal.returns-then-is_end-clause-served
returns-then-is_end-clause-served g c = λ q hs x rest about s hearing says read.
    let t = taken q c.args.self.now _ _ _ _ _ x c.in-Ok.kind _ hs rest _ s hearing says c.is_epsv_line-is_epsv.ensures (c.in-Ok.ensures.asked q _ _ _ x.line about.1 s.speaking read) in
    heard-ended q _ _ _ _ x _ c.in_ok-decision.decision hs rest t (c.in_ok-decision.ensures.spoke q _ _ (ALine x.line) about.0 t.asking)
    (sym c.is_end.ensures ∙ c.if-is_end.true)

pub returns-in-Ok-write_all-clause-served : goal.returns-in-Ok-write_all-clause-served
returns-in-Ok-write_all-clause-served g c = λ q hs x rest about s hearing says read.
    let t = taken q c.args.self.now _ _ _ _ _ x c.in-Ok.kind _ hs rest _ s hearing says c.is_epsv_line-is_epsv.ensures (c.in-Ok.ensures.asked q _ _ _ x.line about.1 s.speaking read) in
    let wrote = subst (Writes _ _) (c.as_slice.ensures ∙ c.in-Ok.ensures.lines ∙ ap lines_said (sym says)) c.in-Ok-write_all.ensures.wrote in
    heard-said q _ _ _ _ _ x _ c.in_ok-decision.decision hs rest t (c.in_ok-decision.ensures.spoke q _ _ (ALine x.line) about.0 t.asking)
    (sym c.is_end.ensures ∙ c.if-is_end.false) wrote

pub returns-clause-served : goal.returns-clause-served
returns-clause-served g c = λ q hs x rest about s hearing says read.
    let t = taken q c.args.self.now _ _ _ _ _ x c.in-Ok.kind _ hs rest _ s hearing says c.is_epsv_line-is_epsv.ensures (c.in-Ok.ensures.asked q _ _ _ x.line about.1 s.speaking read) in
    let part = subst (WritesFront _ _) (c.as_slice.ensures ∙ c.in-Ok.ensures.lines ∙ ap lines_said (sym says)) c.in-Err.ensures.front in
    inr (heard-part q _ _ _ _ _ x _ c.in_ok-decision.decision hs rest t (c.in_ok-decision.ensures.spoke q _ _ (ALine x.line) about.0 t.asking)
    (sym c.is_end.ensures ∙ c.if-is_end.false) part)
