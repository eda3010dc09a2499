use Rattle.std.proofs.Common.{sym, ap, refl, ◌∙◌}
use Rattle.std.specs.Prelude.{Ok}
use Rattle.ftp_control.specs.declared.command.Command.TheVariants.{Other}
use Rattle.ftp_control.specs.declared.line.LineError.TheVariants.{Utf8, InvalidEol}
use Rattle.ftp_talk.specs.declared.serving.Next.TheVariants.{Close, GoOn}
use Rattle.ftp_talk.specs.Ground.{ALine}
use Rattle.ftp_talk.proofs.HeardLemmas.{served-kept}
use Rattle.ftp_talk.proofs.ServeLemmas.{cut-here, refuses}
use Rattle.ftp_talk.proofs.control_session.ControlSession.serve_line.Goals as goal

pub returns-in-Err-OutOfMemory-clause-served : goal.returns-in-Err-OutOfMemory-clause-served
returns-in-Err-OutOfMemory-clause-served g c = λ q x0 hs rest about answers hears s is_line. (hs, hears.allowed, tt, cut-here q c.args.self.now _ _ _ _ hs _ s)

pub returns-in-Pass-clause-served : goal.returns-in-Pass-clause-served
returns-in-Pass-clause-served g c = λ q x0 hs rest about answers hears s is_line.
    served-kept q _ _ _ _ rest c.serve_password.result _ _ _ _ hs hears
    (c.serve_password.ensures.served q hs c.args.line.now rest about answers s is_line (sym c.in-Ok.ensures ∙ ap Ok c.in-Pass.is))

pub returns-in_default-clause-served : goal.returns-in_default-clause-served
returns-in_default-clause-served g c = λ q x0 hs rest about answers hears s is_line.
    c.serve_heard.ensures.served q x0 hs rest about hears s is_line (sym c.in-Ok.ensures)

pub returns-in-Err-Utf8-clause-served : goal.returns-in-Err-Utf8-clause-served
returns-in-Err-Utf8-clause-served g c = λ q x0 hs rest about answers hears s is_line.
    served-kept q _ _ _ _ rest c.refuse.result _ _ _ _ hs hears
    (c.refuse.ensures.served q hs (ALine c.args.line.now) rest about s
    (refuses q c.args.self.now c.args.line.now Utf8 Close _ rest is_line (sym (rw c.in-Err-Utf8.field-0-is at c.in-Err-Utf8.ensures)) refl (λ d. refl) c.refused_as-kind.ensures.kind))

pub returns-in-Err-InvalidEol-clause-served : goal.returns-in-Err-InvalidEol-clause-served
returns-in-Err-InvalidEol-clause-served g c = λ q x0 hs rest about answers hears s is_line.
    served-kept q _ _ _ _ rest c.refuse-in-Err-InvalidEol.result _ _ _ _ hs hears
    (c.refuse-in-Err-InvalidEol.ensures.served q hs (ALine c.args.line.now) rest about s
    (refuses q c.args.self.now c.args.line.now InvalidEol GoOn _ rest is_line (sym (rw c.in-Err-InvalidEol.field-0-is at c.in-Err-InvalidEol.ensures)) refl (λ d. refl) c.refused_as-kind-in-Err-InvalidEol.ensures.kind))

pub returns-in-Ok-from_slice-clause-served : goal.returns-in-Ok-from_slice-clause-served
returns-in-Ok-from_slice-clause-served g c = λ q x0 hs rest about answers hears s is_line.
    let same = sym (rw c.in-Err-InvalidCommand.field-0-is at c.in-Err-InvalidCommand.ensures) in
    let word = c.in-Ok-from_slice.ensures ∙ c.cut_word.ensures.word in
    c.serve_heard-in-Err-InvalidCommand.ensures.served q x0 hs rest about hears s is_line (same, ap Other word)

pub returns-in_default-from_slice-clause-served : goal.returns-in_default-from_slice-clause-served
returns-in_default-from_slice-clause-served g c = λ q x0 hs rest about answers hears s is_line. (hs, hears.allowed, tt, cut-here q c.args.self.now _ _ _ _ hs _ s)
