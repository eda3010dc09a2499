use Rattle.std.proofs.Common.{◌≡◌, ◌∙◌, sym, ap, ap₂, subst, ℕ, ◌+◌, List, ◌∷◌, ◌++◌, length, take, reverse, arith}
use Rattle.std.specs.List.{flat_map}
use Rattle.std.proofs.Math.Seq.{take-length}
use Rattle.std.proofs.lemmas.List.{reverse-reverse}
use Rattle.ftp_events.specs.declared.entry.Entry.{Entry}
use Rattle.ftp_events.specs.Right.{IsRight, IsActed}
use Rattle.ftp_audit.specs.declared.line.LogForm.{LogForm}
use Rattle.ftp_audit.specs.Forms.{log_line_text}
use Rattle.ftp_audit.specs.Written.{lines_on, told_lines}
use Rattle.ftp_audit.proofs.TakenLemmas.{IsSoFar, acted-front, one-more, right-front, so-far-more}
use Rattle.ftp_audit.proofs.server_log.log_text.Goals as goal

pub loop-entry-init : goal.loop-entry-init
loop-entry-init c = (
  c.new-taken.ensures.form,
  c.new-taken.ensures.start,
  λ o r a. record { known = c.new-taken.ensures.taken o; told = c.new-text.ensures.items },
)

pub loop-entry-preserved : goal.loop-entry-preserved
loop-entry-preserved c =
    let items : List Entry = c.as_slice-entry-items.result.now in
    let i : ℕ = c.loop-entry.entry-index in
    let e : Entry = c.entry-item.result in
    let log : List Entry = reverse (take i items) in
    let more : reverse (take (i + 1) items) ≡ e ∷ log = one-more items i e c.loop-entry-test.true (sym c.entry-item.is) in (
      c.in_ok-take.ensures.form ∙ c.loop-entry.invariant.0,
      c.in_ok-take.ensures.start ∙ c.loop-entry.invariant.1,
      λ o r a.
          let so = c.loop-entry.invariant.2 o r a in
          let right : IsRight o (e ∷ log) = subst (IsRight o) more (right-front o items (i + 1) r) in
          let acted : IsActed o (e ∷ log) = subst (IsActed o) more (acted-front o items (i + 1) a) in
          subst (IsSoFar o c.args.form c.args.start c.take.new.self c.take.new.out.items) (sym more)
          (so-far-more o c.args.form c.args.start c.loop-entry.taken c.take.new.self c.loop-entry.text.items c.take.new.out.items log e so (c.in_ok-take.ensures.taken o log so.known right acted)
          (c.in_ok-take.ensures.told o log so.known
          ∙ ap₂ (λ (f : LogForm) (n : ℕ). c.loop-entry.text.items ++ flat_map (log_line_text f n) (lines_on o log e)) c.loop-entry.invariant.0 c.loop-entry.invariant.1)),
    )

pub returns : goal.returns
returns c = λ o r a.
    let items : List Entry = c.as_slice-entry-items.result.now in
    let all : c.loop-entry.entry-index ≡ length items = omega (arith, c.loop-entry.auto.entry-index-end, c.loop-entry-test.false) in
    let whole : reverse items ≡ c.args.log.now.entries = ap reverse c.as_slice-entry-items.ensures ∙ reverse-reverse c.args.log.now.entries in
    let so = c.loop-entry.invariant.2 o (subst (IsRight o) (sym whole) r) (subst (IsActed o) (sym whole) a) in
    c.from_vec.ensures
    ∙ (so.told
    ∙ ap (λ (log : List Entry). flat_map (log_line_text c.args.form c.args.start) (told_lines o log)) (ap (λ (k : ℕ). reverse (take k items)) all ∙ (ap reverse (take-length items) ∙ whole)))
