use Rattle.std.proofs.Common.{Some, refl, sym, ◌∙◌}
use Rattle.std.proofs.lemmas.Bool.{false≢true}
use Rattle.ftp_text.specs.declared.line.LogLine.TheVariants as says
use Rattle.ftp_check_log.proofs.CheckLemmas.{told-count, takes-decision, tells-decision}
use Rattle.ftp_check_log.proofs.checker.Checker.compare.Goals as goal

pub returns-then-not-is_same_decision-clause-compared : goal.returns-then-not-is_same_decision-clause-compared
returns-then-not-is_same_decision-clause-compared c =
    let it = record c.args.self.now { event = Some c.args.event } in
    told-count (says.Decision c.args.decision) c.events-entries.result c.step-entry.result.decision it (record c.args.self.now { hub = c.step-entry.new.self }) c.events-entries.ensures
    (tells-decision it c.step-entry.new.self c.args.decision c.args.event c.step-entry.result refl c.step-entry.ensures.event c.step-entry.ensures.answer
    (λ same. false≢true (sym c.if-not-is_same_decision.true ∙ c.is_same_decision.ensures.1 same)) c.step-entry.ensures.options c.step-entry.ensures.stands)

pub returns-clause-compared : goal.returns-clause-compared
returns-clause-compared c =
    let it = c.args.self.now in
    takes-decision (record it { event = Some c.args.event }) (record it { hub = c.step-entry.new.self; log = c.keep.new.log; due = c.step-entry.result.actions; came = 0 }) c.args.decision c.args.event c.step-entry.result refl c.step-entry.ensures.event
    c.step-entry.ensures.answer
    (c.is_same_decision.ensures.0 c.if-not-is_same_decision.false)
    c.step-entry.ensures.options c.step-entry.ensures.count c.step-entry.ensures.stands refl refl refl c.in_default.ensures
