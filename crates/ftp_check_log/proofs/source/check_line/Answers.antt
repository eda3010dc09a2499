use Rattle.std.proofs.Common.{◌<◌, ℕ, List, length, sym, ap, subst, ◌∙◌, arith}
use Rattle.std.specs.Prelude.{Err}
use Rattle.std.proofs.lemmas.Bool.{eqb-true}
use Rattle.std.proofs.lemmas.Bool.Decides.{nat_tests}
use Rattle.std.proofs.lemmas.List.{nil_from_length}
use Rattle.ftp_text.specs.declared.fault.LineFault.{LineFault}
use Rattle.ftp_text.specs.declared.line.LogLine.{LogLine}
use Rattle.ftp_text.specs.Place.{HasRead}
use Rattle.ftp_text.specs.LogText.{IsFirstBad}
use Rattle.ftp_check_log.specs.Pending.{unread}
use Rattle.ftp_check_log.proofs.SourceLemmas.{taken-as, taken-fits, goes-on, comes-to, further, end-reads, bad-reads}
use Rattle.ftp_check_log.proofs.source.check_line.Goals as goal

pub returns-then-is_empty-clause-ended : goal.returns-then-is_empty-clause-ended
returns-then-is_empty-clause-ended c =
    let nil = nil_from_length c.unread-bytes.result.now (eqb-true _ _ (sym c.is_empty.ensures ∙ c.if-is_empty.true)) in
    end-reads c.args.checker.now c.end.result c.end.ensures (unread c.args.pending.now) (sym c.unread-bytes.ensures ∙ nil)

pub take-requires : goal.take-requires
take-requires c =
    let reads = c.requires.reads in
    taken-fits reads.0 reads.1 c.args.checker.now c.read.new.self (unread c.args.pending.now) c.in-Ok.behind.now c.in-Ok.line reads.2
    (taken-as c.unread-bytes.result.now (unread c.args.pending.now) c.in-Ok.behind.now c.in-Ok.line c.args.checker.now.place c.read.new.self c.unread-bytes.ensures c.in-Ok.ensures.line)

pub returns-in-Ok-take-clause-goes_on : goal.returns-in-Ok-take-clause-goes_on
returns-in-Ok-take-clause-goes_on c =
    let held = unread c.args.pending.now in
    goes-on c.in-Ok-take.ended c.args.checker.now c.take.new.self c.read.new.self held c.in-Ok.behind.now (unread c.take_to.new.self) c.in-Ok.line
    (taken-as c.unread-bytes.result.now held c.in-Ok.behind.now c.in-Ok.line c.args.checker.now.place c.read.new.self c.unread-bytes.ensures c.in-Ok.ensures.line)
    c.in-Ok-take.ensures.taken c.take.ensures.place c.take_to.ensures.rest

pub returns-in-Ok-take-clause-ended : goal.returns-in-Ok-take-clause-ended
returns-in-Ok-take-clause-ended c =
    let held = unread c.args.pending.now in
    comes-to c.in-Ok-take.ended c.args.checker.now c.take.new.self c.read.new.self held c.in-Ok.behind.now c.in-Ok.line
    (taken-as c.unread-bytes.result.now held c.in-Ok.behind.now c.in-Ok.line c.args.checker.now.place c.read.new.self c.unread-bytes.ensures c.in-Ok.ensures.line)
    c.in-Ok-take.ensures.taken

pub returns-in-Ok-take-clause-moved : goal.returns-in-Ok-take-clause-moved
returns-in-Ok-take-clause-moved c =
    let held = unread c.args.pending.now in
    further c.in-Ok-take.ended c.args.checker.now c.take.new.self c.read.new.self held c.in-Ok.behind.now c.in-Ok.line c.requires.reads
    (taken-as c.unread-bytes.result.now held c.in-Ok.behind.now c.in-Ok.line c.args.checker.now.place c.read.new.self c.unread-bytes.ensures c.in-Ok.ensures.line)
    c.take.ensures.place

pub returns-in-Err-Bad-clause-ended : goal.returns-in-Err-Bad-clause-ended
returns-in-Err-Bad-clause-ended c =
    let held = unread c.args.pending.now in
    let is = c.in-Err-Bad.is ∙ ap (λ (f : LineFault). Err f) c.in-Err-Bad.field-0-is in
    let some : 0 < length c.unread-bytes.result.now = grind (arith, nat_tests, c.is_empty.ensures, c.if-is_empty.false) in
    bad-reads c.args.checker.now held c.read.new.self.lines (subst (λ (b : List ℕ). 0 < length b) c.unread-bytes.ensures some)
    (subst (λ (b : List ℕ). (before : List LogLine) (all : List ℕ) → HasRead before all b c.args.checker.now.place → IsFirstBad c.read.new.self.lines before b) c.unread-bytes.ensures
    (λ before all read. c.read.ensures.bad before all read is))
