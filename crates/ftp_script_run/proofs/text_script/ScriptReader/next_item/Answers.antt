use Rattle.std.proofs.Common.{◌+◌, ◌-◌, refl, arith}
use Rattle.ftp_control.specs.Lines.{bytes_in}
use Rattle.ftp_control.proofs.LineLemmas.{length-bytes_in}
use Rattle.ftp_script_run.proofs.ScriptLemmas.{end_told, fault_told, long_told, bad_told, more_told, ahead_told}
use Rattle.ftp_script_run.proofs.text_script.ScriptReader.next_item.Goals as goal

pub returns-in-End-clause-told : goal.returns-in-End-clause-told
returns-in-End-clause-told g c =
    λ before all h set. end_told before all c.args.self.now c.args.buffer.now (bytes_in c.advance.new.buffer c.advance.new.held) (g.S.Source.left c.args.source.now) (g.S.Source.left c.advance.new.source) h c.in-End.ensures.told

pub returns-in-Fault-clause-told : goal.returns-in-Fault-clause-told
returns-in-Fault-clause-told g c =
    λ before all h set. fault_told before all c.args.self.now c.args.buffer.now (bytes_in c.advance.new.buffer c.advance.new.held) (g.S.Source.left c.args.source.now) (g.S.Source.left c.advance.new.source)
    (omega (arith, length-bytes_in c.advance.new.buffer c.advance.new.held.start c.advance.new.held.end c.advance.ensures.within.0 c.advance.ensures.within.1))
    h c.in-Fault.ensures.told

pub returns-in-Long-clause-told : goal.returns-in-Long-clause-told
returns-in-Long-clause-told g c =
    λ before all h set. long_told before all c.args.self.now c.args.buffer.now (g.S.Source.left c.args.source.now) (c.args.self.now.number + 1) h c.in-Long.ensures.told refl

pub returns-in-Ok-clause-told : goal.returns-in-Ok-clause-told
returns-in-Ok-clause-told g c =
    λ before all h set.
    more_told before all c.args.self.now
    (record {
      admission = c.line.new.self;
      held = c.advance.new.held;
      taken = c.args.self.now.taken + (c.advance.new.held.start - c.in-Line.line.start);
      number = c.args.self.now.number + 1;
    })
    c.args.buffer.now (g.S.Source.left c.args.source.now) c.in-Line.line c.advance.new.buffer (g.S.Source.left c.advance.new.source) (c.advance.new.held.start - c.in-Line.line.start) c.in-Ok.item h c.in-Line.ensures.told c.in-Line.ensures.taken refl refl
    (c.in-Ok.ensures.let_in before h.known set)

pub returns-in-Ok-clause-let_in : goal.returns-in-Ok-clause-let_in
returns-in-Ok-clause-let_in g c =
    λ before known set.
    let given = c.in-Ok.ensures.let_in before known set in (given.0.stands, given.1)

pub returns-in-Ok-clause-lawful : goal.returns-in-Ok-clause-lawful
returns-in-Ok-clause-lawful g c = record {
  len = c.in-Line.ensures.len;
  within = c.in-Line.ensures.within;
  number = omega (arith, c.in-Line.ensures.line, c.requires.lawful.number);
  small = c.in-Ok.ensures.limit;
}

pub returns-in-Err-Bad-clause-told : goal.returns-in-Err-Bad-clause-told
returns-in-Err-Bad-clause-told g c =
    λ before all h set.
    let bad = rw c.in-Err-Bad.field-0-is at (c.in-Err-Bad.ensures.let_in before h.known set) in
    bad_told before all c.args.self.now c.args.buffer.now (g.S.Source.left c.args.source.now) c.in-Line.line c.advance.new.buffer (bytes_in c.advance.new.buffer c.advance.new.held) (g.S.Source.left c.advance.new.source) (c.advance.new.held.start - c.in-Line.line.start)
    (c.args.self.now.taken + (c.advance.new.held.start - c.in-Line.line.start)) (c.args.self.now.number + 1) h c.in-Line.ensures.told c.in-Line.ensures.taken refl bad.0 refl

pub returns-in-End-clause-ahead : goal.returns-in-End-clause-ahead
returns-in-End-clause-ahead g c = λ before all h. ahead_told h c.in-End.ensures.ahead

pub returns-in-Fault-clause-ahead : goal.returns-in-Fault-clause-ahead
returns-in-Fault-clause-ahead g c = λ before all h. ahead_told h c.in-Fault.ensures.ahead

pub returns-in-Long-clause-ahead : goal.returns-in-Long-clause-ahead
returns-in-Long-clause-ahead g c = λ before all h. ahead_told h c.in-Long.ensures.ahead

pub returns-in-Ok-clause-ahead : goal.returns-in-Ok-clause-ahead
returns-in-Ok-clause-ahead g c = λ before all h. ahead_told h c.in-Line.ensures.ahead

pub returns-in-Err-Bad-clause-ahead : goal.returns-in-Err-Bad-clause-ahead
returns-in-Err-Bad-clause-ahead g c = λ before all h. ahead_told h c.in-Line.ensures.ahead

pub returns-in-Err-Memory-clause-ahead : goal.returns-in-Err-Memory-clause-ahead
returns-in-Err-Memory-clause-ahead g c = λ before all h. ahead_told h c.in-Line.ensures.ahead
