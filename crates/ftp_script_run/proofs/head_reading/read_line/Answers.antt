use Rattle.std.proofs.Common.{◌++◌, arith}
use Rattle.std.proofs.lemmas.Option.{IfSome_then}
use Rattle.ftp_control.specs.Lines.{bytes_in}
use Rattle.ftp_script_run.proofs.HeadLemmas.{feed-found, feed-none, line-ends, line-last, line-no_feed, line-on}
use Rattle.ftp_script_run.proofs.head_reading.read_line.Goals as goal

pub returns-in-Some-clause-told : goal.returns-in-Some-clause-told
returns-in-Some-clause-told g c =
    let held = c.loop-end.held in
    let found = feed-found (bytes_in c.loop-end.buffer held) c.in-Some.end c.in-Some.ensures in
    IfSome_then (g.S.Source.left c.args.source.now) c.loop-end.invariant.told
    (λ l rest. line-ends (bytes_in c.args.buffer.now c.args.held.now ++ l) c.loop-end.line.items c.extend_from_slice.new.self.items c.loop-end.buffer held.start held.end c.in-Some.end (g.S.Source.left c.loop-end.source)
    c.loop-end.invariant.within.0 c.loop-end.invariant.within.1 c.loop-end.invariant.none found.1 found.0 rest c.in_ok-extend_from_slice.ensures.items)

pub returns-then-held-eq0-clause-told : goal.returns-then-held-eq0-clause-told
returns-then-held-eq0-clause-told g c =
    let held = bytes_in c.loop-end.buffer c.loop-end.held in
    let grown = c.extend_from_slice-in-loop-end.new.self in
    IfSome_then (g.S.Source.left c.args.source.now) c.loop-end.invariant.told
    (λ l rest. line-last (bytes_in c.args.buffer.now c.args.held.now ++ l) c.loop-end.line.items held grown.items c.read.new.out c.is_empty.result c.in-Ok.n _ (g.S.Source.left c.loop-end.source) (g.S.Source.left c.read.new.self)
    (line-no_feed c.loop-end.line.items held grown.items c.loop-end.invariant.none (feed-none held c.in_default.ensures) c.in_ok-extend_from_slice-2.ensures.items)
    rest c.in_ok-extend_from_slice-2.ensures.items c.in-Ok.ensures.read (omega arith) (omega arith) c.is_empty.ensures (omega arith))

pub loop-end-preserved : goal.loop-end-preserved
loop-end-preserved g c =
    let held = bytes_in c.loop-end.buffer c.loop-end.held in
    let grown = c.extend_from_slice-in-loop-end.new.self in
    record {
      len = omega arith;
      within = (omega arith, c.in-Ok.ensures.within);
      none = line-no_feed c.loop-end.line.items held grown.items c.loop-end.invariant.none (feed-none held c.in_default.ensures) c.in_ok-extend_from_slice-2.ensures.items;
      told =
          IfSome_then (g.S.Source.left c.args.source.now) c.loop-end.invariant.told
          (λ l rest. line-on (bytes_in c.args.buffer.now c.args.held.now ++ l) c.loop-end.line.items held grown.items c.read.new.out c.in-Ok.n (g.S.Source.left c.loop-end.source) (g.S.Source.left c.read.new.self)
          rest c.in_ok-extend_from_slice-2.ensures.items c.in-Ok.ensures.read);
      count = omega arith;
    }
