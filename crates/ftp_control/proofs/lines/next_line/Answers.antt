use Rattle.std.proofs.Common.{◌+◌, ◌-◌, ◌++◌, ◌∙◌, refl, length, arith}
use Rattle.std.proofs.lemmas.Option.{IfSome_then}
use Rattle.ftp_control.specs.Lines.{bytes_in}
use Rattle.ftp_control.proofs.LineLemmas.{length-bytes_in, found_told, long_told, scanned_on, rest_on, found_taken, held_taken, held_taken-end}
use Rattle.ftp_control.proofs.lines.next_line.Goals as goal

pub returns-in-Some-clause-told : goal.returns-in-Some-clause-told
returns-in-Some-clause-told g c =
    IfSome_then (g.S.Source.left c.args.source.now) c.loop-i.invariant.told
    (λ l rest. found_told c.loop-i.buffer c.loop-i.held.start c.loop-i.held.end c.in-Some.i (length c.args.buffer.now - 1) (g.S.Source.left c.loop-i.source) (bytes_in c.args.buffer.now c.args.held.now ++ l)
    c.loop-i.invariant.within.0 c.loop-i.invariant.within.1 (omega arith) c.in-Some.ensures.1 c.in-Some.ensures.0 rest)

pub returns-then-scanned-buffer-clause-told : goal.returns-then-scanned-buffer-clause-told
returns-then-scanned-buffer-clause-told g c =
    let len = length-bytes_in c.loop-i.buffer c.loop-i.held.start c.loop-i.held.end c.loop-i.invariant.within.0 c.loop-i.invariant.within.1 in
    IfSome_then (g.S.Source.left c.args.source.now) c.loop-i.invariant.told
    (λ l rest. long_told (bytes_in c.loop-i.buffer c.loop-i.held) (length c.args.buffer.now - 1) (g.S.Source.left c.loop-i.source) (bytes_in c.args.buffer.now c.args.held.now ++ l)
    c.in_default.ensures (omega (arith, len)) rest)

pub loop-i-preserved : goal.loop-i-preserved
loop-i-preserved g c =
    let room = c.make_room.ensures in
    let more = c.in-Ok.ensures in
    record {
      len = omega arith;
      within = (omega arith, more.within);
      none =
          scanned_on (bytes_in c.loop-i.buffer c.loop-i.held) c.read_more.new.buffer c.make_room.result.start c.make_room.result.end (c.make_room.result.end + c.in-Ok.n) c.make_room.result.start (c.loop-i.held.end - c.loop-i.held.start)
          room.within.0 (omega arith) more.within (more.others ∙ room.same) c.in_default.ensures (omega arith) refl;
      scanned = omega arith;
      told =
          IfSome_then (g.S.Source.left c.args.source.now) c.loop-i.invariant.told
          (λ l rest. rest_on (bytes_in c.loop-i.buffer c.loop-i.held) (bytes_in c.read_more.new.buffer (record { start = c.make_room.result.start; end = c.make_room.result.end + c.in-Ok.n })) (g.S.Source.left c.loop-i.source) (g.S.Source.left c.read_more.new.source)
          (bytes_in c.args.buffer.now c.args.held.now ++ l) (bytes_in c.make_room.new.buffer c.make_room.result) room.same rest more.told);
      count = omega arith;
    }

pub returns-in-Some-clause-taken : goal.returns-in-Some-clause-taken
returns-in-Some-clause-taken g c =
    IfSome_then (g.S.Source.left c.args.source.now) c.loop-i.invariant.told
    (λ l rest. found_taken (bytes_in c.loop-i.buffer c.loop-i.held) c.loop-i.held.start c.in-Some.i (g.S.Source.left c.loop-i.source) (bytes_in c.args.buffer.now c.args.held.now ++ l)
    c.in-Some.ensures.1 c.in-Some.ensures.0 rest)

pub returns-in-Some-clause-ahead : goal.returns-in-Some-clause-ahead
returns-in-Some-clause-ahead g c =
    let len = length-bytes_in c.loop-i.buffer c.loop-i.held.start c.loop-i.held.end c.loop-i.invariant.within.0 c.loop-i.invariant.within.1 in
    IfSome_then (g.S.Source.left c.args.source.now) c.loop-i.invariant.told
    (λ l rest. held_taken (bytes_in c.loop-i.buffer c.loop-i.held) (length c.args.buffer.now) (g.S.Source.left c.loop-i.source) (bytes_in c.args.buffer.now c.args.held.now ++ l) (omega (arith, len)) rest)

pub returns-then-scanned-buffer-clause-ahead : goal.returns-then-scanned-buffer-clause-ahead
returns-then-scanned-buffer-clause-ahead g c =
    let len = length-bytes_in c.loop-i.buffer c.loop-i.held.start c.loop-i.held.end c.loop-i.invariant.within.0 c.loop-i.invariant.within.1 in
    IfSome_then (g.S.Source.left c.args.source.now) c.loop-i.invariant.told
    (λ l rest. held_taken (bytes_in c.loop-i.buffer c.loop-i.held) (length c.args.buffer.now) (g.S.Source.left c.loop-i.source) (bytes_in c.args.buffer.now c.args.held.now ++ l) (omega (arith, len)) rest)
