use Rattle.std.proofs.Common.{◌+◌, ◌-◌, ◌++◌, ◌∙◌, List, ℕ, Option, refl, arith, subst, sym}
use Rattle.std.proofs.lemmas.Option.{IfSome_then}
use Rattle.std.specs.Prelude.{IfSome}
use Rattle.ftp_control.specs.Lines.{bytes_in, Rest}
use Rattle.ftp_control.proofs.LineLemmas.{length-bytes_in, scanned_on, rest_on}
use Rattle.ftp_control.specs.ControlLine.{held_in}
use Rattle.ftp_control.proofs.ControlLineLemmas.{found_line}
use Rattle.ftp_control.proofs.control_line.next_control_line.Goals as goal

pub returns-in-Some-clause-found : goal.returns-in-Some-clause-found
returns-in-Some-clause-found g c =
    let span = c.loop-i.held.span in
    let within = c.loop-i.invariant.held.0 in
    let len = length-bytes_in c.loop-i.buffer span.start span.end within.0 within.1 in
    let line = found_line c.loop-i.buffer span.start span.end c.in-Some.i within.0 within.1 c.in-Some.ensures.1 c.in-Some.ensures.0 (omega arith) in
    ((omega arith, omega (arith, len, c.in-Some.ensures.0)), line.0)

pub returns-in-Some-clause-told : goal.returns-in-Some-clause-told
returns-in-Some-clause-told g c =
    let span = c.loop-i.held.span in
    let within = c.loop-i.invariant.held.0 in
    let line = found_line c.loop-i.buffer span.start span.end c.in-Some.i within.0 within.1 c.in-Some.ensures.1 c.in-Some.ensures.0 (omega arith) in
    IfSome_then (g.C.Source.left c.args.control.now) c.loop-i.invariant.told
    (λ l rest. subst (λ (x : List ℕ). Rest x (g.C.Source.left c.loop-i.control) (held_in c.args.buffer.now c.args.held.now ++ l)) (sym line.1) rest)

pub loop-i-preserved : goal.loop-i-preserved
loop-i-preserved g c =
    let room = c.make_room-span.ensures in
    let more = c.in-Ok-read_more.ensures in
    record {
      len = omega (arith, more.len, room.len, c.loop-i.invariant.len);
      held = (
        (omega (arith, room.within.0), more.within),
        omega (arith, room.size),
        scanned_on (held_in c.loop-i.buffer c.loop-i.held) c.read_more.new.buffer c.make_room-span.result.start c.make_room-span.result.end (c.make_room-span.result.end + c.in-Ok-read_more.n) c.make_room-span.result.start (c.loop-i.held.span.end - c.loop-i.held.span.start)
            room.within.0 (omega arith) more.within (more.others ∙ room.same) c.in_default.ensures (omega (arith, room.size)) refl,
      );
      told =
          IfSome_then (g.C.Source.left c.args.control.now) c.loop-i.invariant.told
          (λ l rest. rest_on (held_in c.loop-i.buffer c.loop-i.held) (bytes_in c.read_more.new.buffer (record { start = c.make_room-span.result.start; end = c.make_room-span.result.end + c.in-Ok-read_more.n })) (g.C.Source.left c.loop-i.control) (g.C.Source.left c.read_more.new.source)
          (held_in c.args.buffer.now c.args.held.now ++ l) (bytes_in c.make_room-span.new.buffer c.make_room-span.result) room.same rest
          (subst (λ (o : Option (List ℕ)). IfSome o (λ (l : List ℕ). Rest (bytes_in c.read_more.new.buffer (record { start = c.make_room-span.result.start; end = c.make_room-span.result.end + c.in-Ok-read_more.n })) (g.C.Source.left c.read_more.new.source) (bytes_in c.make_room-span.new.buffer c.make_room-span.result ++ l)))
          c.in-Ok.ensures.left more.told));
      count = omega (arith, c.in-Ok.ensures.count, more.count, c.loop-i.invariant.count);
      sent = more.sent ∙ c.in-Ok.ensures.sent ∙ c.loop-i.invariant.sent;
    }
