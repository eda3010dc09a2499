use Rattle.std.proofs.Common.{[], ◌∷◌}
use Rattle.std.specs.Prelude.{codes}
use Rattle.ftp_text.specs.Fields.{number, escape}
use Rattle.ftp_text.specs.Spelling.{command_field, command_lengths, command_parts}
use Rattle.ftp_text.proofs.WritingLemmas.{on-ok, nine}
use Rattle.ftp_text.proofs.state_writing.put_queued.Goals as goal

pub returns : goal.returns
returns c =
    let q = c.args.line.now in
    on-ok c.put_byte-2.result c.put_byte-2.ensures (λ h.
    nine c.args.out.now.items (codes "queued") (number q.session) (number q.nr) (number q.offset) (command_field q.command) (command_lengths q.command) (32 ∷ [])
    (escape (command_parts q.command q.path)) (10 ∷ [])
    c.put.new.out.items c.put_number.new.out.items c.put_number-2.new.out.items c.put_number-3.new.out.items c.put_command.new.out.items c.put_lengths.new.out.items
    c.put_byte.new.out.items c.put_parts.new.out.items c.put_byte-2.new.out.items
    c.in_ok-put.ensures c.in_ok-put_number.ensures c.in_ok-put_number-2.ensures c.in_ok-put_number-3.ensures c.in_ok-put_command.ensures c.in_ok-put_lengths.ensures
    c.in_ok-put_byte.ensures c.in_ok-put_parts.ensures h)
