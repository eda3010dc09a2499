use Rattle.std.proofs.Common.{[], ◌∷◌}
use Rattle.std.specs.Prelude.{codes}
use Rattle.ftp_text.specs.Fields.{number}
use Rattle.ftp_text.specs.Spelling.{bit}
use Rattle.ftp_text.proofs.WritingLemmas.{on-ok, four}
use Rattle.ftp_text.proofs.state_writing.put_checkpoint.Goals as goal

pub returns : goal.returns
returns c =
    on-ok c.put_byte.result c.put_byte.ensures (λ h.
    four c.args.out.now.items (codes "checkpoint 1") (number c.args.events) (bit c.args.stopped) (10 ∷ []) c.put.new.out.items c.put_number.new.out.items c.put_bit.new.out.items
    c.put_byte.new.out.items c.in_ok-put.ensures c.in_ok-put_number.ensures c.in_ok-put_bit.ensures h)
