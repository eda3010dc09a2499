use Rattle.std.proofs.Common.{[], ◌∷◌, ◌++◌}
use Rattle.std.specs.Prelude.{codes}
use Rattle.ftp_text.specs.Fields.{field, escape}
use Rattle.ftp_text.specs.Spelling.{opening_fields, progress_fields, length_field, bytes_or_none}
use Rattle.ftp_text.proofs.WritingLemmas.{on-ok, six}
use Rattle.ftp_text.proofs.state_writing.put_session.Goals as goal

pub returns : goal.returns
returns c =
    let s = c.args.line.now in
    on-ok c.put_byte.result c.put_byte.ensures (λ h.
    six c.args.out.now.items (codes "session") (opening_fields s) (progress_fields s) (length_field s.user) (field (escape (bytes_or_none s.user ++ s.cwd))) (10 ∷ [])
    c.put.new.out.items c.put_opening.new.out.items c.put_progress.new.out.items c.put_length.new.out.items c.put_name_and_cwd.new.out.items c.put_byte.new.out.items
    c.in_ok-put.ensures c.in_ok-put_opening.ensures c.in_ok-put_progress.ensures c.in_ok-put_length.ensures c.in_ok-put_name_and_cwd.ensures h)
