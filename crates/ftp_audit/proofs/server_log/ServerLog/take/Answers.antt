use Rattle.std.proofs.Common.{◌∙◌, ap, ℕ, List, ◌++◌}
use Rattle.std.specs.List.{flat_map}
use Rattle.ftp_audit.specs.Forms.{log_line_text}
use Rattle.ftp_audit.proofs.TakenLemmas.{lines-known, taken-more}
use Rattle.ftp_audit.proofs.server_log.ServerLog.take.Goals as goal

pub returns-clause-told : goal.returns-clause-told
returns-clause-told c = λ o log h.
    c.in_ok-extend_from_slice.ensures.items
    ∙ ap (λ (text : List ℕ). c.args.out.now.items ++ text)
    (c.as_slice.ensures.value
    ∙ (c.in_ok-text.ensures ∙ ap (flat_map (log_line_text c.args.self.now.form c.args.self.now.start)) (lines-known o c.args.self.now log c.args.entry.now h)))

pub returns-clause-taken : goal.returns-clause-taken
returns-clause-taken c = λ o log h r a.
    taken-more o c.args.self.now c.know.new.self log c.args.entry.now c.in_default.ensures.known h r a
