use Rattle.std.proofs.Common.{◌≡◌, ◌++◌, take, filter_map}
use Rattle.std.specs.Prelude.{nat_eq}
use Rattle.std.specs.HashMap as map
use Rattle.std.specs.List.{flat_map}
use Rattle.ftp_audit.specs.Forms.{log_line_text}
use Rattle.ftp_audit.specs.Lines.{line_by_action}
use Rattle.ftp_audit.specs.Tickets.{request_at}
use Rattle.ftp_audit.proofs.server_log.ServerLog.tell_actions.Given as goal

abbrev pub invariant-loop-action : goal.invariant-loop-action
invariant-loop-action l = l.text.items ≡ l.initial.text.items ++ flat_map (log_line_text l.self.form l.self.start) (filter_map (line_by_action (λ s. map.get nat_eq l.self.guests s) (request_at l.self.requests) l.entry) (take l.action-index l.actions))
