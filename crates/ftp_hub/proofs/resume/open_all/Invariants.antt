use Rattle.std.proofs.Common.{◌≡◌, ℕ, ◌+◌, length, map, vec_len}
use Rattle.std.specs.Prelude.{nat_eq}
use Rattle.std.specs.Option.{option_map, option_or}
use Rattle.std.specs.HashMap as table
use Rattle.ftp_laws.specs.Census.{IsAscending}
use Rattle.ftp_hub.specs.declared.state.SessionLine.{SessionLine}
use Rattle.ftp_hub.specs.State.{bare_session, session_line}
use Rattle.ftp_hub.proofs.Lines.{IsBefore}
use Rattle.ftp_hub.proofs.resume.open_all.Given as goal

-- with the lines that are left, the sessions are those of all; the lines come before what is there
abbrev pub invariant-loop-line : goal.invariant-loop-line
invariant-loop-line l = record {
  sessions : (s : ℕ) → option_or (option_map bare_session (session_line l.lines.items s)) (table.get nat_eq l.table s) ≡ option_map bare_session (session_line l.initial.lines.items s);
  len : table.hash_map_len l.table + length l.lines.items ≡ length l.initial.lines.items;
  in_order : IsAscending (map (λ (line : SessionLine). line.session) l.lines.items);
  before : IsBefore (map (λ (line : SessionLine). line.session) l.lines.items) (table.get nat_eq l.table);
}

abbrev pub decreases-loop-line : goal.decreases-loop-line
decreases-loop-line l = vec_len l.lines
