use Rattle.std.proofs.Common.{◌≡◌, ℕ, List, take}
use Rattle.ftp_audit.specs.Users.{marks_of}
use Rattle.ftp_audit.specs.Heard.{notices_on, with_all}
use Rattle.ftp_audit.proofs.audit.hear.Given as goal

-- the notifications so far were heard
abbrev pub invariant-loop-action : goal.invariant-loop-action
invariant-loop-action l = (user : List ℕ) → marks_of l.users user ≡ with_all l.place (marks_of l.fn.users user) (notices_on user (take l.action-index l.actions))
