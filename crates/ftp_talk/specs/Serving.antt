-- What comes behind a line.
use Rattle.std.specs.Prelude.{Bool, true, false, if◌then◌else◌}
use Rattle.ftp_events.specs.declared.decision.Decision.{Decision}
use Rattle.ftp_events.specs.declared.decision.Decision.TheVariants as decision
use Rattle.ftp_talk.specs.declared.serving.Next.{Next}
use Rattle.ftp_talk.specs.declared.serving.Next.TheVariants as next
use Rattle.ftp_talk.specs.Turns.{is_end}

-- a password is out to be checked
abbrev pub is_out : Decision → Bool
is_out decision.PassOut = true
is_out _ = false

-- what comes behind a decision: nothing where it ends the session
abbrev pub next_of : Decision → Next → Next
next_of d on = if is_end d then next.Over else on
