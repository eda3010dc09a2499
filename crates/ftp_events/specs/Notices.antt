-- The notifications of a session.
use Rattle.std.specs.Prelude.{ℕ, Bool, false, ◌==◌, List, count_by}
use Rattle.ftp_events.specs.declared.entry.Entry.{Entry}
use Rattle.ftp_events.specs.declared.action.Action.{Action}
use Rattle.ftp_events.specs.declared.action.Action.TheVariants.{Notify}
use Rattle.ftp_events.specs.Words.{total}

-- the action notifies of session s
abbrev pub is_notice_to : ℕ → Action → Bool
is_notice_to s (Notify session meta what) = session == s
is_notice_to s _ = false

-- how many notifications of session s were sent
abbrev pub notice_count : ℕ → List Entry → ℕ
notice_count s h = total (λ e. count_by (is_notice_to s) e.actions) h
