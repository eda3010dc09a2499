-- Reading the decision of an entry.
use Rattle.std.specs.Prelude.{ℕ, ◌^◌, List, [], ◌∷◌, map, codes, Option, Some, None}
use Rattle.ftp_base.specs.declared.error_kind.ErrorKind.TheVariants as error
use Rattle.ftp_base.specs.declared.login.LockState.{LockState}
use Rattle.ftp_proxy.specs.declared.error.ProxyError.TheVariants as proxy
use Rattle.ftp_events.specs.declared.decision.Decision.{Decision}
use Rattle.ftp_events.specs.declared.decision.Decision.TheVariants as decision
use Rattle.ftp_text.specs.Fields.{values, kind_text, proxy_error_text}
use Rattle.ftp_text.specs.Reading.{Reader, pair, made, behind_text, number_field, small_field, ticket_field, word_value, worded, kinds, proxy_errors}
use Rattle.ftp_text.specs.Printing.{decision_text, lock_words, lock_text}

-- a decision of each name, whose fields say nothing
abbrev pub heads : List Decision
heads =
    decision.UnknownNumber ∷ decision.UsedNumber ∷ decision.Misplaced ∷ decision.NotExpected ∷ decision.Opened ∷ decision.Turned
    ∷ decision.HeaderFault proxy.HeaderSize ∷ decision.Attached 0 ∷ decision.BadSequence ∷ decision.NeedPass ∷ decision.PassOut
    ∷ decision.Reauth ∷ decision.LoggedIn ∷ decision.LoginFailed None 0 ∷ decision.NotLoggedIn ∷ decision.ModeOff ∷ decision.Full
    ∷ decision.NoLookup ∷ decision.Granted 0 ∷ decision.NoSocket ∷ decision.BadAddress ∷ decision.OtherAddress
    ∷ decision.NoConnection ∷ decision.PortOk ∷ decision.NoSlot ∷ decision.Queued (record { session = 0; nr = 0 })
    ∷ decision.Finished ∷ decision.Moved ∷ decision.Cut ∷ decision.NoRestart ∷ decision.RestOk
    ∷ decision.CwdRefused error.TransientFileNotAvailable ∷ decision.CwdOk ∷ decision.Aborted ∷ decision.Aborting
    ∷ decision.NothingToAbort ∷ decision.Told ∷ decision.Early ∷ decision.Waited ∷ decision.SlotDropped ∷ decision.Swept
    ∷ decision.Scavenged ∷ decision.Quit ∷ decision.Closed ∷ decision.TimedOut ∷ decision.Stopped ∷ []

-- the decision of the table that has the same name
abbrev pub head : Decision → Decision
head (decision.HeaderFault fault) = decision.HeaderFault proxy.HeaderSize
head (decision.Attached s) = decision.Attached 0
head (decision.LoginFailed lock delay) = decision.LoginFailed None 0
head (decision.Granted port) = decision.Granted 0
head (decision.Queued t) = decision.Queued (record { session = 0; nr = 0 })
head (decision.CwdRefused kind) = decision.CwdRefused error.TransientFileNotAvailable
head d = d

-- how a login can stand with the lock
abbrev pub locks : List (Option LockState)
locks = None ∷ map Some (values lock_words)

-- how a failed login stands with the lock, and after how long it is answered
abbrev pub lock_and_delay_at : Reader (Option LockState × ℕ)
lock_and_delay_at = pair (word_value lock_text locks) (small_field (2 ^ 32))

-- the decision that is its name alone
abbrev pub as_it_is : Decision → Reader Decision
as_it_is d bytes = Some (d, bytes)

-- the decision behind its name
abbrev pub decision_behind : Decision → Reader Decision
decision_behind (decision.HeaderFault fault) = made decision.HeaderFault (word_value proxy_error_text proxy_errors)
decision_behind (decision.Attached s) = made decision.Attached number_field
decision_behind (decision.LoginFailed lock delay) = made (λ x. decision.LoginFailed x.0 x.1) lock_and_delay_at
decision_behind (decision.Granted port) = made decision.Granted (small_field (2 ^ 16))
decision_behind (decision.Queued t) = made (λ x. decision.Queued (record { session = x.0; nr = x.1 })) ticket_field
decision_behind (decision.CwdRefused kind) = made decision.CwdRefused (word_value kind_text kinds)
decision_behind d = as_it_is d

-- a decision, with its mark
unfoldable pub decision_at : Reader Decision
decision_at = behind_text (codes "=") (worded decision_text heads decision_behind)
