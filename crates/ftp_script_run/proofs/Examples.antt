-- What is drawn, which events come of it, and the names that are counted.
use Rattle.std.proofs.Common.{◌≡◌, [], ◌∷◌, codes, None, refl, lit<}
use Rattle.std.specs.Prelude.{Contains}
use Rattle.ftp_base.specs.declared.login.AuthAnswer.TheVariants.{Good}
use Rattle.ftp_events.specs.declared.decision.Decision.{Decision}
use Rattle.ftp_events.specs.declared.decision.Decision.TheVariants as decision
use Rattle.ftp_events.specs.declared.event.EventKind.TheVariants.{Connect, User, Pass, AuthDone, Pasv, Abor}
use Rattle.ftp_text.specs.Printing.{decision_text}
use Rattle.ftp_script_run.specs.Draws.{draw}
use Rattle.ftp_script_run.specs.Events.{client, called, kinds}
use Rattle.ftp_script_run.specs.Counts.{names}

-- the first number of the seed 0
first : draw 0 1 ≡ 167951807
first = refl

-- the events of one session and the seed 0
first-events : kinds 0 1 ≡
    Connect 1 (client 1 4000) called 1 ∷ User 1 (codes "ann") ∷ Pass 1 ∷ AuthDone 1 Good
    ∷ Pasv 1 15377 None None ∷ Pasv 1 16283 None None ∷ Abor 1 ∷ Abor 1
    ∷ Pasv 1 26932 None None ∷ Pasv 1 6674 None None ∷ Abor 1 ∷ Abor 1
    ∷ Abor 1 ∷ Abor 1 ∷ Pasv 1 17114 None None ∷ Pasv 1 57531 None None
    ∷ Abor 1 ∷ Pasv 1 6427 None None ∷ Pasv 1 28093 None None ∷ Abor 1 ∷ []
first-events = refl

-- each decision has a name that is counted
pub every-named : (d : Decision) → Contains names (decision_text d)
unfolding names
every-named decision.UnknownNumber = (43, lit< tt, refl)
every-named decision.UsedNumber = (44, lit< tt, refl)
every-named decision.Misplaced = (16, lit< tt, refl)
every-named decision.NotExpected = (25, lit< tt, refl)
every-named decision.Opened = (28, lit< tt, refl)
every-named decision.Turned = (42, lit< tt, refl)
every-named (decision.HeaderFault fault) = (13, lit< tt, refl)
every-named (decision.Attached s) = (2, lit< tt, refl)
every-named decision.BadSequence = (4, lit< tt, refl)
every-named decision.NeedPass = (19, lit< tt, refl)
every-named decision.PassOut = (30, lit< tt, refl)
every-named decision.Reauth = (34, lit< tt, refl)
every-named decision.LoggedIn = (14, lit< tt, refl)
every-named (decision.LoginFailed lock delay) = (15, lit< tt, refl)
every-named decision.NotLoggedIn = (27, lit< tt, refl)
every-named decision.ModeOff = (17, lit< tt, refl)
every-named decision.Full = (11, lit< tt, refl)
every-named decision.NoLookup = (21, lit< tt, refl)
every-named (decision.Granted port) = (12, lit< tt, refl)
every-named decision.NoSocket = (24, lit< tt, refl)
every-named decision.BadAddress = (3, lit< tt, refl)
every-named decision.OtherAddress = (29, lit< tt, refl)
every-named decision.NoConnection = (20, lit< tt, refl)
every-named decision.PortOk = (31, lit< tt, refl)
every-named decision.NoSlot = (23, lit< tt, refl)
every-named (decision.Queued t) = (32, lit< tt, refl)
every-named decision.Finished = (10, lit< tt, refl)
every-named decision.Moved = (18, lit< tt, refl)
every-named decision.Cut = (6, lit< tt, refl)
every-named decision.NoRestart = (22, lit< tt, refl)
every-named decision.RestOk = (35, lit< tt, refl)
every-named (decision.CwdRefused kind) = (8, lit< tt, refl)
every-named decision.CwdOk = (7, lit< tt, refl)
every-named decision.Closed = (5, lit< tt, refl)
every-named decision.Quit = (33, lit< tt, refl)
every-named decision.Early = (9, lit< tt, refl)
every-named decision.SlotDropped = (37, lit< tt, refl)
every-named decision.Swept = (39, lit< tt, refl)
every-named decision.Aborted = (0, lit< tt, refl)
every-named decision.Aborting = (1, lit< tt, refl)
every-named decision.NothingToAbort = (26, lit< tt, refl)
every-named decision.Told = (41, lit< tt, refl)
every-named decision.Waited = (45, lit< tt, refl)
every-named decision.TimedOut = (40, lit< tt, refl)
every-named decision.Scavenged = (36, lit< tt, refl)
every-named decision.Stopped = (38, lit< tt, refl)
