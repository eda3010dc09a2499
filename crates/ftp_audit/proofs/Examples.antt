-- Worked logs, and what they add for their users.
use Rattle.std.proofs.Common.{◌≡◌, refl, ℕ, List, [], ◌∷◌, ◌++◌, reverse, codes, true, None, Some}
use Rattle.ftp_base.specs.declared.command.DataChanCmd.{DataChanCmd}
use Rattle.ftp_base.specs.declared.command.DataChanCmd.TheVariants.{Retr, Stor, Appe}
use Rattle.ftp_base.specs.declared.message.ControlChanMsg.TheVariants.{DelFileSuccess}
use Rattle.ftp_transfer.specs.declared.job.Completion.{Completion}
use Rattle.ftp_transfer.specs.declared.job.Completion.TheVariants.{Sent, Written}
use Rattle.ftp_events.specs.declared.entry.Entry.{Entry}
use Rattle.ftp_events.specs.declared.event.Answer.TheVariants as answer
use Rattle.ftp_events.specs.declared.event.EventKind.TheVariants as kind
use Rattle.ftp_events.specs.Right.{log_of}
use Rattle.ftp_events.proofs.Script.{Event, everything, two_ports, addr, a1, event, opened, login, pasv, data_in, ended, done, piece}
use Rattle.ftp_audit.specs.Totals.{nothing}
use Rattle.ftp_audit.specs.Owner.{owner}
use Rattle.ftp_audit.specs.Sums.{sums, one_logout}
use Rattle.ftp_audit.specs.Heard.{heard, is_named, total_in}

-- a transfer from its PASV to its end
abbrev transfer : ℕ → DataChanCmd → ℕ → Completion → ℕ → List Event
transfer nr command link r bytes =
    pasv 1 0 ∷ event 1 (kind.Transfer 1 command) ∷ data_in link (addr a1 4001) 50000 ∷ ended 1 nr r bytes ∷ []

-- the log of these events, oldest first
abbrev log : List Event → List Entry
log events = log_of two_ports (reverse events)

-- an upload of 5 bytes, 6 more appended, and a download of all 11
abbrev moving : List Event
moving =
    login 1 a1 ++ transfer 1 (Stor (codes "a.txt")) 11 Written 5 ++ transfer 2 (Appe (codes "a.txt")) 12 Written 6
    ++ transfer 3 (Retr (codes "a.txt")) 13 Sent 11

-- one file was got, two were put, of 11 bytes each way
moved : sums two_ports (log moving) (codes "ann") 0 16 ≡ record { got_files = 1; got_bytes = 11; put_files = 2; put_bytes = 11; logins = 1; logouts = 0 }
unfolding everything
moved = refl

-- over the entries of the append alone
appended : sums two_ports (log moving) (codes "ann") 8 12 ≡ record nothing { put_files = 1; put_bytes = 6 }
unfolding everything
appended = refl

-- notifications tell the same
told : heard (log moving) (codes "ann") 0 16 ≡ record { got_files = 1; got_bytes = 11; put_files = 2; put_bytes = 11; logins = 1; logouts = 0 }
unfolding everything
told = refl

-- a stop while a download runs: its end is told to nobody, and adds nothing
abbrev stopped : List Event
stopped =
    login 1 a1 ++ pasv 1 0 ∷ data_in 11 (addr a1 4001) 50000 ∷ event 1 (kind.Transfer 1 (Retr (codes "/a"))) ∷ event 2 kind.Shutdown ∷ ended 1 1 Sent 5 ∷ []

lost : sums two_ports (log stopped) (codes "ann") 0 9 ≡ record nothing { logins = 1; logouts = 1 }
unfolding everything
lost = refl

-- a download in pieces counts once, with all its bytes, where its last piece ends it
abbrev running : List Event
running = login 1 a1 ++ pasv 1 0 ∷ data_in 11 (addr a1 4001) 50000 ∷ event 1 (kind.Transfer 1 (Retr (codes "/a"))) ∷ piece 1 1 (answer.Moved 5) ∷ []

in_pieces : sums two_ports (log (running ++ piece 1 1 (done Sent 5) ∷ [])) (codes "ann") 0 9 ≡ record nothing { got_files = 1; got_bytes = 5; logins = 1 }
unfolding everything
in_pieces = refl

-- one that is cut adds nothing, whatever its outcome
cut_off : sums two_ports (log (running ++ event 1 (kind.Abor 1) ∷ ended 1 1 Sent 5 ∷ [])) (codes "ann") 0 10 ≡ record nothing { logins = 1 }
unfolding everything
cut_off = refl

-- a session that never logged in is nobody's that is known
abbrev closed : List Event
closed = opened 1 a1 ∷ event 1 (kind.Closed 1) ∷ []

unknown : total_in two_ports (log closed) (codes "unknown") ≡ Some one_logout
unfolding everything
unknown = refl

-- a name that was given and not checked is no owner
unchecked : owner (log (opened 1 a1 ∷ event 0 (kind.User 1 (codes "ann")) ∷ [])) 1 ≡ codes "unknown"
unfolding everything
unchecked = refl

-- a user whom notifications name has a total, also where nothing moved
abbrev of_a_file : List Event
of_a_file = opened 1 a1 ∷ event 1 (kind.Internal 1 (DelFileSuccess (codes "/a"))) ∷ []

named : is_named (log of_a_file) (codes "unknown") ≡ true
unfolding everything
named = refl

zeros : total_in two_ports (log of_a_file) (codes "unknown") ≡ Some nothing
unfolding everything
zeros = refl

-- and one whom none names has none
stranger : total_in two_ports (log moving) (codes "bob") ≡ None
unfolding everything
stranger = refl
