-- Worked examples: lines as they are spelled, and lines that spell nothing.
use Rattle.std.proofs.Common.{◌≡◌, ℕ, List, [], ◌∷◌, ◌++◌, Some, None, refl}
use Rattle.std.specs.Prelude.{codes}
use Rattle.std.specs.Fmt.{digits}
use Rattle.ftp_base.specs.declared.fault.LinkFault.TheVariants as link
use Rattle.ftp_base.specs.declared.error_kind.ErrorKind.TheVariants as error
use Rattle.ftp_base.specs.declared.login.AuthAnswer.TheVariants as auth
use Rattle.ftp_base.specs.declared.net.IpAddr.TheVariants.{V4}
use Rattle.ftp_base.specs.declared.net.SocketAddr.{SocketAddr}
use Rattle.ftp_base.specs.declared.notice.Notice.TheVariants as notice
use Rattle.ftp_base.specs.declared.notice.PresenceEvent.TheVariants as presence
use Rattle.ftp_base.specs.declared.reply.Reply.TheVariants as reply
use Rattle.ftp_base.specs.declared.reply.ReplyCode.TheVariants as code
use Rattle.ftp_events.specs.declared.action.Action.TheVariants as action
use Rattle.ftp_events.specs.declared.decision.Decision.TheVariants as decision
use Rattle.ftp_events.specs.declared.entry.Entry.{Entry}
use Rattle.ftp_events.specs.declared.event.Answer.TheVariants as answer
use Rattle.ftp_events.specs.declared.event.EventKind.{EventKind}
use Rattle.ftp_events.specs.declared.event.EventKind.TheVariants as kind
use Rattle.ftp_events.specs.declared.event.HubEvent.{HubEvent}
use Rattle.ftp_text.specs.declared.setup.Item.TheVariants as item
use Rattle.ftp_text.specs.Reading.{number_at, small_at, text_from, text_field, hex_from, hex_of, hex_field, word_value, word_at, each_of, list_of, calls_field, call_of, link_call_of}
use Rattle.ftp_text.specs.Events.{event_line}
use Rattle.ftp_text.specs.Setup.{item_line, sent_line, file_line}
use Rattle.ftp_text.specs.Printing.{print}
use Rattle.ftp_text.specs.EventReading.{event_of, read_as}
use Rattle.ftp_text.specs.SetupReading.{storage_at, dir_at, file_at, quota_at, budget_at, link_at, item_of}
use Rattle.ftp_text.proofs.Samples.{AreSpelled, AreRead, AreBad}

abbrev client : SocketAddr
client = record { ip = V4 167772161; port = 4000 }

abbrev server : SocketAddr
server = record { ip = V4 167772169; port = 21 }

abbrev happens : EventKind → HubEvent
happens k = record { at = 0; kind = k }

-- a login, as it is printed
abbrev login : List Entry
login =
    record { event = happens (kind.Connect 1 client server 1); answer = answer.None; decision = decision.Opened; actions = [] }
    ∷ record {
      event = happens (kind.User 1 (codes "ann"));
      answer = answer.None;
      decision = decision.NeedPass;
      actions = action.Reply 1 0 (reply.CodeAndMsg code.NeedPassword (codes "Password Required")) ∷ [];
    }
    ∷ record { event = happens (kind.Pass 1); answer = answer.None; decision = decision.PassOut; actions = [] }
    ∷ record {
      event = happens (kind.AuthDone 1 auth.Good);
      answer = answer.None;
      decision = decision.LoggedIn;
      actions =
          action.Notify 1 (record { username = codes "ann"; trace_id = record { 0 = 1 }; sequence_number = 1 }) (notice.Presence presence.LoggedIn)
          ∷ action.Reply 1 0 (reply.CodeAndMsg code.UserLoggedIn (codes "User logged in, proceed")) ∷ [];
    } ∷ []

pub print-login : print login
    ≡ codes "> 0 connect 1 10.0.0.1:4000 10.0.0.9:21 1\n= opened\n"
    ++ codes "> 0 user 1 ann\n= needpass\n- reply 1 0 331 Password Required\n"
    ++ codes "> 0 pass 1\n= passout\n"
    ++ codes "> 0 auth 1 good\n= loggedin\n- notify 1 1 0x1 login 0 3 0 ann\n- reply 1 0 230 User logged in, proceed\n"
unfolding digits
print-login = refl

-- a restart offset and three directories, as they are printed
abbrev places : List Entry
places =
    record {
      event = happens (kind.Rest 1 6);
      answer = answer.None;
      decision = decision.NoRestart;
      actions = action.Reply 1 0 (reply.CodeAndMsg code.CommandNotImplemented (codes "Not supported by the selected storage back-end.")) ∷ [];
    }
    ∷ record {
      event = happens (kind.Rest 2 18446744073709551615);
      answer = answer.None;
      decision = decision.RestOk;
      actions = action.Reply 2 0 (reply.CodeAndMsg code.FileActionPending (codes "Restarting at 18446744073709551615. Now send STORE or RETRIEVE.")) ∷ [];
    }
    ∷ record {
      event = happens (kind.Cwd 1 (codes "pub data") None);
      answer = answer.None;
      decision = decision.CwdOk;
      actions = action.Reply 1 0 (reply.CodeAndMsg code.FileActionOkay (codes "Successfully changed working directory")) ∷ [];
    }
    ∷ record {
      event = happens (kind.Cwd 1 (codes "/none") (Some error.PermanentDirectoryNotAvailable));
      answer = answer.None;
      decision = decision.CwdRefused error.PermanentDirectoryNotAvailable;
      actions = action.Reply 1 0 (reply.CodeAndMsg code.FileError (codes "Directory not found")) ∷ [];
    } ∷ []

pub print-places : print places
    ≡ codes "> 0 rest 1 6\n= norestart\n- reply 1 0 502 Not supported by the selected storage back-end.\n"
    ++ codes "> 0 rest 2 18446744073709551615\n= restok\n- reply 2 0 350 Restarting at 18446744073709551615. Now send STORE or RETRIEVE.\n"
    ++ codes "> 0 cwd 1 ok pub data\n= cwdok\n- reply 1 0 250 Successfully changed working directory\n"
    ++ codes "> 0 cwd 1 permanentdir /none\n= cwdrefused permanentdir\n- reply 1 0 550 Directory not found\n"
unfolding digits
print-places = refl

pub spelled_lines : AreSpelled event_line
    ((happens (kind.Pasv 1 65535 None (Some 50000)), codes "0 pasv 1 65535 - 50000")
    -- a byte that is not printable, and a backslash
    ∷ (happens (kind.User 1 (97 ∷ 92 ∷ 255 ∷ [])), codes "0 user 1 a\\x5c\\xff") ∷ [])
unfolding digits
spelled_lines = refl

pub spelled_items : AreSpelled item_line
    ((item.Link 11 65536 ((2, link.Reset) ∷ (5, link.BrokenPipe) ∷ []) (72 ∷ 10 ∷ []), codes "link 11 65536 2:reset,5:pipe 480a")
    ∷ (item.Link 11 1 [] [], codes "link 11 1 - .")
    ∷ (item.Storage 16 (1 ∷ 12 ∷ []), codes "storage 16 1,12")
    ∷ (item.Dir (codes "/a b"), codes "dir /a b")
    ∷ (item.Quota 10, codes "quota 10")
    ∷ (item.Budget 4 (codes "ann b"), codes "budget 4 ann b") ∷ [])
unfolding digits
spelled_items = refl

pub sent_line-hello : sent_line 11 (codes "Hello") ≡ codes "link 11 sent 48656c6c6f\n"
unfolding digits
sent_line-hello = refl

pub file_line-hi : file_line (47 ∷ 255 ∷ [], codes "hi") ≡ codes "file 6869 /\\xff\n"
file_line-hi = refl

-- ---- lines that spell nothing

pub bad_lines : AreBad event_of
    (codes "0 user 1"
    ∷ codes "00 pass 1"
    ∷ codes "0 user 1 \\xFF"
    ∷ codes "0 user 1 \\x41"
    ∷ codes "0 pasv 1 65536 - -"
    ∷ codes "0 rest 1 18446744073709551616"
    -- a word of the authenticator is none of the storage
    ∷ codes "0 cwd 1 refused pub"
    ∷ codes "0 cwd 1 ok" ∷ [])
unfolding event_of word_value read_as number_at word_at text_field digits text_from small_at
bad_lines = refl

pub bad_items : AreBad item_of
    (codes "link 11 1 - 480"
    -- calls count from 1 and rise, and a hyphen is no call
    ∷ codes "storage 16 0"
    ∷ codes "storage 16 3,3"
    ∷ codes "link 11 1 2:lost ."
    ∷ codes "dir a"
    ∷ codes "budget 4" ∷ [])
unfolding item_of link_at number_at small_at hex_field hex_of hex_from word_at calls_field list_of digits storage_at each_of call_of link_call_of dir_at text_field text_from budget_at
bad_items = refl

-- ---- lines that are read

pub read_lines : AreRead event_of
    ((happens (kind.User 1 []), codes "0 user 1 ")
    -- a directory that is named as a kind is
    ∷ (happens (kind.Cwd 1 (codes "closed") None), codes "0 cwd 1 ok closed") ∷ [])
unfolding event_of word_value read_as number_at word_at text_field text_from digits
read_lines = refl

pub read_items : AreRead item_of
    ((item.Storage 16 (1 ∷ 12 ∷ []), codes "storage 16 1,12")
    ∷ (item.Quota 10, codes "quota 10")
    -- a user's name may be empty
    ∷ (item.Budget 4 [], codes "budget 4 ")
    ∷ (item.Link 11 1 ((2, link.Reset) ∷ (3, link.Other) ∷ []) [], codes "link 11 1 2:reset,3:other .")
    ∷ (item.File (codes "hi") (47 ∷ 97 ∷ 47 ∷ 10 ∷ []), codes "file 6869 /a/\\x0a") ∷ [])
unfolding item_of storage_at number_at word_at calls_field list_of each_of call_of digits quota_at budget_at text_field text_from link_at small_at hex_field hex_of link_call_of file_at hex_from
read_items = refl
