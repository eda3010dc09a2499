-- Worked examples of the definitions, each by computation.
use Rattle.std.proofs.Common.{◌≡◌, ℕ, true, false, List, [], ◌∷◌, Some, None, refl, inl, inr}
use Rattle.std.specs.Prelude.{codes}
use Rattle.std.specs.Fmt.{digits}
use Rattle.std.specs.Str.{is_utf8, chars}
use lib.Utf8.{encode}
use Rattle.ftp_base.specs.declared.reply.Reply.{Reply}
use Rattle.ftp_base.specs.declared.reply.Reply.TheVariants.{CodeAndMsg}
use Rattle.ftp_base.specs.declared.reply.ReplyCode.TheVariants.{FileStatusOkay, EnteringPassiveMode, CantOpenDataConnection}
use Rattle.ftp_events.specs.declared.action.Action.{Action}
use Rattle.ftp_events.specs.declared.action.Action.TheVariants as action
use Rattle.ftp_events.specs.declared.decision.Decision.TheVariants.{Granted, Full}
use Rattle.ftp_control.specs.declared.command.Command.TheVariants.{Other}
use Rattle.ftp_extras.specs.declared.extra.Extra.TheVariants.{Say}
use Rattle.ftp_talk.specs.ExtendedLaws.{IsMerged}
use Rattle.ftp_talk.specs.Ground.{ALine, ALongLine}
use Rattle.ftp_talk.specs.Parts.{HeardLine, kept_behind, is_heard_step, with_spoken, epsv_port}
use Rattle.ftp_talk.specs.Pieces.{piece_text, piece_delays, said_pieces}

-- a PWD in the root
asked_where : HeardLine
asked_where = record {
  who = record { name = Some (codes "ann"); is_in = true; cwd = codes "/" };
  before = Some (codes "/a");
  command = Other (codes "PWD");
  line = codes "PWD\r\n";
  extra = Say (codes "257 \"/\"\r\n");
  after = None;
}

what_is_said_goes_behind_the_replies : with_spoken (Some asked_where) false ((1000, codes "226 Done\r\n") ∷ []) ≡ (1000, codes "226 Done\r\n") ∷ (0, codes "257 \"/\"\r\n") ∷ []
unfolding asked_where
what_is_said_goes_behind_the_replies = refl

nothing_is_said_behind_the_end : with_spoken (Some asked_where) true ((0, codes "421 Timeout\r\n") ∷ []) ≡ (0, codes "421 Timeout\r\n") ∷ []
nothing_is_said_behind_the_end = refl

the_last_line_decides_what_is_kept : kept_behind (Some (codes "/a")) (asked_where ∷ []) ≡ None
unfolding asked_where
the_last_line_decides_what_is_kept = refl

a_word_is_heard : is_heard_step (ALine (codes "PWD\r\n")) ≡ true
unfolding is_utf8 chars encode
a_word_is_heard = refl

a_password_is_not : is_heard_step (ALine (codes "pass x\r\n")) ≡ false
unfolding is_utf8 chars encode
a_password_is_not = refl

a_line_that_is_too_long_is_not : is_heard_step ALongLine ≡ false
a_line_that_is_too_long_is_not = refl

pieces_pause_and_say : piece_text ((5, codes "a") ∷ (7, codes "b") ∷ []) ≡ codes "ab"
pieces_pause_and_say = refl

their_delays_add_up : piece_delays ((5, codes "a") ∷ (7, codes "b") ∷ []) ≡ 12
their_delays_add_up = refl

two_lists_are_merged : IsMerged ((5, codes "a") ∷ (0, codes "c") ∷ []) ((0, codes "b") ∷ []) ((5, codes "a") ∷ (0, codes "b") ∷ (0, codes "c") ∷ [])
two_lists_are_merged = inl ((0, codes "c") ∷ [], refl, inr ([], refl, inl ([], refl, (refl, refl))))

-- the reply that a transfer told earlier, and the one to a PASV
told_earlier : List (ℕ × Reply)
told_earlier = (0, CodeAndMsg FileStatusOkay (codes "Sending data")) ∷ []

to_a_pasv : List Action
to_a_pasv = action.Reply 1 0 (CodeAndMsg EnteringPassiveMode (codes "Entering Passive Mode (10,0,0,9,195,80)")) ∷ []

to_a_pasv_in_vain : List Action
to_a_pasv_in_vain = action.Reply 1 0 (CodeAndMsg CantOpenDataConnection (codes "Could not allocate passive port")) ∷ []

a_pasv_is_answered_as_it_is : said_pieces 1 (epsv_port false (Granted 50000)) told_earlier to_a_pasv ≡ (0, codes "150 Sending data\r\n") ∷ (0, codes "227 Entering Passive Mode (10,0,0,9,195,80)\r\n") ∷ []
unfolding told_earlier to_a_pasv
a_pasv_is_answered_as_it_is = refl

an_epsv_shows_the_port_alone : said_pieces 1 (epsv_port true (Granted 50000)) told_earlier to_a_pasv ≡ (0, codes "150 Sending data\r\n") ∷ (0, codes "229 Entering Extended Passive Mode (|||50000|)\r\n") ∷ []
unfolding told_earlier to_a_pasv digits
an_epsv_shows_the_port_alone = refl

an_epsv_without_a_port_is_refused_as_a_pasv : said_pieces 1 (epsv_port true Full) [] to_a_pasv_in_vain ≡ (0, codes "425 Could not allocate passive port\r\n") ∷ []
unfolding to_a_pasv_in_vain
an_epsv_without_a_port_is_refused_as_a_pasv = refl
