-- Worked examples of the definitions, each by computation.
use Rattle.std.proofs.Common.{◌≡◌, true, false, [], ◌∷◌, Some, None, refl}
use Rattle.std.specs.Prelude.{codes}
use Rattle.std.specs.Fmt.{digits}
use Rattle.ftp_extras.specs.declared.word.ExtraWord.TheVariants as word
use Rattle.ftp_base.specs.declared.reply.ReplyCode.TheVariants.{CommandOkay}
use Rattle.ftp_extras.specs.declared.extra.Extra.TheVariants.{Epsv}
use Rattle.ftp_extras.specs.Extra.{says_text, tells}
use Rattle.ftp_extras.specs.Moment.{is_moment}
use Rattle.ftp_extras.specs.Plan.{epsv_extra}
use Rattle.ftp_extras.specs.ReplyLines.{ManyLines, OneLine, reply_bytes, is_whole_reply, epsv_reply}
use Rattle.ftp_extras.specs.Texts.{resolved, sent_text, quoted}
use Rattle.ftp_extras.specs.Words.{extra_word_of}

-- the example of RFC 959, Appendix II
a_quote_is_doubled : quoted (codes "/usr/dm/foo\"bar") ≡ codes "\"/usr/dm/foo\"\"bar\""
a_quote_is_doubled = refl

no_line_ends_in_a_name : sent_text (codes "a\r\nb") ≡ codes "a\r\0\0b"
no_line_ends_in_a_name = refl

dots_lead_on : resolved (codes "/a/./b//../c/") ≡ codes "/a/c"
dots_lead_on = refl

the_root_is_a_slash : resolved (codes "/a/../..") ≡ codes "/"
the_root_is_a_slash = refl

a_word_in_any_case : extra_word_of (codes "xCuP") ≡ Some word.Xcup
a_word_in_any_case = refl

a_command_is_none_of_them : extra_word_of (codes "CWD") ≡ None
a_command_is_none_of_them = refl

-- the examples of RFC 3659, section 2.3, without their fractions
a_moment : is_moment (codes "19990929003355") ≡ true
a_moment = refl

no_month : is_moment (codes "19991329003355") ≡ false
no_month = refl

too_short : is_moment (codes "1999092900335") ≡ false
too_short = refl

-- the example of several lines of RFC 959, section 4.2
several_lines : is_whole_reply (ManyLines (codes "123") (codes "First line") (codes "Second line" ∷ codes "  234 A line beginning with numbers" ∷ []) (codes "The last line")) ≡ true
several_lines = refl

ended_early : is_whole_reply (ManyLines (codes "123") (codes "First line") (codes "123 Second line" ∷ []) (codes "The last line")) ≡ false
ended_early = refl

bytes_of_a_line : reply_bytes (OneLine (codes "213") (codes "5")) ≡ codes "213 5\r\n"
bytes_of_a_line = refl

-- the example of RFC 2428, section 3
the_reply_to_an_epsv : reply_bytes (epsv_reply 6446) ≡ codes "229 Entering Extended Passive Mode (|||6446|)\r\n"
unfolding digits
the_reply_to_an_epsv = refl

an_epsv_alone : epsv_extra [] ≡ Epsv
an_epsv_alone = refl

an_epsv_over_ip_4 : epsv_extra (codes "1") ≡ Epsv
an_epsv_over_ip_4 = refl

an_epsv_over_ip_6 : epsv_extra (codes "2") ≡ says_text (OneLine (codes "522") (codes "Network protocol not supported, use (1)"))
an_epsv_over_ip_6 = refl

no_other_command_for_a_port : epsv_extra (codes "All") ≡ tells CommandOkay (codes "Noted")
no_other_command_for_a_port = refl
