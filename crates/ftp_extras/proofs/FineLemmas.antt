-- What is done on a line stands beside the profile, and what is said is whole replies.
use Rattle.std.proofs.Common.{◌≡◌, ℕ, Bool, true, false, cond, ◌||◌, List, [], ◌∷◌, ◌++◌, Option, Some, None, refl, sym}
use Rattle.std.specs.Prelude.{codes, unwrap_or, length, ◌==◌}
use Rattle.std.specs.Option.{option_map_or}
use Rattle.ftp_base.specs.declared.reply.ReplyCode.TheVariants as code
use Rattle.std.proofs.lemmas.List.{append-nil}
use Rattle.ftp_base.specs.declared.command.DataChanCmd.{DataChanCmd}
use Rattle.ftp_base.specs.declared.command.DataChanCmd.TheVariants as move
use Rattle.ftp_control.specs.declared.command.Command.{Command}
use Rattle.ftp_control.specs.declared.command.Command.TheVariants as command
use Rattle.ftp_control.specs.Parameter.{first_word, behind_word}
use Rattle.ftp_control.specs.Line.{parameter}
use Rattle.ftp_extras.specs.declared.archive.Request.{Request}
use Rattle.ftp_extras.specs.declared.archive.Request.TheVariants as request
use Rattle.ftp_extras.specs.declared.extra.Extra.{Extra}
use Rattle.ftp_extras.specs.declared.extra.Extra.TheVariants as extra
use Rattle.ftp_extras.specs.declared.plan.Offers.{Offers}
use Rattle.ftp_extras.specs.declared.plan.Plan.{Plan}
use Rattle.ftp_extras.specs.declared.plan.Plan.TheVariants as plan
use Rattle.ftp_extras.specs.declared.word.ExtraWord.{ExtraWord}
use Rattle.ftp_extras.specs.declared.word.ExtraWord.TheVariants as word
use Rattle.ftp_extras.specs.Archive.{is_sound}
use Rattle.ftp_extras.specs.Extra.{AskerView, IsWhole, says_text, tells}
use Rattle.ftp_extras.specs.Moment.{is_moment}
use Rattle.ftp_extras.specs.Plan.{path_in, bad_plan, asked_on, rename_plan, date_plan, file_plan, directory_reply, features, feature_reply, option_reply, user_line, place_line, status_lines, status_reply, only_one, epsv_extra, protection_reply, session_extra, login_plan, is_pattern, list_plan, facts_list_plan, transfer_plan, plan_of, is_spelled}
use Rattle.ftp_extras.specs.ReplyLines.{ReplyText, OneLine, ManyLines, reply_bytes, is_whole_reply}
use Rattle.ftp_extras.specs.Texts.{resolved, sent_text, quoted}
use Rattle.ftp_extras.specs.Words.{extra_word_of, is_open_word}
use Rattle.ftp_extras.proofs.LineLemmas.{HasNoFeed, both_in_line, sent_text-in_line, quoted-in_line}

-- what is said as one reply is whole replies
pub one_reply : (text : ReplyText) → is_whole_reply text ≡ true → IsWhole (says_text text)
one_reply text whole = (text ∷ [], rw whole refl, sym (append-nil (reply_bytes text)))

-- a reply of one line with a code
pub one_line : (code text : List ℕ) → is_whole_reply (OneLine code []) ≡ true → HasNoFeed text → IsWhole (says_text (OneLine code text))
one_line code text whole none = one_reply (OneLine code text) (rw none whole)

-- what is done at once is whole; what is asked for is sound
abbrev pub IsFine : Plan → Type 0
IsFine (plan.Do x) = IsWhole x
IsFine (plan.Ask r) = is_sound r ≡ true

fine-asked_on : (make : List ℕ → Request) → ((path : List ℕ) → is_sound (make path) ≡ true) → (path : Option (List ℕ)) → IsFine (asked_on make path)
fine-asked_on make sound None = tt
fine-asked_on make sound (Some path) = sound path

fine-rename : (who : AskerView) (before : Option (List ℕ)) (p : List ℕ) → IsFine (rename_plan who before p)
fine-rename who None p = tt
fine-rename who (Some from) p = fine-asked_on (request.Rename from) (λ path. refl) (path_in who p)

fine-date : (who : AskerView) (p : List ℕ) → IsFine (date_plan who p)
fine-date who p = by (is_moment (first_word p)) refl where
  by : (is : Bool) → is_moment (first_word p) ≡ is → IsFine (cond is (asked_on (λ path. request.SetModified path (first_word p)) (path_in who (behind_word p))) bad_plan)
  by true e = fine-asked_on (λ path. request.SetModified path (first_word p)) (λ path. e) (path_in who (behind_word p))
  by false e = tt

-- a plan, if there is one, is fine
abbrev IfFine : Option Plan → Type 0
IfFine None = Unit {0}
IfFine (Some p) = IsFine p

fine-file : (who : AskerView) (before : Option (List ℕ)) (w : ExtraWord) (p : List ℕ) → IfFine (file_plan who before w p)
fine-file who before word.Mkd p = fine-asked_on (λ path. request.MakeDirectory path) (λ path. refl) (path_in who p)
fine-file who before word.Xmkd p = fine-asked_on (λ path. request.MakeDirectory path) (λ path. refl) (path_in who p)
fine-file who before word.Rmd p = fine-asked_on (λ path. request.RemoveDirectory path) (λ path. refl) (path_in who p)
fine-file who before word.Xrmd p = fine-asked_on (λ path. request.RemoveDirectory path) (λ path. refl) (path_in who p)
fine-file who before word.Dele p = fine-asked_on (λ path. request.Remove path) (λ path. refl) (path_in who p)
fine-file who before word.Rnfr p = fine-asked_on (λ path. request.Look path) (λ path. refl) (path_in who p)
fine-file who before word.Size p = fine-asked_on (λ path. request.Look path) (λ path. refl) (path_in who p)
fine-file who before word.Mdtm p = fine-asked_on (λ path. request.Look path) (λ path. refl) (path_in who p)
fine-file who before word.Mlst p = refl
fine-file who before word.Rnto p = fine-rename who before p
fine-file who before word.Mfmt p = fine-date who p
fine-file who before word.Pwd p = tt
fine-file who before word.Xpwd p = tt
fine-file who before word.Cdup p = tt
fine-file who before word.Xcup p = tt
fine-file who before word.Feat p = tt
fine-file who before word.Opts p = tt
fine-file who before word.Syst p = tt
fine-file who before word.Stat p = tt
fine-file who before word.Help p = tt
fine-file who before word.Allo p = tt
fine-file who before word.Mode p = tt
fine-file who before word.Stru p = tt
fine-file who before word.Epsv p = tt
fine-file who before word.Stou p = tt
fine-file who before word.Clnt p = tt
fine-file who before word.Pbsz p = tt
fine-file who before word.Prot p = tt

-- of two that are whole, either is
pub either : (b : Bool) (x y : Extra) → IsWhole x → IsWhole y → IsWhole (cond b x y)
either true x y hx hy = hx
either false x y hx hy = hy

whole-features : (o : Offers) → IsWhole (feature_reply o)
whole-features o = one_reply (ManyLines (codes "211") (codes "Extensions supported") (features o) (codes "End")) (by o.can_restart o.is_behind_tls) where
  by : (restart tls : Bool) → is_whole_reply (ManyLines (codes "211") (codes "Extensions supported") (features (record { is_behind_tls = tls; can_restart = restart })) (codes "End")) ≡ true
  by true true = refl
  by true false = refl
  by false true = refl
  by false false = refl

whole-options : (p : List ℕ) → IsWhole (option_reply p)
whole-options p = by (is_spelled (codes "utf8") p || is_spelled (codes "utf8 on") p) (is_spelled (codes "mlst") (first_word p)) where
  by : (a b : Bool) → IsWhole (cond a (tells code.CommandOkay (codes "Always in UTF8 mode")) (cond b (tells code.CommandOkay (codes "MLST OPTS type;size;modify;")) (tells code.ParameterSyntaxError (codes "Option not understood"))))
  by true b = tt
  by false true = tt
  by false false = tt

whole-status : (who : AskerView) (p : List ℕ) → IsWhole (status_reply who p)
whole-status who p =
    let user : HasNoFeed (user_line who) = both_in_line (codes " Logged in as ") (sent_text (unwrap_or who.name [])) refl (sent_text-in_line (unwrap_or who.name [])) in
    let place : HasNoFeed (place_line who) = both_in_line (codes " In the directory ") (quoted (resolved who.cwd)) refl (quoted-in_line (resolved who.cwd)) in
    either (length p == 0) _ _ (one_reply (ManyLines (codes "211") (codes "Status") (status_lines who) (codes "End")) (rw (user, place) refl)) tt

whole-only : (letter p : List ℕ) → IsWhole (only_one letter p)
whole-only letter p = either (is_spelled letter p) _ _ tt (one_line (codes "504") (codes "Not implemented for that parameter") refl refl)

whole-epsv : (p : List ℕ) → IsWhole (epsv_extra p)
whole-epsv p =
    either (length p == 0 || is_spelled (codes "1") p) _ _ tt
    (either (is_spelled (codes "all") p) _ _ tt (one_line (codes "522") (codes "Network protocol not supported, use (1)") refl refl))

whole-protection : (p : List ℕ) → IsWhole (protection_reply p)
whole-protection p = either (is_spelled (codes "p") p) _ _ tt (one_line (codes "536") (codes "Only P is supported") refl refl)

whole-directory : (who : AskerView) → IsWhole (directory_reply who)
whole-directory who =
    one_line (codes "257") (quoted (resolved who.cwd) ++ codes " is the current directory") refl
    (both_in_line (quoted (resolved who.cwd)) (codes " is the current directory") (quoted-in_line (resolved who.cwd)) refl)

whole-session : (o : Offers) (who : AskerView) (w : ExtraWord) (p : List ℕ) → IsWhole (session_extra o who w p)
whole-session o who word.Pwd p = whole-directory who
whole-session o who word.Xpwd p = whole-directory who
whole-session o who word.Cdup p = refl
whole-session o who word.Xcup p = refl
whole-session o who word.Feat p = whole-features o
whole-session o who word.Opts p = whole-options p
whole-session o who word.Syst p = one_line (codes "215") (codes "UNIX Type: L8") refl refl
whole-session o who word.Stat p = whole-status who p
whole-session o who word.Help p = one_line (codes "214") (codes "See RFC 959") refl refl
whole-session o who word.Allo p = one_line (codes "202") (codes "No storage has to be allocated") refl refl
whole-session o who word.Mode p = whole-only (codes "s") p
whole-session o who word.Stru p = whole-only (codes "f") p
whole-session o who word.Epsv p = whole-epsv p
whole-session o who word.Stou p = refl
whole-session o who word.Clnt p = tt
whole-session o who word.Pbsz p = either o.is_behind_tls _ _ tt tt
whole-session o who word.Prot p = either o.is_behind_tls _ _ (whole-protection p) tt
whole-session o who word.Mkd p = tt
whole-session o who word.Xmkd p = tt
whole-session o who word.Rmd p = tt
whole-session o who word.Xrmd p = tt
whole-session o who word.Dele p = tt
whole-session o who word.Rnfr p = tt
whole-session o who word.Rnto p = tt
whole-session o who word.Size p = tt
whole-session o who word.Mdtm p = tt
whole-session o who word.Mfmt p = tt
whole-session o who word.Mlst p = tt

fine-word : (f : Option Plan) (x : Extra) → IfFine f → IsWhole x → IsFine (unwrap_or f (plan.Do x))
fine-word None x hf hx = hx
fine-word (Some p) x hf hx = hf

either_fine : (b : Bool) (x y : Plan) → IsFine x → IsFine y → IsFine (cond b x y)
either_fine true x y hx hy = hx
either_fine false x y hx hy = hy

fine-login : (o : Offers) (who : AskerView) (before : Option (List ℕ)) (w : ExtraWord) (p : List ℕ) → IsFine (login_plan o who before w p)
fine-login o who before w p =
    either_fine (who.is_in || is_open_word w) _ _
    (fine-word (file_plan who before w p) (session_extra o who w p) (fine-file who before w p) (whole-session o who w p))
    tt

fine-list : (who : AskerView) (path : Option (List ℕ)) → IsFine (list_plan who path)
fine-list who None = tt
fine-list who (Some path) = either_fine (is_pattern path) _ _ tt refl

fine-facts-list : (who : AskerView) (path : Option (List ℕ)) → IsFine (facts_list_plan who path)
fine-facts-list who None = tt
fine-facts-list who (Some path) = refl

fine-transfer : (who : AskerView) (c : DataChanCmd) → IsFine (transfer_plan who c)
fine-transfer who (move.Retr path) = refl
fine-transfer who (move.Stor path) = refl
fine-transfer who (move.Appe path) = refl
fine-transfer who (move.List options path) = fine-list who path
fine-transfer who (move.Nlst path) = fine-list who path
fine-transfer who (move.Mlsd path) = fine-facts-list who path

fine-known : (o : Offers) (who : AskerView) (before : Option (List ℕ)) (line : List ℕ) (w : Option ExtraWord) →
    IsFine (option_map_or (λ known. login_plan o who before known (parameter line)) w (plan.Do extra.Pass))
fine-known o who before line None = tt
fine-known o who before line (Some known) = fine-login o who before known (parameter line)

-- what is planned is fine
pub plan_of-fine : (o : Offers) (who : AskerView) (before : Option (List ℕ)) (c : Command) (line : List ℕ) → IsFine (plan_of o who before c line)
plan_of-fine o who before (command.Other w) line = fine-known o who before line (extra_word_of w)
plan_of-fine o who before (command.Data c) line = either_fine who.is_in _ _ (fine-transfer who c) tt
plan_of-fine o who before (command.User name) line = tt
plan_of-fine o who before (command.Pass password) line = tt
plan_of-fine o who before (command.Cwd path) line = tt
plan_of-fine o who before (command.Port text) line = tt
plan_of-fine o who before (command.Rest offset) line = tt
plan_of-fine o who before command.Pasv line = tt
plan_of-fine o who before command.Stou line = tt
plan_of-fine o who before command.Abor line = tt
plan_of-fine o who before command.Quit line = tt
plan_of-fine o who before command.Noop line = tt
plan_of-fine o who before command.TypeCmd line = tt
