-- What is done on a line, at once or once the archive is asked (RFC 959; RFC 2389 for FEAT and OPTS; RFC 2428 for EPSV;
-- RFC 3659 for SIZE, MDTM and MLST; RFC 4217 for PBSZ and PROT).
--   file_plan      of a word that is about files
--   session_extra  of a word that is about the session or the server
--   transfer_plan  of a transfer, which is looked at first
--   plan_of        of any command
use Rattle.std.specs.Prelude.{ℕ, ◌||◌, ◌==◌, Bool, false, List, [], ◌∷◌, ◌++◌, length, codes, Option, Some, None, unwrap_or, if◌then◌else◌}
use Rattle.std.specs.Option.{option_map, option_map_or}
use Rattle.std.specs.List.{list_any}
use Rattle.std.specs.Str.{str_eq_ignore_ascii_case}
use Rattle.ftp_base.specs.declared.command.DataChanCmd.{DataChanCmd}
use Rattle.ftp_base.specs.declared.command.DataChanCmd.TheVariants as move
use Rattle.ftp_base.specs.declared.reply.ReplyCode.TheVariants as code
use Rattle.ftp_base.specs.Command.{path_of}
use Rattle.ftp_base.specs.Storage.{parent}
use Rattle.ftp_transfer.specs.Path.{join_path}
use Rattle.ftp_control.specs.declared.command.Command.{Command}
use Rattle.ftp_control.specs.declared.command.Command.TheVariants as command
use Rattle.ftp_control.specs.Parameter.{first_word, behind_word, text_in}
use Rattle.ftp_control.specs.Line.{parameter}
use Rattle.ftp_extras.specs.declared.archive.Request.{Request}
use Rattle.ftp_extras.specs.declared.archive.Request.TheVariants as request
use Rattle.ftp_extras.specs.declared.extra.Extra.{Extra}
use Rattle.ftp_extras.specs.declared.extra.Extra.TheVariants as extra
use Rattle.ftp_extras.specs.declared.plan.Offers.{Offers}
use Rattle.ftp_extras.specs.declared.plan.Plan.{Plan}
use Rattle.ftp_extras.specs.declared.plan.Plan.TheVariants as plan
use Rattle.ftp_extras.specs.declared.word.ExtraWord.{ExtraWord}
use Rattle.ftp_extras.specs.declared.word.ExtraWord.TheVariants as word
use Rattle.ftp_extras.specs.Extra.{AskerView, says_text, tells}
use Rattle.ftp_extras.specs.Moment.{is_moment}
use Rattle.ftp_extras.specs.ReplyLines.{OneLine, ManyLines}
use Rattle.ftp_extras.specs.Texts.{resolved, sent_text, quoted}
use Rattle.ftp_extras.specs.Words.{extra_word_of, is_open_word}

-- the bytes are this word, in any case
abbrev pub is_spelled : List ℕ → List ℕ → Bool
is_spelled name bytes = str_eq_ignore_ascii_case name bytes

-- the path that a parameter names from the working directory, where it is not empty
abbrev pub path_in : AskerView → List ℕ → Option (List ℕ)
path_in who p = option_map (join_path who.cwd) (text_in p)

-- a parameter is not as it has to be
abbrev pub bad_plan : Plan
bad_plan = plan.Do (tells code.ParameterSyntaxError (codes "Invalid Parameter"))

-- what a word asks for on a path: a change, or else a look
abbrev pub request_on : ExtraWord → List ℕ → Request
request_on word.Mkd path = request.MakeDirectory path
request_on word.Xmkd path = request.MakeDirectory path
request_on word.Rmd path = request.RemoveDirectory path
request_on word.Xrmd path = request.RemoveDirectory path
request_on word.Dele path = request.Remove path
request_on _ path = request.Look path

-- this is asked for on a path, which there has to be
abbrev pub asked_on : (List ℕ → Request) → Option (List ℕ) → Plan
asked_on make None = bad_plan
asked_on make (Some path) = plan.Ask (make path)

-- what a word asks for on the path that its parameter names
abbrev pub word_asked : AskerView → ExtraWord → List ℕ → Plan
word_asked who w p = asked_on (request_on w) (path_in who p)

-- MLST: the facts of a path, or of the working directory
abbrev pub facts_plan : AskerView → List ℕ → Plan
facts_plan who p = plan.Ask (request.Look (unwrap_or (path_in who p) who.cwd))

-- RNTO: what RNFR named right before is moved
abbrev pub rename_plan : AskerView → Option (List ℕ) → List ℕ → Plan
rename_plan who None p = plan.Do (tells code.BadCommandSequence (codes "Use RNFR first"))
rename_plan who (Some from) p = asked_on (request.Rename from) (path_in who p)

-- MFMT: a moment, and behind it a path
abbrev pub date_plan : AskerView → List ℕ → Plan
date_plan who p =
    if is_moment (first_word p)
    then asked_on (λ path. request.SetModified path (first_word p)) (path_in who (behind_word p))
    else bad_plan

-- what is done on a word that is about files
abbrev pub file_plan : AskerView → Option (List ℕ) → ExtraWord → List ℕ → Option Plan
file_plan who before word.Mkd p = Some (word_asked who word.Mkd p)
file_plan who before word.Xmkd p = Some (word_asked who word.Xmkd p)
file_plan who before word.Rmd p = Some (word_asked who word.Rmd p)
file_plan who before word.Xrmd p = Some (word_asked who word.Xrmd p)
file_plan who before word.Dele p = Some (word_asked who word.Dele p)
file_plan who before word.Rnfr p = Some (word_asked who word.Rnfr p)
file_plan who before word.Size p = Some (word_asked who word.Size p)
file_plan who before word.Mdtm p = Some (word_asked who word.Mdtm p)
file_plan who before word.Mlst p = Some (facts_plan who p)
file_plan who before word.Rnto p = Some (rename_plan who before p)
file_plan who before word.Mfmt p = Some (date_plan who p)
file_plan who before _ p = None

-- PWD: the working directory, in quotes
abbrev pub directory_reply : AskerView → Extra
directory_reply who = says_text (OneLine (codes "257") (quoted (resolved who.cwd) ++ codes " is the current directory"))

-- CDUP: where `..` leads from the working directory
abbrev pub up_extra : AskerView → Extra
up_extra who = extra.As (command.Cwd (resolved (join_path who.cwd (codes ".."))))

-- the lines of FEAT: what is there beside the commands of RFC 959
abbrev pub features : Offers → List (List ℕ)
features o =
    codes " EPSV" ∷ codes " MDTM" ∷ codes " MFMT" ∷ codes " MLST type*;size*;modify*;"
    ∷ (if o.can_restart then codes " REST STREAM" ∷ [] else [])
    ++ codes " SIZE" ∷ codes " UTF8"
    ∷ (if o.is_behind_tls then codes " PBSZ" ∷ codes " PROT" ∷ [] else [])

-- FEAT
abbrev pub feature_reply : Offers → Extra
feature_reply o = says_text (ManyLines (codes "211") (codes "Extensions supported") (features o) (codes "End"))

-- OPTS: names are always UTF-8, and MLST always shows all its facts
abbrev pub option_reply : List ℕ → Extra
option_reply p =
    if is_spelled (codes "utf8") p || is_spelled (codes "utf8 on") p then tells code.CommandOkay (codes "Always in UTF8 mode") else
    (if is_spelled (codes "mlst") (first_word p) then tells code.CommandOkay (codes "MLST OPTS type;size;modify;") else
    tells code.ParameterSyntaxError (codes "Option not understood"))

-- STAT: who is logged in
abbrev pub user_line : AskerView → List ℕ
user_line who = codes " Logged in as " ++ sent_text (unwrap_or who.name [])

-- STAT: and where
abbrev pub place_line : AskerView → List ℕ
place_line who = codes " In the directory " ++ quoted (resolved who.cwd)

-- the lines of STAT
abbrev pub status_lines : AskerView → List (List ℕ)
status_lines who = user_line who ∷ place_line who ∷ codes " Transfers: binary, in stream mode, of files" ∷ []

-- STAT: the status of the session
abbrev pub session_status : AskerView → Extra
session_status who = says_text (ManyLines (codes "211") (codes "Status") (status_lines who) (codes "End"))

-- STAT tells of the session, and not of files
abbrev pub status_reply : AskerView → List ℕ → Extra
status_reply who p = if length p == 0 then session_status who else tells code.CommandNotImplemented (codes "Use LIST")

-- MODE and STRU: there is one
abbrev pub only_one : List ℕ → List ℕ → Extra
only_one letter p =
    if is_spelled letter p then tells code.CommandOkay (codes "As always") else
    says_text (OneLine (codes "504") (codes "Not implemented for that parameter"))

-- EPSV: as a PASV, over IP version 4; a client that will send no other command for a port is told so much
abbrev pub epsv_extra : List ℕ → Extra
epsv_extra p =
    if length p == 0 || is_spelled (codes "1") p then extra.Epsv else
    (if is_spelled (codes "all") p then tells code.CommandOkay (codes "Noted") else
    says_text (OneLine (codes "522") (codes "Network protocol not supported, use (1)")))

-- PROT: a proxy protects each connection
abbrev pub protection_reply : List ℕ → Extra
protection_reply p =
    if is_spelled (codes "p") p then tells code.CommandOkay (codes "Protection level set to P") else
    says_text (OneLine (codes "536") (codes "Only P is supported"))

-- this is done where a proxy ends TLS
abbrev pub secured : Offers → Extra → Extra
secured o x = if o.is_behind_tls then x else extra.Pass

-- what is done on a word that is about the session or the server: a STOU with a name is one without, as the server chooses the
-- name (RFC 959, section 4.1.3); PBSZ and PROT are words where a proxy ends TLS
abbrev pub session_extra : Offers → AskerView → ExtraWord → List ℕ → Extra
session_extra o who word.Pwd p = directory_reply who
session_extra o who word.Xpwd p = directory_reply who
session_extra o who word.Cdup p = up_extra who
session_extra o who word.Xcup p = up_extra who
session_extra o who word.Feat p = feature_reply o
session_extra o who word.Opts p = option_reply p
session_extra o who word.Syst p = says_text (OneLine (codes "215") (codes "UNIX Type: L8"))
session_extra o who word.Stat p = status_reply who p
session_extra o who word.Help p = says_text (OneLine (codes "214") (codes "See RFC 959"))
session_extra o who word.Allo p = says_text (OneLine (codes "202") (codes "No storage has to be allocated"))
session_extra o who word.Mode p = only_one (codes "s") p
session_extra o who word.Stru p = only_one (codes "f") p
session_extra o who word.Epsv p = epsv_extra p
session_extra o who word.Stou p = extra.As command.Stou
session_extra o who word.Clnt p = tells code.CommandOkay (codes "Noted")
session_extra o who word.Pbsz p = secured o (tells code.CommandOkay (codes "PBSZ=0"))
session_extra o who word.Prot p = secured o (protection_reply p)
session_extra o who _ p = extra.Pass

-- what is done on a word of who may use it
abbrev pub word_plan : Offers → AskerView → Option (List ℕ) → ExtraWord → List ℕ → Plan
word_plan o who before w p = unwrap_or (file_plan who before w p) (plan.Do (session_extra o who w p))

-- the login comes first, but for the open words
abbrev pub login_plan : Offers → AskerView → Option (List ℕ) → ExtraWord → List ℕ → Plan
login_plan o who before w p =
    if who.is_in || is_open_word w then word_plan o who before w p else
    plan.Do (tells code.NotLoggedIn (codes "Please authenticate"))

-- the argument of a listing is no path: it has a wildcard, or begins with a hyphen
abbrev pub is_wildcard : ℕ → Bool
is_wildcard byte = byte == 42 || byte == 63

abbrev pub begins_with_hyphen : List ℕ → Bool
begins_with_hyphen [] = false
begins_with_hyphen (byte ∷ bytes) = byte == 45

abbrev pub is_pattern : List ℕ → Bool
is_pattern argument = begins_with_hyphen argument || list_any is_wildcard argument

-- what stands at a path is looked at
abbrev pub look_plan : AskerView → List ℕ → Plan
look_plan who path = plan.Ask (request.Look (join_path who.cwd path))

-- a listing of a path is looked at first, and one of a pattern is not
abbrev pub list_plan : AskerView → Option (List ℕ) → Plan
list_plan who None = plan.Do extra.Pass
list_plan who (Some path) = if is_pattern path then plan.Do extra.Pass else look_plan who path

-- MLSD takes no pattern (RFC 3659, section 7.1): its path is looked at
abbrev pub facts_list_plan : AskerView → Option (List ℕ) → Plan
facts_list_plan who None = plan.Do extra.Pass
facts_list_plan who (Some path) = look_plan who path

-- the directory is looked at in which a file is to be stored
abbrev pub store_plan : AskerView → List ℕ → Plan
store_plan who path = plan.Ask (request.Look (parent (join_path who.cwd path)))

-- what is looked at before a transfer: the file that is to be sent, the directory in which one is to be stored, or what is
-- to be listed
abbrev pub transfer_plan : AskerView → DataChanCmd → Plan
transfer_plan who (move.Retr path) = look_plan who path
transfer_plan who (move.Stor path) = store_plan who path
transfer_plan who (move.Appe path) = store_plan who path
transfer_plan who (move.Mlsd path) = facts_list_plan who path
transfer_plan who c = list_plan who (path_of c)

-- what is done on the line of a command
abbrev pub plan_of : Offers → AskerView → Option (List ℕ) → Command → List ℕ → Plan
plan_of o who before (command.Other w) line =
    option_map_or (λ known. login_plan o who before known (parameter line)) (extra_word_of w) (plan.Do extra.Pass)
plan_of o who before (command.Data c) line = if who.is_in then transfer_plan who c else plan.Do extra.Pass
plan_of o who before _ line = plan.Do extra.Pass
