-- What is told once an archive has answered stands beside the profile, and is whole replies.
use Rattle.std.proofs.Common.{◌≡◌, ℕ, Bool, true, false, List, [], ◌∷◌, ◌++◌, Option, Some, None, refl, sym, subst, decimal}
use Rattle.std.specs.Prelude.{codes, IfSome}
use Rattle.std.specs.Option.{option_map_or}
use Rattle.std.specs.List.{list_all}
use Rattle.std.specs.Char.{is_ascii_digit}
use Rattle.ftp_base.specs.declared.command.DataChanCmd.{DataChanCmd}
use Rattle.ftp_base.specs.declared.command.DataChanCmd.TheVariants as move
use Rattle.ftp_transfer.specs.Listing.{facts}
use Rattle.ftp_control.specs.declared.command.Command.{Command}
use Rattle.ftp_control.specs.declared.command.Command.TheVariants as command
use Rattle.ftp_extras.specs.declared.archive.Found.{Found}
use Rattle.ftp_extras.specs.declared.archive.Request.{Request}
use Rattle.ftp_extras.specs.declared.archive.Request.TheVariants as request
use Rattle.ftp_extras.specs.declared.archive.Response.{Response}
use Rattle.ftp_extras.specs.declared.archive.Response.TheVariants as response
use Rattle.ftp_extras.specs.declared.extra.Extra.{Extra}
use Rattle.ftp_extras.specs.declared.extra.Extra.TheVariants as extra
use Rattle.ftp_extras.specs.declared.word.ExtraWord.{ExtraWord}
use Rattle.ftp_extras.specs.declared.word.ExtraWord.TheVariants as word
use Rattle.ftp_extras.specs.Answers.{facts_line, date_fact, facts_reply, size_reply, date_reply, found_reply, dated_reply, done_reply, word_reply, refused_for, transfer_reply, reply_by, CanAnswer}
use Rattle.ftp_extras.specs.Archive.{is_sound, IsDated}
use Rattle.ftp_extras.specs.Extra.{is_beside, is_passed_or_refused, IsWhole}
use Rattle.ftp_extras.specs.Moment.{is_moment}
use Rattle.ftp_extras.specs.ReplyLines.{ManyLines, epsv_reply, is_whole_reply}
use Rattle.ftp_extras.specs.Texts.{resolved, sent_text}
use Rattle.ftp_extras.specs.Words.{extra_word_of}
use Rattle.ftp_extras.proofs.LineLemmas.{HasNoFeed, both_in_line, sent_text-in_line, decimal-in_line, digits-in_line, facts-in_line, both_true}
use Rattle.ftp_extras.proofs.FineLemmas.{one_reply, one_line, either}

-- the reply to an EPSV stands in its line
pub whole_epsv_reply : (port : ℕ) → is_whole_reply (epsv_reply port) ≡ true
whole_epsv_reply port =
    let front = codes "Entering Extended Passive Mode (|||" ++ decimal port in
    let front_in : HasNoFeed front = both_in_line (codes "Entering Extended Passive Mode (|||") (decimal port) refl (decimal-in_line port) in
    let line_in : HasNoFeed (front ++ codes "|)") = both_in_line front (codes "|)") front_in refl in
    rw line_in refl

-- a moment is digits
moment-digits : (at : List ℕ) → is_moment at ≡ true → list_all is_ascii_digit at ≡ true
moment-digits at h =
    let a = both_true _ _ h in
    let b = both_true _ _ a.0 in
    let c = both_true _ _ b.0 in
    let d = both_true _ _ c.0 in
    let e = both_true _ _ d.0 in
    (both_true _ _ e.0).1

moment-in_line : (at : List ℕ) → is_moment at ≡ true → HasNoFeed at
moment-in_line at h = digits-in_line at (moment-digits at h)

whole-size : (found : Found) → IsWhole (size_reply found)
whole-size found = either found.meta.is_dir _ _ tt (one_line (codes "213") (decimal found.meta.len) refl (decimal-in_line found.meta.len))

whole-date : (modified : Option (List ℕ)) → IfSome modified (λ at. is_moment at ≡ true) → IsWhole (date_reply modified)
whole-date None dated = tt
whole-date (Some at) dated = one_line (codes "213") at refl (moment-in_line at dated)

date_fact-in_line : (modified : Option (List ℕ)) → IfSome modified (λ at. is_moment at ≡ true) → HasNoFeed (date_fact modified)
date_fact-in_line None dated = refl
date_fact-in_line (Some at) dated =
    both_in_line (codes "modify=" ++ at) (codes ";") (both_in_line (codes "modify=") at refl (moment-in_line at dated)) refl

whole-facts : (path : List ℕ) (found : Found) → IsDated found → IsWhole (facts_reply path found)
whole-facts path found dated =
    let front = codes " " ++ facts found.meta in
    let front_in : HasNoFeed front = both_in_line (codes " ") (facts found.meta) refl (facts-in_line found.meta) in
    let dated_in : HasNoFeed (front ++ date_fact found.modified) =
    both_in_line front (date_fact found.modified) front_in (date_fact-in_line found.modified dated)
    in
    let blank_in : HasNoFeed (front ++ date_fact found.modified ++ codes " ") = both_in_line (front ++ date_fact found.modified) (codes " ") dated_in refl in
    let line_in : HasNoFeed (facts_line path found) =
    both_in_line (front ++ date_fact found.modified ++ codes " ") (sent_text (resolved path)) blank_in (sent_text-in_line (resolved path))
    in
    one_reply (ManyLines (codes "250") (codes "Facts") (facts_line path found ∷ []) (codes "End")) (rw line_in refl)

whole-found : (w : ExtraWord) (path : List ℕ) (found : Found) → IsDated found → IsWhole (found_reply w path found)
whole-found word.Rnfr path found dated = tt
whole-found word.Size path found dated = whole-size found
whole-found word.Mdtm path found dated = whole-date found.modified dated
whole-found word.Mlst path found dated = whole-facts path found dated
whole-found word.Pwd path found dated = tt
whole-found word.Xpwd path found dated = tt
whole-found word.Cdup path found dated = tt
whole-found word.Xcup path found dated = tt
whole-found word.Mkd path found dated = tt
whole-found word.Xmkd path found dated = tt
whole-found word.Rmd path found dated = tt
whole-found word.Xrmd path found dated = tt
whole-found word.Dele path found dated = tt
whole-found word.Rnto path found dated = tt
whole-found word.Mfmt path found dated = tt
whole-found word.Feat path found dated = tt
whole-found word.Opts path found dated = tt
whole-found word.Syst path found dated = tt
whole-found word.Stat path found dated = tt
whole-found word.Help path found dated = tt
whole-found word.Allo path found dated = tt
whole-found word.Mode path found dated = tt
whole-found word.Stru path found dated = tt
whole-found word.Epsv path found dated = tt
whole-found word.Stou path found dated = tt
whole-found word.Clnt path found dated = tt
whole-found word.Pbsz path found dated = tt
whole-found word.Prot path found dated = tt

whole-dated : (path at : List ℕ) → is_moment at ≡ true → IsWhole (dated_reply path at)
whole-dated path at sound =
    let front = codes "Modify=" ++ at in
    let front_in : HasNoFeed front = both_in_line (codes "Modify=") at refl (moment-in_line at sound) in
    let mark_in : HasNoFeed (front ++ codes "; ") = both_in_line front (codes "; ") front_in refl in
    one_line (codes "213") (front ++ codes "; " ++ sent_text (resolved path)) refl
    (both_in_line (front ++ codes "; ") (sent_text (resolved path)) mark_in (sent_text-in_line (resolved path)))

whole-done : (r : Request) → is_sound r ≡ true → IsWhole (done_reply r)
whole-done (request.Look path) sound = tt
whole-done (request.Remove path) sound = tt
whole-done (request.MakeDirectory path) sound = tt
whole-done (request.RemoveDirectory path) sound = tt
whole-done (request.Rename from to) sound = tt
whole-done (request.SetModified path at) sound = whole-dated path at sound

whole-word : (w : ExtraWord) (r : Request) (s : Response) → is_sound r ≡ true → CanAnswer r s → IsWhole (word_reply w r s)
whole-word w (request.Look path) (response.Found found) sound can = whole-found w path found can
whole-word w (request.Remove path) (response.Found found) sound can = absurd can
whole-word w (request.MakeDirectory path) (response.Found found) sound can = absurd can
whole-word w (request.RemoveDirectory path) (response.Found found) sound can = absurd can
whole-word w (request.Rename from to) (response.Found found) sound can = absurd can
whole-word w (request.SetModified path at) (response.Found found) sound can = absurd can
whole-word w r response.Done sound can = whole-done r sound
whole-word w r (response.Refused k) sound can = tt
whole-word w r response.Failed sound can = tt

-- a transfer goes on or is refused
abbrev IsRefusal : Extra → Type 0
IsRefusal x = (is_passed_or_refused x ≡ true) × IsWhole x

refusal-found : (c : DataChanCmd) (is_dir : Bool) → IsRefusal (refused_for c is_dir)
refusal-found (move.Retr path) true = (refl, tt)
refusal-found (move.Retr path) false = (refl, tt)
refusal-found (move.Stor path) true = (refl, tt)
refusal-found (move.Stor path) false = (refl, tt)
refusal-found (move.Appe path) true = (refl, tt)
refusal-found (move.Appe path) false = (refl, tt)
refusal-found (move.List options path) true = (refl, tt)
refusal-found (move.List options path) false = (refl, tt)
refusal-found (move.Nlst path) true = (refl, tt)
refusal-found (move.Nlst path) false = (refl, tt)
refusal-found (move.Mlsd path) true = (refl, tt)
refusal-found (move.Mlsd path) false = (refl, tt)

refusal-transfer : (c : DataChanCmd) (s : Response) → IsRefusal (transfer_reply c s)
refusal-transfer c (response.Found found) = refusal-found c found.meta.is_dir
refusal-transfer c (response.Refused k) = (refl, tt)
refusal-transfer c response.Done = (refl, tt)
refusal-transfer c response.Failed = (refl, tt)

-- this stands beside the profile on the line of the command, and is whole replies
abbrev pub IsFineOn : Command → Extra → Type 0
IsFineOn c x = (is_beside c x ≡ true) × IsWhole x

fine-known_reply : (w : List ℕ) (r : Request) (s : Response) (known : Option ExtraWord) → is_sound r ≡ true → CanAnswer r s →
    IsFineOn (command.Other w) (option_map_or (λ k. word_reply k r s) known extra.Pass)
fine-known_reply w r s None sound can = (refl, tt)
fine-known_reply w r s (Some known) sound can = (refl, whole-word known r s sound can)

fine-reply : (c : Command) (r : Request) (s : Response) → is_sound r ≡ true → CanAnswer r s → IsFineOn c (reply_by c r s)
fine-reply (command.Other w) r s sound can = fine-known_reply w r s (extra_word_of w) sound can
fine-reply (command.Data c) r s sound can = refusal-transfer c s
fine-reply (command.User name) r s sound can = (refl, tt)
fine-reply (command.Pass password) r s sound can = (refl, tt)
fine-reply (command.Cwd path) r s sound can = (refl, tt)
fine-reply (command.Port text) r s sound can = (refl, tt)
fine-reply (command.Rest offset) r s sound can = (refl, tt)
fine-reply command.Pasv r s sound can = (refl, tt)
fine-reply command.Stou r s sound can = (refl, tt)
fine-reply command.Abor r s sound can = (refl, tt)
fine-reply command.Quit r s sound can = (refl, tt)
fine-reply command.Noop r s sound can = (refl, tt)
fine-reply command.TypeCmd r s sound can = (refl, tt)

-- what is done once an archive was asked for what is sound is fine
pub asked-fine : (c : Command) (r : Request) (s : Response) (x : Extra) → is_sound r ≡ true → CanAnswer r s → x ≡ reply_by c r s → IsFineOn c x
asked-fine c r s x sound can e = subst (IsFineOn c) (sym e) (fine-reply c r s sound can)
