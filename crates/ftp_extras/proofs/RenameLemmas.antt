-- RNTO moves only what RNFR named on the line before.
use Rattle.std.proofs.Common.{◌≡◌, ℕ, Bool, true, false, cond, ◌||◌, List, Option, Some, None, refl, sym, subst, ap, ◌∙◌}
use Rattle.std.specs.Prelude.{codes, unwrap_or, length, ◌==◌}
use Rattle.std.specs.Option.{option_map_or}
use Rattle.ftp_base.specs.declared.message.ControlChanMsg.TheVariants.{RenameSuccess}
use Rattle.ftp_control.specs.declared.command.Command.TheVariants.{Other}
use Rattle.ftp_control.specs.Line.{parameter}
use Rattle.ftp_control.specs.Parameter.{first_word, behind_word}
use Rattle.ftp_extras.specs.declared.archive.Found.{Found}
use Rattle.ftp_extras.specs.declared.archive.Request.{Request}
use Rattle.ftp_extras.specs.declared.archive.Request.TheVariants as request
use Rattle.ftp_extras.specs.declared.archive.Response.{Response}
use Rattle.ftp_extras.specs.declared.archive.Response.TheVariants as response
use Rattle.ftp_extras.specs.declared.extra.Extra.{Extra}
use Rattle.ftp_extras.specs.declared.extra.Extra.TheVariants as extra
use Rattle.ftp_extras.specs.declared.plan.Offers.{Offers}
use Rattle.ftp_extras.specs.declared.plan.Plan.{Plan}
use Rattle.ftp_extras.specs.declared.plan.Plan.TheVariants as plan
use Rattle.ftp_extras.specs.declared.word.ExtraWord.{ExtraWord}
use Rattle.ftp_extras.specs.declared.word.ExtraWord.TheVariants as word
use Rattle.ftp_extras.specs.Answers.{found_reply, date_reply, word_reply, CanAnswer, IsDone}
use Rattle.ftp_extras.specs.Extra.{AskerView}
use Rattle.ftp_extras.specs.Laws.{RenamesWhatWasNamed}
use Rattle.ftp_extras.specs.Moment.{is_moment}
use Rattle.ftp_extras.specs.Plan.{path_in, bad_plan, asked_on, rename_plan, date_plan, file_plan, is_spelled, session_extra, login_plan}
use Rattle.ftp_extras.specs.Words.{extra_word_of, is_open_word}

-- a rename is told
abbrev is_rename : Extra → Bool
is_rename (extra.Tell (RenameSuccess from to)) = true
is_rename _ = false

not_told : (x : Extra) (from to : List ℕ) → is_rename x ≡ false → x ≡ extra.Tell (RenameSuccess from to) → ⊥
not_told x from to other e =
    let yes : is_rename x ≡ true = ap is_rename e in
    cc

-- a rename is only asked for, of what was named before
abbrev OnlyRenames : Option (List ℕ) → Plan → Type 0
OnlyRenames before (plan.Do x) = is_rename x ≡ false
OnlyRenames before (plan.Ask (request.Rename from to)) = before ≡ Some from
OnlyRenames before (plan.Ask r) = Unit {0}

only-asked_on : (before : Option (List ℕ)) (make : List ℕ → Request) → ((path : List ℕ) → OnlyRenames before (plan.Ask (make path))) →
    (path : Option (List ℕ)) → OnlyRenames before (asked_on make path)
only-asked_on before make each None = refl
only-asked_on before make each (Some path) = each path

only-rename : (who : AskerView) (before : Option (List ℕ)) (p : List ℕ) → OnlyRenames before (rename_plan who before p)
only-rename who None p = refl
only-rename who (Some from) p = only-asked_on (Some from) (request.Rename from) (λ path. refl) (path_in who p)

only-either : (before : Option (List ℕ)) (b : Bool) (x y : Plan) → OnlyRenames before x → OnlyRenames before y → OnlyRenames before (cond b x y)
only-either before true x y hx hy = hx
only-either before false x y hx hy = hy

only-date : (who : AskerView) (before : Option (List ℕ)) (p : List ℕ) → OnlyRenames before (date_plan who p)
only-date who before p =
    only-either before (is_moment (first_word p)) _ bad_plan
    (only-asked_on before (λ path. request.SetModified path (first_word p)) (λ path. tt) (path_in who (behind_word p)))
    refl

abbrev IfOnly : Option (List ℕ) → Option Plan → Type 0
IfOnly before None = Unit {0}
IfOnly before (Some p) = OnlyRenames before p

only-file : (who : AskerView) (before : Option (List ℕ)) (w : ExtraWord) (p : List ℕ) → IfOnly before (file_plan who before w p)
only-file who before word.Pwd p = tt
only-file who before word.Xpwd p = tt
only-file who before word.Cdup p = tt
only-file who before word.Xcup p = tt
only-file who before word.Mkd p = only-asked_on before (λ path. request.MakeDirectory path) (λ path. tt) (path_in who p)
only-file who before word.Xmkd p = only-asked_on before (λ path. request.MakeDirectory path) (λ path. tt) (path_in who p)
only-file who before word.Rmd p = only-asked_on before (λ path. request.RemoveDirectory path) (λ path. tt) (path_in who p)
only-file who before word.Xrmd p = only-asked_on before (λ path. request.RemoveDirectory path) (λ path. tt) (path_in who p)
only-file who before word.Dele p = only-asked_on before (λ path. request.Remove path) (λ path. tt) (path_in who p)
only-file who before word.Rnfr p = only-asked_on before (λ path. request.Look path) (λ path. tt) (path_in who p)
only-file who before word.Rnto p = only-rename who before p
only-file who before word.Size p = only-asked_on before (λ path. request.Look path) (λ path. tt) (path_in who p)
only-file who before word.Mdtm p = only-asked_on before (λ path. request.Look path) (λ path. tt) (path_in who p)
only-file who before word.Mfmt p = only-date who before p
only-file who before word.Mlst p = tt
only-file who before word.Feat p = tt
only-file who before word.Opts p = tt
only-file who before word.Syst p = tt
only-file who before word.Stat p = tt
only-file who before word.Help p = tt
only-file who before word.Allo p = tt
only-file who before word.Mode p = tt
only-file who before word.Stru p = tt
only-file who before word.Epsv p = tt
only-file who before word.Stou p = tt
only-file who before word.Clnt p = tt
only-file who before word.Pbsz p = tt
only-file who before word.Prot p = tt

neither : (b : Bool) (x y : Extra) → is_rename x ≡ false → is_rename y ≡ false → is_rename (cond b x y) ≡ false
neither true x y hx hy = hx
neither false x y hx hy = hy

no-session : (o : Offers) (who : AskerView) (w : ExtraWord) (p : List ℕ) → is_rename (session_extra o who w p) ≡ false
no-session o who word.Pwd p = refl
no-session o who word.Xpwd p = refl
no-session o who word.Cdup p = refl
no-session o who word.Xcup p = refl
no-session o who word.Mkd p = refl
no-session o who word.Xmkd p = refl
no-session o who word.Rmd p = refl
no-session o who word.Xrmd p = refl
no-session o who word.Dele p = refl
no-session o who word.Rnfr p = refl
no-session o who word.Rnto p = refl
no-session o who word.Size p = refl
no-session o who word.Mdtm p = refl
no-session o who word.Mfmt p = refl
no-session o who word.Mlst p = refl
no-session o who word.Feat p = refl
no-session o who word.Opts p = neither (is_spelled (codes "utf8") p || is_spelled (codes "utf8 on") p) _ _ refl (neither (is_spelled (codes "mlst") (first_word p)) _ _ refl refl)
no-session o who word.Syst p = refl
no-session o who word.Stat p = neither (length p == 0) _ _ refl refl
no-session o who word.Help p = refl
no-session o who word.Allo p = refl
no-session o who word.Mode p = neither (is_spelled (codes "s") p) _ _ refl refl
no-session o who word.Stru p = neither (is_spelled (codes "f") p) _ _ refl refl
no-session o who word.Epsv p = neither (length p == 0 || is_spelled (codes "1") p) _ _ refl (neither (is_spelled (codes "all") p) _ _ refl refl)
no-session o who word.Stou p = refl
no-session o who word.Clnt p = refl
no-session o who word.Pbsz p = neither o.is_behind_tls _ _ refl refl
no-session o who word.Prot p = neither o.is_behind_tls _ _ (neither (is_spelled (codes "p") p) _ _ refl refl) refl

only-word : (before : Option (List ℕ)) (f : Option Plan) (x : Extra) → IfOnly before f → is_rename x ≡ false → OnlyRenames before (unwrap_or f (plan.Do x))
only-word before None x hf hx = hx
only-word before (Some p) x hf hx = hf

only-login : (o : Offers) (who : AskerView) (before : Option (List ℕ)) (w : ExtraWord) (p : List ℕ) → OnlyRenames before (login_plan o who before w p)
only-login o who before w p =
    only-either before (who.is_in || is_open_word w) _ _
    (only-word before (file_plan who before w p) (session_extra o who w p) (only-file who before w p) (no-session o who w p))
    refl

no-date : (modified : Option (List ℕ)) → is_rename (date_reply modified) ≡ false
no-date None = refl
no-date (Some at) = refl

no-found : (w : ExtraWord) (path : List ℕ) (found : Found) → is_rename (found_reply w path found) ≡ false
no-found word.Pwd path found = refl
no-found word.Xpwd path found = refl
no-found word.Cdup path found = refl
no-found word.Xcup path found = refl
no-found word.Mkd path found = refl
no-found word.Xmkd path found = refl
no-found word.Rmd path found = refl
no-found word.Xrmd path found = refl
no-found word.Dele path found = refl
no-found word.Rnfr path found = refl
no-found word.Rnto path found = refl
no-found word.Size path found = neither found.meta.is_dir _ _ refl refl
no-found word.Mdtm path found = no-date found.modified
no-found word.Mfmt path found = refl
no-found word.Mlst path found = refl
no-found word.Feat path found = refl
no-found word.Opts path found = refl
no-found word.Syst path found = refl
no-found word.Stat path found = refl
no-found word.Help path found = refl
no-found word.Allo path found = refl
no-found word.Mode path found = refl
no-found word.Stru path found = refl
no-found word.Epsv path found = refl
no-found word.Stou path found = refl
no-found word.Clnt path found = refl
no-found word.Pbsz path found = refl
no-found word.Prot path found = refl

-- what is told on a word is a rename only where one was asked for
only-reply : (before : Option (List ℕ)) (w : ExtraWord) (r : Request) (s : Response) (from to : List ℕ) → OnlyRenames before (plan.Ask r) → CanAnswer r s →
    word_reply w r s ≡ extra.Tell (RenameSuccess from to) → before ≡ Some from
only-reply before w (request.Look path) (response.Found found) from to only can e = absurd (not_told _ from to (no-found w path found) e)
only-reply before w (request.Remove path) (response.Found found) from to only can e = absurd can
only-reply before w (request.MakeDirectory path) (response.Found found) from to only can e = absurd can
only-reply before w (request.RemoveDirectory path) (response.Found found) from to only can e = absurd can
only-reply before w (request.Rename a b) (response.Found found) from to only can e = absurd can
only-reply before w (request.SetModified path at) (response.Found found) from to only can e = absurd can
only-reply before w (request.Look path) response.Done from to only can e = absurd (not_told _ from to refl e)
only-reply before w (request.Remove path) response.Done from to only can e = absurd (not_told _ from to refl e)
only-reply before w (request.MakeDirectory path) response.Done from to only can e = absurd (not_told _ from to refl e)
only-reply before w (request.RemoveDirectory path) response.Done from to only can e = absurd (not_told _ from to refl e)
only-reply before w (request.Rename a b) response.Done from to only can e =
    let same : a ≡ from = cc in
    subst (λ (path : List ℕ). before ≡ Some path) same only
only-reply before w (request.SetModified path at) response.Done from to only can e = absurd (not_told _ from to refl e)
only-reply before w r (response.Refused k) from to only can e = absurd (not_told _ from to refl e)
only-reply before w r response.Failed from to only can e = absurd (not_told _ from to refl e)

only-done : (before : Option (List ℕ)) (word : List ℕ) (known : ExtraWord) (p : Plan) (x : Extra) (after : Option (List ℕ)) (from to : List ℕ) →
    extra_word_of word ≡ Some known → OnlyRenames before p → IsDone CanAnswer (Other word) p x after → x ≡ extra.Tell (RenameSuccess from to) → before ≡ Some from
only-done before word known (plan.Do y) x after from to spelled only done e = absurd (not_told y from to only (sym done.0 ∙ e))
only-done before word known (plan.Ask r) x after from to spelled only done e =
    let told : x ≡ word_reply known r done.0 = done.2 ∙ ap (λ (k : Option ExtraWord). option_map_or (λ w. word_reply w r done.0) k extra.Pass) spelled in
    only-reply before known r done.0 from to only done.1 (sym told ∙ e)

-- the law
pub renames : RenamesWhatWasNamed
renames o who before word line from to x after done e = by (extra_word_of word) refl where
  by : (found : Option ExtraWord) → extra_word_of word ≡ found → before ≡ Some from
  by None none =
      let passed : IsDone CanAnswer (Other word) (plan.Do extra.Pass) x after =
      subst (λ (k : Option ExtraWord). IsDone CanAnswer (Other word) (option_map_or (λ w. login_plan o who before w (parameter line)) k (plan.Do extra.Pass)) x after) none done
      in
      absurd (not_told extra.Pass from to refl (sym passed.0 ∙ e))
  by (Some known) spelled =
      let planned : IsDone CanAnswer (Other word) (login_plan o who before known (parameter line)) x after =
      subst (λ (k : Option ExtraWord). IsDone CanAnswer (Other word) (option_map_or (λ w. login_plan o who before w (parameter line)) k (plan.Do extra.Pass)) x after) spelled done
      in
      only-done before word known (login_plan o who before known (parameter line)) x after from to spelled (only-login o who before known (parameter line)) planned e
