use Rattle.std.proofs.Common.{◌≡◌, ◌∙◌, ℕ, List, true, false, refl, sym}
use Rattle.std.specs.List.{list_any}
use Rattle.std.specs.Str.{is_utf8}
use Rattle.std.proofs.lemmas.Bool.{false_from_ne_true}
use Rattle.std.proofs.lemmas.Str.{IsUtf8-from_is_utf8, is_utf8-from_IsUtf8}
use Rattle.ftp_config.specs.Home.{is_rooted, is_control, is_home}
use Rattle.ftp_config.proofs.home.home_path.Goals as goal

-- an absolute path without control characters may be a home exactly where it is text
by_text : (path : List ℕ) → is_rooted path ≡ true → list_any is_control path ≡ false → is_home path ≡ is_utf8 path
by_text path absolute control = rw (absolute, control) refl

pub returns-in-Ok-clause-home : goal.returns-in-Ok-clause-home
returns-in-Ok-clause-home c =
    let path = c.args.path.now in
    let text = by_text path (sym c.is_rooted.ensures ∙ c.if-not-is_rooted.false) (sym c.has_control.ensures ∙ c.if-has_control.false) in
    sym (text ∙ is_utf8-from_IsUtf8 path c.in-Ok.ensures.cases.1)

pub returns-in-Err-clause-home : goal.returns-in-Err-clause-home
returns-in-Err-clause-home c =
    let path = c.args.path.now in
    let text = by_text path (sym c.is_rooted.ensures ∙ c.if-not-is_rooted.false) (sym c.has_control.ensures ∙ c.if-has_control.false) in
    sym (text ∙ false_from_ne_true (is_utf8 path) (λ holds. c.in-Err.ensures.cases.0 (IsUtf8-from_is_utf8 path holds)))
