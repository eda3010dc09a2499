use Rattle.std.proofs.Common.{◌≡◌, ◌∙◌, ℕ, List, true, false, refl, sym}
use Rattle.std.specs.List.{list_any}
use Rattle.std.specs.Str.{is_utf8}
use Rattle.std.proofs.lemmas.Bool.{false_from_ne_true}
use Rattle.std.proofs.lemmas.Str.{IsUtf8-from_is_utf8, is_utf8-from_IsUtf8}
use Rattle.ftp_places.specs.Names.{is_separator, is_nul, is_here, is_up, is_file_name}
use Rattle.ftp_places.proofs.names.file_name.Goals as goal

-- a name that is none of these may be a file's exactly where it is text
by_text : (name : List ℕ) → is_here name ≡ false → is_up name ≡ false → list_any is_separator name ≡ false → list_any is_nul name ≡ false → is_file_name name ≡ is_utf8 name
by_text name here up slash nul = rw (here, up, slash, nul) refl

pub returns-in-Ok-clause-named : goal.returns-in-Ok-clause-named
returns-in-Ok-clause-named c =
    let name = c.args.name.now in
    let text = by_text name (sym c.is_here.ensures ∙ c.if-is_here.false) (sym c.is_up.ensures ∙ c.if-is_up.false) (sym c.has_separator.ensures ∙ c.if-has_separator.false) (sym c.has_nul.ensures ∙ c.if-has_nul.false) in
    sym (text ∙ is_utf8-from_IsUtf8 name c.in-Ok.ensures.cases.1)

pub returns-in-Err-clause-named : goal.returns-in-Err-clause-named
returns-in-Err-clause-named c =
    let name = c.args.name.now in
    let text = by_text name (sym c.is_here.ensures ∙ c.if-is_here.false) (sym c.is_up.ensures ∙ c.if-is_up.false) (sym c.has_separator.ensures ∙ c.if-has_separator.false) (sym c.has_nul.ensures ∙ c.if-has_nul.false) in
    sym (text ∙ false_from_ne_true (is_utf8 name) (λ holds. c.in-Err.ensures.cases.0 (IsUtf8-from_is_utf8 name holds)))
