use Rattle.std.proofs.Common.{◌≡◌, ap, subst, ◌∙◌, ℕ, List}
use Rattle.std.specs.Prelude.{IfOk}
use Rattle.uuid.specs.declared.Variant.TheVariants.{RFC4122}
use Rattle.uuid.specs.declared.Version.TheVariants.{Random}
use Rattle.uuid.specs.Parts.{with_variant, with_version}
use Rattle.uuid.specs.Text.{hyphenated_text, lower}
use Rattle.ftp_events.specs.Text.{unique_name}
use Rattle.ftp_events.proofs.text.unique_name.Goals as goal

-- the text is that of the UUID that is made of the word's bytes
pub returns : goal.returns
returns c =
    let id : c.hyphenated.result ≡ with_version (with_variant c.to_be_bytes.result RFC4122) Random = c.hyphenated.ensures ∙ c.into_uuid-id.ensures ∙ c.from_random_bytes.ensures.value in
    let text : c.as_bytes.result.now ≡ unique_name c.args.word =
    c.as_bytes.ensures.value ∙ c.encode_lower-name.ensures.text
    ∙ ap (hyphenated_text lower) (id ∙ ap (λ (b : List ℕ). with_version (with_variant b RFC4122) Random) c.to_be_bytes.ensures) in
    subst (λ (t : List ℕ). IfOk c.from_slice.result (λ name. name ≡ t)) text c.from_slice.ensures
