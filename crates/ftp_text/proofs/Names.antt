-- A text without spaces is a word as it is spelled, and the text of a word has none.
use Rattle.std.proofs.Common.{◌≢◌, ℕ, ◌/◌, ◌%◌, ◌<◌, Bool, true, false, cond, List, [], ◌∷◌, refl, subst, arith}
use Rattle.std.proofs.lemmas.Bool.Decides.{nat_tests}
use Rattle.ftp_text.specs.Fields.{is_plain, hex_byte, escape_byte, escape, IsText, IsName}
use Rattle.ftp_text.proofs.Exact.{Pass, is_word_byte}
use Rattle.ftp_text.proofs.Lists.{pass-append, pass-parts}
use Rattle.ftp_text.proofs.HexTexts.{glyph_passes}

byte_passes : (b : ℕ) → b < 256 → b ≢ 32 → Pass is_word_byte (escape_byte b)
byte_passes b lt no_space = cases (is_plain b) where
  cases : (p : Bool) → Pass is_word_byte (cond p (b ∷ []) (92 ∷ 120 ∷ hex_byte b))
  cases true = (grind (arith, nat_tests), tt)
  cases false = (refl, (refl, (glyph_passes (b / 16) (omega arith), (glyph_passes (b % 16) (omega arith), tt))))

-- a name is one word
pub name_passes : (name : List ℕ) → IsName name → Pass is_word_byte (escape name)
name_passes [] fits = tt
name_passes (b ∷ name) fits = pass-append is_word_byte (escape_byte b) (escape name) (byte_passes b fits.0.0 fits.0.1) (name_passes name fits.1)

byte_named : (b : ℕ) → Pass is_word_byte (escape_byte b) → b ≢ 32
byte_named b pass space = let p : Pass is_word_byte (32 ∷ []) = subst (λ (c : ℕ). Pass is_word_byte (escape_byte c)) space pass in absurd cc

-- the text of a word is a name
pub named : (name : List ℕ) → IsText name → Pass is_word_byte (escape name) → IsName name
named [] fits pass = tt
named (b ∷ name) fits pass =
    let p = pass-parts is_word_byte (escape_byte b) (escape name) pass in
    ((fits.0, byte_named b p.0), named name fits.1 p.1)

-- a name is a text
pub name_fits : (name : List ℕ) → IsName name → IsText name
name_fits [] fits = tt
name_fits (b ∷ name) fits = (fits.0.0, name_fits name fits.1)
