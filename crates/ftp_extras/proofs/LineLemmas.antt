-- Texts that stand in one line.
use Rattle.std.proofs.Common.{◌≡◌, ◌∙◌, ℕ, zero, suc, ◌<◌, ◌/◌, ◌%◌, Bool, true, false, cond, ◌&&◌, List, [], ◌∷◌, ◌++◌, refl, arith, decimal}
use Rattle.std.specs.Prelude.{◌==◌, codes}
use Rattle.std.specs.Fmt.{digits, digits_onto, digit_glyph}
use Rattle.std.specs.List.{list_any, list_all, flat_map}
use Rattle.std.specs.Char.{is_ascii_digit}
use Rattle.std.proofs.lemmas.List.Folds.{list_any-append}
use Rattle.std.proofs.lemmas.Bool.Decides.{nat_tests}
use Rattle.ftp_base.specs.declared.storage.Meta.{Meta}
use Rattle.ftp_transfer.specs.Listing.{facts}
use Rattle.ftp_extras.specs.ReplyLines.{is_feed, is_in_line}
use Rattle.ftp_extras.specs.Texts.{sent_byte, sent_text, quoted_byte, quoted}

-- no line feed is in these bytes
abbrev pub HasNoFeed : List ℕ → Type 0
HasNoFeed text = list_any is_feed text ≡ false

pub both_in_line : (a b : List ℕ) → HasNoFeed a → HasNoFeed b → HasNoFeed (a ++ b)
both_in_line a b ha hb = list_any-append is_feed a b ∙ rw (ha, hb) refl

pub flat_map-in_line : (f : ℕ → List ℕ) → ((b : ℕ) → HasNoFeed (f b)) → (bytes : List ℕ) → HasNoFeed (flat_map f bytes)
flat_map-in_line f each [] = refl
flat_map-in_line f each (b ∷ bytes) = both_in_line (f b) (flat_map f bytes) (each b) (flat_map-in_line f each bytes)

other_byte : (b : ℕ) (is : Bool) → (b == 10) ≡ is → HasNoFeed (cond is (0 ∷ []) (b ∷ []))
other_byte b true e = refl
other_byte b false e = rw e refl

sent_by : (b : ℕ) (is : Bool) → HasNoFeed (cond is (13 ∷ 0 ∷ []) (cond (b == 10) (0 ∷ []) (b ∷ [])))
sent_by b true = refl
sent_by b false = other_byte b (b == 10) refl

-- a byte as it is sent has none
pub sent_byte-in_line : (b : ℕ) → HasNoFeed (sent_byte b)
sent_byte-in_line b = sent_by b (b == 13)

quoted_by : (b : ℕ) (is : Bool) → HasNoFeed (cond is (34 ∷ 34 ∷ []) (sent_byte b))
quoted_by b true = refl
quoted_by b false = sent_byte-in_line b

-- nor has one in quotes
pub quoted_byte-in_line : (b : ℕ) → HasNoFeed (quoted_byte b)
quoted_byte-in_line b = quoted_by b (b == 34)

pub sent_text-in_line : (text : List ℕ) → HasNoFeed (sent_text text)
sent_text-in_line text = flat_map-in_line sent_byte sent_byte-in_line text

pub quoted-in_line : (path : List ℕ) → HasNoFeed (quoted path)
quoted-in_line path =
    both_in_line (codes "\"" ++ flat_map quoted_byte path) (codes "\"")
    (both_in_line (codes "\"") (flat_map quoted_byte path) refl (flat_map-in_line quoted_byte quoted_byte-in_line path))
    refl

small_glyph : (d : ℕ) → d < 10 → is_feed (digit_glyph false d) ≡ false
small_glyph d h = grind (arith, nat_tests)

-- nor have decimal digits before such bytes
digits_onto-in_line : (k n : ℕ) (acc : List ℕ) → HasNoFeed acc → HasNoFeed (digits_onto k 10 false n acc)
digits_onto-in_line zero n acc h = h
digits_onto-in_line (suc k) n acc h =
    let glyph : is_feed (digit_glyph false (n % 10)) ≡ false = small_glyph (n % 10) (omega arith) in
    let more : HasNoFeed (digit_glyph false (n % 10) ∷ acc) = rw (glyph, h) refl in
    elim (n / 10 == 0) as (λ b. HasNoFeed (cond b (digit_glyph false (n % 10) ∷ acc) (digits_onto k 10 false (n / 10) (digit_glyph false (n % 10) ∷ acc)))) [
      | true ↦ more
      | false ↦ digits_onto-in_line k (n / 10) (digit_glyph false (n % 10) ∷ acc) more
    ]

pub decimal-in_line : (n : ℕ) → HasNoFeed (decimal n)
unfolding digits
decimal-in_line n = digits_onto-in_line 64 n [] refl

digit_apart : (b : ℕ) → is_ascii_digit b ≡ true → is_feed b ≡ false
digit_apart b h = grind (arith, nat_tests)

-- where two tests hold, each does
pub both_true : (a b : Bool) → (a && b) ≡ true → (a ≡ true) × (b ≡ true)
both_true true b e = (refl, e)
both_true false b e = absurd (cc)

-- nor have digits
pub digits-in_line : (bytes : List ℕ) → list_all is_ascii_digit bytes ≡ true → HasNoFeed bytes
digits-in_line [] h = refl
digits-in_line (b ∷ bytes) h =
    let each = both_true (is_ascii_digit b) (list_all is_ascii_digit bytes) h in
    rw (digit_apart b each.0, digits-in_line bytes each.1) refl

-- nor have facts
pub facts-in_line : (meta : Meta) → HasNoFeed (facts meta)
facts-in_line meta =
    elim meta.is_dir as (λ b. HasNoFeed (cond b (codes "type=dir;") (codes "type=file;size=" ++ decimal meta.len ++ codes ";"))) [
      | true ↦ refl
      | false ↦ both_in_line (codes "type=file;size=" ++ decimal meta.len) (codes ";") (both_in_line (codes "type=file;size=") (decimal meta.len) refl (decimal-in_line meta.len)) refl
    ]

-- such a text stands in one line
pub in_line : (text : List ℕ) → HasNoFeed text → is_in_line text ≡ true
in_line text h = rw h refl
