-- The keys of a document, of which none is unknown, or one is told.
use Rattle.std.proofs.Common.{◌≡◌, ℕ, List, [], ◌∷◌, ◌++◌, true, false, Bool, ◌&&◌, ◌||◌, refl, sym, ap, ◌∙◌, map, is_some, string_bytes, String, Global, append-nil, append_assoc}
use Rattle.std.specs.List.{list_all, list_any}
use Rattle.std.specs.Str.{bytes_eq}
use Rattle.std.proofs.lemmas.Slice.Eq.{bytes_eq-Decides}
use Rattle.toml.specs.View.{members_view}
use Rattle.toml.specs.declared.value.Value.{Value}
use Rattle.ftp_config.specs.Keys.{config_key}
use Rattle.ftp_config.specs.Config.{keys_of_document}

abbrev Entries : Type 0
Entries = List (String Global × Value)

-- a key has the name
abbrev pub is_known : String Global → Bool
is_known name = is_some (config_key (string_bytes name))

-- the two names have the same bytes
abbrev pub has_bytes : String Global → String Global → Bool
has_bytes name other = bytes_eq (string_bytes name) (string_bytes other)

same_bytes : (xs : List ℕ) → bytes_eq xs xs ≡ true
same_bytes xs = (bytes_eq-Decides xs xs).1 refl

known-view : (es : Entries) → list_all is_known (map (λ m. m.0) es) ≡ list_all (λ n. is_some (config_key n)) (keys_of_document (members_view es))
known-view [] = refl
known-view (e ∷ es) = ap (λ b. is_known e.0 && b) (known-view es)

told-view : (name : String Global) (es : Entries) → list_any (has_bytes name) (map (λ m. m.0) es) ≡ list_any (bytes_eq (string_bytes name)) (keys_of_document (members_view es))
told-view name [] = refl
told-view name (e ∷ es) = ap (λ b. has_bytes name e.0 || b) (told-view name es)

or-true : (b : Bool) → (b || true) ≡ true
or-true true = refl
or-true false = refl

told-at : (front : List (String Global)) (name : String Global) (more : List (String Global)) → list_any (has_bytes name) (front ++ name ∷ more) ≡ true
told-at [] name more = ap (λ b. b || list_any (has_bytes name) more) (same_bytes (string_bytes name))
told-at (x ∷ front) name more = ap (λ b. has_bytes name x || b) (told-at front name more) ∙ or-true (has_bytes name x)

-- where all names were looked at, each is known
pub all_known : (front : List (String Global)) (es : Entries) → front ++ [] ≡ map (λ m. m.0) es → list_all is_known front ≡ true → list_all (λ n. is_some (config_key n)) (keys_of_document (members_view es)) ≡ true
all_known front es all known = sym (known-view es) ∙ ap (list_all is_known) (sym all ∙ append-nil front) ∙ known

-- the name that is told is one of the document's
pub is_told : (front : List (String Global)) (name : String Global) (more : List (String Global)) (es : Entries) → front ++ name ∷ more ≡ map (λ m. m.0) es →
    list_any (bytes_eq (string_bytes name)) (keys_of_document (members_view es)) ≡ true
is_told front name more es all = sym (told-view name es) ∙ ap (list_any (has_bytes name)) (sym all) ∙ told-at front name more

all-snoc : (front : List (String Global)) (name : String Global) → list_all is_known front ≡ true → is_known name ≡ true → list_all is_known (front ++ name ∷ []) ≡ true
all-snoc [] name known one = ap (λ b. b && true) one
all-snoc (x ∷ front) name known one = and-both (is_known x) (list_all is_known front) (list_all is_known (front ++ name ∷ [])) known (λ h. all-snoc front name h one)
  where
    and-both : (a b c : Bool) → (a && b) ≡ true → (b ≡ true → c ≡ true) → (a && c) ≡ true
    and-both true b c h k = k h
    and-both false b c h k = h

-- one name more was looked at
pub known_more : (front : List (String Global)) (name : String Global) (more names : List (String Global)) → front ++ name ∷ more ≡ names → list_all is_known front ≡ true
    → is_known name ≡ true → (f : List (String Global)) × (f ++ more ≡ names) × (list_all is_known f ≡ true)
known_more front name more names all known one = (front ++ name ∷ [], append_assoc front (name ∷ []) more ∙ all, all-snoc front name known one)
