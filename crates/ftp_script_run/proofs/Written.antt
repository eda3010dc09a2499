-- Writing one text behind another.
use Rattle.std.proofs.Common.{◌≡◌, ℕ, Bool, true, ◌+◌, ◌<◌, ◌≤◌, List, [], ◌∷◌, ◌++◌, length, take, drop, get_or, reverse, Option, Some, None, sym, ap, subst, ◌∙◌, append_assoc, arith}
use Rattle.std.specs.Prelude.{IfSome, IfNone}
use Rattle.std.specs.Option.{OnSome}
use Rattle.std.specs.Prelude.{codes}
use Rattle.std.specs.Str.{bytes_eq}
use Rattle.std.proofs.lemmas.Slice.Eq.{bytes_eq-Decides}
use Rattle.std.specs.List.{flat_map}
use Rattle.std.proofs.lemmas.List.{append-nil, take-append-drop, take_more, reverse-append}
use Rattle.std.proofs.lemmas.List.Concat.{flat_map-append}
use Rattle.ftp_base.specs.Outside.{Writes}
use Rattle.ftp_control.specs.Writing.{WritesFront}
use Rattle.ftp_control.proofs.WritingLemmas.{writes-more, front-longer, front-more}
use Rattle.ftp_events.specs.declared.entry.Entry.{Entry}
use Rattle.ftp_text.specs.Printing.{entry_lines, print}
use Rattle.ftp_script_run.specs.Outcome.{log_lines}

-- the lines of one entry
pub log_lines-one : (e : Entry) → log_lines (e ∷ []) ≡ entry_lines e
log_lines-one e = append-nil (entry_lines e)

-- the lines of newer entries stand behind
pub log_lines-append : (newer log : List Entry) → log_lines (newer ++ log) ≡ log_lines log ++ log_lines newer
log_lines-append newer log = ap print (reverse-append newer log) ∙ flat_map-append entry_lines (reverse log) (reverse newer)

-- a list of texts up to an element, that element, and what stands behind
flat_map-split : {X : Type 0} (f : X → List ℕ) (xs : List X) (i : ℕ) (d : X) → i < length xs → flat_map f xs ≡ (flat_map f (take i xs) ++ f (get_or xs i d)) ++ flat_map f (drop (i + 1) xs)
flat_map-split f xs i d lt =
    ap (flat_map f) (sym (take-append-drop (i + 1) xs) ∙ ap (λ (l : List _). l ++ drop (i + 1) xs) (take_more xs i d lt))
    ∙ flat_map-append f (take i xs ++ get_or xs i d ∷ []) (drop (i + 1) xs)
    ∙ ap (λ (l : List ℕ). l ++ flat_map f (drop (i + 1) xs)) (flat_map-append f (take i xs) (get_or xs i d ∷ []) ∙ ap (λ (l : List ℕ). flat_map f (take i xs) ++ l) (append-nil (f (get_or xs i d))))

-- the texts of the elements so far, and a part of the next
pub front-part : {X : Type 0} (f : X → List ℕ) (xs : List X) (i : ℕ) (d : X) (old now new : Option (List ℕ)) →
    i < length xs →
    Writes old now (flat_map f (take i xs)) →
    WritesFront now new (f (get_or xs i d)) →
    WritesFront old new (flat_map f xs)
front-part f xs i d old now new lt first second =
    subst (WritesFront old new) (sym (flat_map-split f xs i d lt))
    (front-longer old new (flat_map f (take i xs) ++ f (get_or xs i d)) (flat_map f (drop (i + 1) xs))
    (front-more old now new (flat_map f (take i xs)) (f (get_or xs i d)) first second))

-- ---- what follows from what is said of a result

pub if_none-then : {T P Q : Type 0} (o : Option T) → IfNone o P → (P → Q) → IfNone o Q
if_none-then None p f = f p
if_none-then (Some x) p f = tt

pub if_some-both : {T P : Type 0} {Q R : T → Type 0} (o : Option T) → OnSome o P → IfSome o Q → ((x : T) → P → Q x → R x) → IfSome o R
if_some-both None p q f = tt
if_some-both (Some x) p q f = f x p q

-- a list of one element
pub one_element : {X : Type 0} (xs : List X) (x : X) → 1 ≤ length xs → length xs ≤ 1 → x ≡ get_or xs 0 x → xs ≡ x ∷ []
one_element [] x some one is = absurd (omega arith)
one_element (y ∷ []) x some one is = ap (λ z. z ∷ []) (sym is)
one_element (y ∷ z ∷ xs) x some one is = absurd (omega arith)

-- a word that is compared with another
pub is_word : (a b : List ℕ) (r : Bool) (word : List ℕ) → r ≡ bytes_eq a b → a ≡ word → b ≡ codes "script" → (r ≡ true → word ≡ codes "script") × (word ≡ codes "script" → r ≡ true)
is_word a b r word compared is_a is_b =
    let decides = bytes_eq-Decides a b in (
      (λ yes. sym is_a ∙ decides.0 (sym compared ∙ yes) ∙ is_b),
      (λ same. compared ∙ decides.1 (is_a ∙ same ∙ sym is_b)),
    )

-- ---- the texts of a list, whose first elements were written

-- the texts of the elements before those that are left were written
abbrev pub IsBetween : {X : Type 0} → (X → List ℕ) → List X → List X → Option (List ℕ) → Option (List ℕ) → Type 0
IsBetween {X} f all left old now = (done : List X) × (done ++ left ≡ all) × Writes old now (flat_map f done)

-- one element more
pub between-more : {X : Type 0} (f : X → List ℕ) (all left later : List X) (x : X) (old now new : Option (List ℕ)) →
    IsBetween f all left old now →
    left ≡ x ∷ later →
    Writes now new (f x) →
    IsBetween f all later old new
between-more f all left later x old now new so_far next wrote = (
  so_far.0 ++ x ∷ [],
  append_assoc so_far.0 (x ∷ []) later ∙ ap (λ (l : List _). so_far.0 ++ l) (sym next) ∙ so_far.1,
  subst (Writes old new) (sym (flat_map-append f so_far.0 (x ∷ []) ∙ ap (λ (l : List ℕ). flat_map f so_far.0 ++ l) (append-nil (f x))))
      (writes-more old now new (flat_map f so_far.0) (f x) so_far.2 wrote),
)

-- a part of the next element
pub between-part : {X : Type 0} (f : X → List ℕ) (all left later : List X) (x : X) (old now new : Option (List ℕ)) →
    IsBetween f all left old now →
    left ≡ x ∷ later →
    WritesFront now new (f x) →
    WritesFront old new (flat_map f all)
between-part f all left later x old now new so_far next wrote =
    let whole : flat_map f so_far.0 ++ (f x ++ flat_map f later) ≡ flat_map f all =
    sym (flat_map-append f so_far.0 (x ∷ later)) ∙ ap (λ (l : List _). flat_map f (so_far.0 ++ l)) (sym next) ∙ ap (flat_map f) so_far.1 in
    subst (WritesFront old new) whole
    (front-more old now new (flat_map f so_far.0) (f x ++ flat_map f later) so_far.2 (front-longer now new (f x) (flat_map f later) wrote))
