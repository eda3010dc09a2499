-- Values with commas between them.
use Rattle.std.proofs.Common.{◌≡◌, ℕ, ◌+◌, ◌<◌, Bool, true, false, not, ◌&&◌, cond, eqb, All, List, [], ◌∷◌, ◌++◌, map, length, get_or, take, drop, Bor, Option, Some, None, refl, sym, ap, subst, ◌∙◌, arith, append_assoc}
use Rattle.std.specs.Prelude.{codes}
use Rattle.std.specs.List.{slice_split, position_or_len, join_with_byte, AllByRecursion}
use Rattle.std.specs.Option.{option_map_or}
use Rattle.std.specs.Str.{bytes_eq}
use Rattle.std.proofs.lemmas.Bool.{and_parts}
use Rattle.std.proofs.lemmas.Bool.Decides.{nat_tests}
use Rattle.std.proofs.lemmas.List.{append-nil, get_or_default}
use Rattle.std.proofs.lemmas.List.Sums.{position_or_len_is}
use Rattle.std.proofs.lemmas.List.Splits.{slice_split_at, slice_split_none, slice_split_first, join_with_byte-slice_split, length-slice_split}
use Rattle.std.proofs.lemmas.List.Elements.{All-nil, All-cons}
use Rattle.std.proofs.lemmas.Slice.Eq.{bytes_eq-Decides}
use Rattle.ftp_text.specs.declared.fault.LineFault.{LineFault}
use Rattle.ftp_text.specs.declared.fault.LineFault.TheVariants as fault
use Rattle.ftp_text.specs.Fields.{listed, IsText}
use Rattle.ftp_text.specs.Reading.{◌>>=◌, Fails, begins, word_as, is_comma, each_of, list_of}
use Rattle.ftp_text.proofs.Exact.{IsExact, Ends, Pass, is_word_byte, bind_ok, some_is, word_exact}

-- ---- all of a list

pub all-append : {A : Type 0} (P : A → Type 0) (xs ys : List A) → AllByRecursion P xs → AllByRecursion P ys → AllByRecursion P (xs ++ ys)
all-append P [] ys p q = q
all-append P (x ∷ xs) ys p q = (p.0, all-append P xs ys p.1 q)

pub all-parts : {A : Type 0} (P : A → Type 0) (xs ys : List A) → AllByRecursion P (xs ++ ys) → AllByRecursion P xs × AllByRecursion P ys
all-parts P [] ys p = (tt, p)
all-parts P (x ∷ xs) ys p = let q = all-parts P xs ys p.1 in ((p.0, q.0), q.1)

pub text-append : (a b : List ℕ) → IsText a → IsText b → IsText (a ++ b)
text-append = all-append (λ b. b < 256)

pub text-parts : (a b : List ℕ) → IsText (a ++ b) → IsText a × IsText b
text-parts = all-parts (λ b. b < 256)

-- ---- cutting at commas

-- the first part ends at the first comma
pub split-found : (bytes : List ℕ) (i : ℕ) → i < length bytes → ((k : ℕ) → k < i → is_comma (get_or bytes k 0) ≡ false) → is_comma (get_or bytes i 0) ≡ true →
    slice_split is_comma bytes ≡ take i bytes ∷ slice_split is_comma (drop (i + 1) bytes)
split-found bytes i lt before found =
    let at : position_or_len is_comma bytes ≡ i = position_or_len_is is_comma bytes i 0 (omega arith) before (λ inside. found) in
    slice_split_first is_comma bytes 0 (omega (arith, at)) ∙ ap (λ (n : ℕ). take n bytes ∷ slice_split is_comma (drop (n + 1) bytes)) at

-- where there is no comma, the bytes are the one part
pub split-none : (bytes : List ℕ) → ((k : ℕ) → k < length bytes → is_comma (get_or bytes k 0) ≡ false) → slice_split is_comma bytes ≡ bytes ∷ []
split-none bytes none = slice_split_none is_comma bytes (λ k d lt. ap is_comma (get_or_default bytes k d 0 lt) ∙ none k lt)

-- ---- the loop

-- the values that were read before those that are read
abbrev pub with_first : {A : Type 0} → List A → Option (List A) → Option (List A)
with_first front read = read >>= λ xs. Some (front ++ xs)

-- the words of what is left
abbrev pub parts : Option (Bor (List ℕ)) → List (List ℕ)
parts rest = option_map_or (λ r. slice_split is_comma r.now) rest []

-- the next word
pub each-next : {A : Type 0} (value : List ℕ → Option A) (front : List A) (rest : Option (Bor (List ℕ))) (left : Bor (List ℕ)) (w : List ℕ) (words : List (List ℕ)) (all : Option (List A)) →
    rest ≡ Some left →
    slice_split is_comma left.now ≡ w ∷ words →
    with_first front (each_of value (parts rest)) ≡ all →
    with_first front (each_of value (w ∷ words)) ≡ all
each-next value front rest left w words all is split h = ap (λ ws. with_first front (each_of value ws)) (sym (ap parts is ∙ split)) ∙ h

-- a word more
pub each-more : {A : Type 0} (value : List ℕ → Option A) (front : List A) (w : List ℕ) (words : List (List ℕ)) (x : A) (all : Option (List A)) →
    value w ≡ Some x →
    with_first front (each_of value (w ∷ words)) ≡ all →
    with_first (front ++ x ∷ []) (each_of value words) ≡ all
unfolding each_of
each-more value front w words x all e h =
    regroup (each_of value words) ∙ ap (λ r. with_first front (r >>= λ y. each_of value words >>= λ ys. Some (y ∷ ys))) (sym e) ∙ h where
      regroup : (r : Option (List _)) → with_first (front ++ x ∷ []) r ≡ with_first front (r >>= λ ys. Some (x ∷ ys))
      regroup (Some ys) = ap Some (append_assoc front (x ∷ []) ys)
      regroup None = refl

-- a word that spells no value
pub each-fails : {A : Type 0} (value : List ℕ → Option A) (front : List A) (w : List ℕ) (words : List (List ℕ)) (e : LineFault) (all : Option (List A)) →
    Fails e (value w) →
    with_first front (each_of value (w ∷ words)) ≡ all →
    Fails e all
unfolding each_of
each-fails value front w words fault.Memory all given h = tt
each-fails value front w words fault.Bad all given h =
    sym h ∙ ap (λ r. with_first front (r >>= λ y. each_of value words >>= λ ys. Some (y ∷ ys))) given

-- no word is left
pub each-done : {A : Type 0} (value : List ℕ → Option A) (front : List A) (rest : Option (Bor (List ℕ))) (all : Option (List A)) →
    ((left : Bor (List ℕ)) → rest ≡ Some left → ⊥) →
    with_first front (each_of value (parts rest)) ≡ all →
    all ≡ Some front
unfolding each_of
each-done value front None all none h = sym h ∙ ap Some (append-nil front)
each-done value front (Some left) all none h = absurd (none left refl)

-- ---- exactness

-- what begins otherwise is another word
pub not_begun : (c : ℕ) (others w : List ℕ) → begins c w ≡ false → bytes_eq w (c ∷ others) ≡ false
not_begun c others w h = cases (bytes_eq w (c ∷ others)) refl where
  cases : (b : Bool) → bytes_eq w (c ∷ others) ≡ b → bytes_eq w (c ∷ others) ≡ false
  cases false e = e
  cases true e =
      let is : w ≡ c ∷ others = (bytes_eq-Decides w (c ∷ others)).0 e in
      let f : eqb c c ≡ false = ap (begins c) (sym is) ∙ h in
      let t : eqb c c ≡ true = grind (arith, nat_tests) in
      absurd cc

-- a byte of a value between commas, in a field
abbrev pub is_inner : ℕ → Bool
is_inner b = is_word_byte b && not (is_comma b)

no_comma : (b : ℕ) → is_inner b ≡ true → is_comma b ≡ false
no_comma b h = by (is_word_byte b) (is_comma b) h where
  by : (p q : Bool) → (p && not q) ≡ true → q ≡ false
  by true false h = refl
  by true true h = absurd cc
  by false q h = absurd cc

inner_word : (b : ℕ) → is_inner b ≡ true → is_word_byte b ≡ true
inner_word b h = (and_parts (is_word_byte b) (not (is_comma b)) h).0

-- what passes one test passes another
pub pass-more : (test other : ℕ → Bool) → ((b : ℕ) → test b ≡ true → other b ≡ true) → (w : List ℕ) → Pass test w → Pass other w
pass-more test other more [] h = tt
pass-more test other more (b ∷ w) h = (more b h.0, pass-more test other more w h.1)

pub pass-append : (test : ℕ → Bool) (a b : List ℕ) → Pass test a → Pass test b → Pass test (a ++ b)
pass-append test [] b p q = q
pass-append test (c ∷ a) b p q = (p.0, pass-append test a b p.1 q)

pub pass-parts : (test : ℕ → Bool) (a b : List ℕ) → Pass test (a ++ b) → Pass test a × Pass test b
pass-parts test [] b p = (tt, p)
pass-parts test (c ∷ a) b p = let q = pass-parts test a b p.1 in ((p.0, q.0), q.1)

without_commas : (w : List ℕ) → Pass is_inner w → All (λ b. is_comma b ≡ false) w
without_commas [] h = All-nil (λ b. is_comma b ≡ false)
without_commas (b ∷ w) h = All-cons (λ c. is_comma c ≡ false) b w (no_comma b h.0) (without_commas w h.1)

module _ {A : Type 0} (spell : A → List ℕ) (Fits : A → Type 0) (value : List ℕ → Option A) where
  each_takes : ((w : List ℕ) (x : A) → value w ≡ Some x → (spell x ≡ w) × Fits x) →
      (words : List (List ℕ)) (xs : List A) → each_of value words ≡ Some xs → (map spell xs ≡ words) × AllByRecursion Fits xs
  unfolding each_of
  each_takes takes [] xs e = subst (λ (ys : List A). (map spell ys ≡ []) × AllByRecursion Fits ys) (some_is [] xs e) (refl, tt)
  each_takes takes (w ∷ words) xs e =
      let first = bind_ok (value w) (λ y. each_of value words >>= λ ys. Some (y ∷ ys)) xs e in
      let second = bind_ok (each_of value words) (λ ys. Some (first.0 ∷ ys)) xs first.2 in
      let t = takes w first.0 first.1 in
      let others = each_takes takes words second.0 second.1 in
      subst (λ (ys : List A). (map spell ys ≡ w ∷ words) × AllByRecursion Fits ys) (some_is (first.0 ∷ second.0) xs second.2)
      (ap (λ (v : List ℕ). v ∷ map spell second.0) t.0 ∙ ap (λ (ws : List (List ℕ)). w ∷ ws) others.0, (t.1, others.1))

  each_again : ((x : A) → Fits x → value (spell x) ≡ Some x) → (xs : List A) → AllByRecursion Fits xs → each_of value (map spell xs) ≡ Some xs
  unfolding each_of
  each_again again [] fits = refl
  each_again again (x ∷ xs) fits = rw (again x fits.0, each_again again xs fits.1) refl

  module _ (inner : (x : A) → Fits x → Pass is_inner (spell x)) where
    joined_passes : (x : A) (xs : List A) → AllByRecursion Fits (x ∷ xs) → Pass is_word_byte (join_with_byte 44 (map spell (x ∷ xs)))
    joined_passes x [] fits = pass-more is_inner is_word_byte inner_word (spell x) (inner x fits.0)
    joined_passes x (y ∷ xs) fits =
        pass-append is_word_byte (spell x) (44 ∷ join_with_byte 44 (map spell (y ∷ xs)))
        (pass-more is_inner is_word_byte inner_word (spell x) (inner x fits.0))
        (refl, joined_passes y xs fits.1)

    listed_passes : (xs : List A) → AllByRecursion Fits xs → Pass is_word_byte (listed spell xs)
    listed_passes [] fits = (refl, tt)
    listed_passes (x ∷ xs) fits = joined_passes x xs fits

    split_joined : (x : A) (xs : List A) → AllByRecursion Fits (x ∷ xs) → slice_split is_comma (join_with_byte 44 (map spell (x ∷ xs))) ≡ map spell (x ∷ xs)
    split_joined x [] fits = slice_split_none is_comma (spell x) (without_commas (spell x) (inner x fits.0))
    split_joined x (y ∷ xs) fits =
        slice_split_at is_comma (spell x) 44 (join_with_byte 44 (map spell (y ∷ xs))) (without_commas (spell x) (inner x fits.0)) refl
        ∙ ap (λ (ws : List (List ℕ)). spell x ∷ ws) (split_joined y xs fits.1)

    joined_starts : ((x : A) (rest : List ℕ) → Fits x → begins 45 (spell x ++ rest) ≡ false) → (x : A) (xs : List A) → AllByRecursion Fits (x ∷ xs) → begins 45 (join_with_byte 44 (map spell (x ∷ xs))) ≡ false
    joined_starts starts x [] fits = ap (begins 45) (sym (append-nil (spell x))) ∙ starts x [] fits.0
    joined_starts starts x (y ∷ xs) fits = starts x (44 ∷ join_with_byte 44 (map spell (y ∷ xs))) fits.0

    list_again : ((x : A) (rest : List ℕ) → Fits x → begins 45 (spell x ++ rest) ≡ false) → ((x : A) → Fits x → value (spell x) ≡ Some x) →
        (xs : List A) → AllByRecursion Fits xs → list_of value (listed spell xs) ≡ Some xs
    unfolding list_of
    list_again starts again [] fits = refl
    list_again starts again (x ∷ xs) fits =
        let w = join_with_byte 44 (map spell (x ∷ xs)) in
        ap (λ b. cond b (Some []) (each_of value (slice_split is_comma w))) (not_begun 45 [] w (joined_starts starts x xs fits))
        ∙ ap (each_of value) (split_joined x xs fits) ∙ each_again again (x ∷ xs) fits

    list_takes : ((w : List ℕ) (x : A) → value w ≡ Some x → (spell x ≡ w) × Fits x) →
        (w : List ℕ) (xs : List A) → list_of value w ≡ Some xs → (listed spell xs ≡ w) × AllByRecursion Fits xs
    unfolding list_of
    list_takes takes w xs e = cases (bytes_eq w (codes "-")) refl e where
      joined_is : (ys : List A) → map spell ys ≡ slice_split is_comma w → listed spell ys ≡ w
      joined_is [] same = absurd (omega (arith, ap length same, length-slice_split is_comma w))
      joined_is (y ∷ ys) same = ap (join_with_byte 44) same ∙ join_with_byte-slice_split 44 w

      cases : (b : Bool) → bytes_eq w (codes "-") ≡ b → cond b (Some []) (each_of value (slice_split is_comma w)) ≡ Some xs → (listed spell xs ≡ w) × AllByRecursion Fits xs
      cases true is e = subst (λ (ys : List A). (listed spell ys ≡ w) × AllByRecursion Fits ys) (some_is [] xs e) (sym ((bytes_eq-Decides w (codes "-")).0 is), tt)
      cases false is e = let t = each_takes takes (slice_split is_comma w) xs e in (joined_is xs t.0, t.1)

    -- a field of values between commas
    pub listed_exact : ((x : A) (rest : List ℕ) → Fits x → begins 45 (spell x ++ rest) ≡ false) →
        ((w : List ℕ) (x : A) → value w ≡ Some x → (spell x ≡ w) × Fits x) →
        ((x : A) → Fits x → value (spell x) ≡ Some x) →
        IsExact (λ (xs : List A). 32 ∷ listed spell xs) (AllByRecursion Fits) Ends (word_as (list_of value))
    listed_exact starts takes again = word_exact (listed spell) (AllByRecursion Fits) (list_of value) listed_passes (λ w xs pass e. list_takes takes w xs e) (list_again starts again)
