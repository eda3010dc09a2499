-- What a reader finds is what is spelled at the front, and what is spelled is read again: the two laws, for each way to put readers together.
use Rattle.std.proofs.Common.{◌≡◌, ℕ, suc, ◌+◌, ◌^◌, ◌<◌, ◌≤◌, Bool, true, false, not, cond, ◌&&◌, eqb, ltb, List, [], ◌∷◌, ◌++◌, length, take, drop, Option, Some, None, refl, sym, ap, subst, ◌∙◌, append_assoc, arith}
use Rattle.std.specs.List.{prefix_len, position_or_len}
use Rattle.std.specs.Char.{is_ascii_digit}
use Rattle.std.specs.Fmt.{decimal}
use Rattle.std.specs.Str.{bytes_eq}
use Rattle.std.specs.Str.Parse.{AllDigits, digits_value}
use Rattle.std.proofs.lemmas.Option.{cond_some}
use Rattle.std.proofs.lemmas.Bool.{eqb-true, ltb-true, lt-ltb, and_parts}
use Rattle.std.proofs.lemmas.Bool.Decides.{nat_tests}
use Rattle.std.proofs.lemmas.List.{append-nil, nil_from_length, take-append-drop, take_at, drop_at}
use Rattle.std.proofs.lemmas.Fmt.{digits_value-decimal, digits_decimal}
use Rattle.std.proofs.lemmas.Slice.Eq.{bytes_eq-Decides}
use Rattle.std.proofs.lemmas.Str.Parse.{digit_from_value}
use Rattle.ftp_text.specs.Fields.{Each, optional}
use Rattle.ftp_text.specs.Reading.{◌>>=◌, after, behind, begins, pair, made, numeral, number_at, small_at, optional_field, is_space, word_at, word_as, find_word, word_value, tested, literal_at, behind_text, before_text, all_of}
use Rattle.ftp_text.proofs.Numerals.{own}

-- nothing follows, or a byte that fails the test
abbrev pub Stops : (ℕ → Bool) → List ℕ → Type 0
Stops test [] = Unit {0}
Stops test (c ∷ rest) = test c ≡ false

-- nothing follows, or a space
abbrev pub Ends : List ℕ → Type 0
Ends [] = Unit {0}
Ends (c ∷ rest) = c ≡ 32

abbrev pub IsNil : List ℕ → Type 0
IsNil [] = Unit {0}
IsNil (c ∷ rest) = ⊥

abbrev pub NoDigit : List ℕ → Type 0
NoDigit = Stops is_ascii_digit

pub NoDigit-from_ends : (rest : List ℕ) → Ends rest → NoDigit rest
NoDigit-from_ends [] h = tt
NoDigit-from_ends (c ∷ rest) h = rw h refl

pub Ends-from_nil : (rest : List ℕ) → IsNil rest → Ends rest
Ends-from_nil [] h = tt
Ends-from_nil (c ∷ rest) h = absurd h

-- the reader finds x where x is spelled at the front and what follows may follow, and nothing else
pub record IsExact {A : Type 0} (spell : A → List ℕ) (Fits : A → Type 0) (Follows : List ℕ → Type 0) (read : List ℕ → Option (A × List ℕ)) : Type 0 where
  pub takes : (bytes : List ℕ) (x : A × List ℕ) → read bytes ≡ Some x → (bytes ≡ spell x.0 ++ x.1) × Fits x.0
  pub again : (x : A) (rest : List ℕ) → Fits x → Follows rest → read (spell x ++ rest) ≡ Some (x, rest)

-- the value of a step that did not fail
pub bind_ok : {A B : Type 0} (r : Option A) (f : A → Option B) (y : B) → (r >>= f) ≡ Some y → (x : A) × (r ≡ Some x) × (f x ≡ Some y)
bind_ok (Some x) f y e = (x, refl, e)
bind_ok None f y e = absurd cc

pub some_is : {A : Type 0} (x y : A) → Some x ≡ Some y → x ≡ y
some_is x y e = cc

pub after_ok : (c : ℕ) (bytes rest : List ℕ) → after c bytes ≡ Some rest → bytes ≡ c ∷ rest
after_ok c [] rest e = absurd cc
after_ok c (b ∷ bytes) rest e = let p = cond_some (eqb b c) bytes rest e in cc (eqb-true b c p.0, p.1)

pub after_again : (c : ℕ) (rest : List ℕ) → after c (c ∷ rest) ≡ Some rest
after_again c rest = let e : eqb c c ≡ true = grind (arith, nat_tests) in rw e refl

-- fewer may follow
pub exact_weaker : {A : Type 0} {s : A → List ℕ} {F : A → Type 0} {W V : List ℕ → Type 0} {r : List ℕ → Option (A × List ℕ)} → IsExact s F W r → ((rest : List ℕ) → V rest → W rest) → IsExact s F V r
exact_weaker a h = record { takes = a.takes; again = λ x rest fits follows. a.again x rest fits (h rest follows) }

-- another way to say which values fit
pub exact_fits : {A : Type 0} {s : A → List ℕ} {F G : A → Type 0} {W : List ℕ → Type 0} {r : List ℕ → Option (A × List ℕ)} → IsExact s F W r →
    ((x : A) → F x → G x) → ((x : A) → G x → F x) → IsExact s G W r
exact_fits a forth back = record {
  takes = λ bytes x e. let t = a.takes bytes x e in (t.0, forth x.0 t.1);
  again = λ x rest fits follows. a.again x rest (back x fits) follows;
}

-- a field and another
pub pair_exact : {A B : Type 0} {sa : A → List ℕ} {sb : B → List ℕ} {Fa : A → Type 0} {Fb : B → Type 0} {Wa Wb : List ℕ → Type 0} {ra : List ℕ → Option (A × List ℕ)} {rb : List ℕ → Option (B × List ℕ)} →
    IsExact sa Fa Wa ra → IsExact sb Fb Wb rb → ((y : B) (rest : List ℕ) → Wb rest → Wa (sb y ++ rest)) →
    IsExact (λ (x : A × B). sa x.0 ++ sb x.1) (λ (x : A × B). Fa x.0 × Fb x.1) Wb (pair ra rb)
pair_exact {A} {B} {sa} {sb} {Fa} {Fb} {Wa} {Wb} {ra} {rb} a b starts = record {
  takes = λ bytes x e.
      let first = bind_ok (ra bytes) (λ u. rb u.1 >>= λ v. Some ((u.0, v.0), v.1)) x e in
      let second = bind_ok (rb first.0.1) (λ v. Some ((first.0.0, v.0), v.1)) x first.2 in
      let ta = a.takes bytes first.0 first.1 in
      let tb = b.takes first.0.1 second.0 second.1 in
      let made_pair : (A × B) × List ℕ = ((first.0.0, second.0.0), second.0.1) in
      subst (λ (y : (A × B) × List ℕ). (bytes ≡ (sa y.0.0 ++ sb y.0.1) ++ y.1) × (Fa y.0.0 × Fb y.0.1)) (some_is made_pair x second.2)
      (ta.0 ∙ ap (λ (t : List ℕ). sa first.0.0 ++ t) tb.0 ∙ sym (append_assoc (sa first.0.0) (sb second.0.0) second.0.1), (ta.1, tb.1));
  again = λ x rest fits follows.
      let regrouped : (sa x.0 ++ sb x.1) ++ rest ≡ sa x.0 ++ (sb x.1 ++ rest) = append_assoc (sa x.0) (sb x.1) rest in
      ap (pair ra rb) regrouped ∙ rw (a.again x.0 (sb x.1 ++ rest) fits.0 (starts x.1 rest follows), b.again x.1 rest fits.1 follows) refl;
}

-- a byte and a field
pub behind_exact : {A : Type 0} {s : A → List ℕ} {F : A → Type 0} {W : List ℕ → Type 0} {r : List ℕ → Option (A × List ℕ)} (c : ℕ) → IsExact s F W r → IsExact (λ (x : A). c ∷ s x) F W (behind c r)
behind_exact {A} {s} {F} {W} {r} c a = record {
  takes = λ bytes x e.
      let first = bind_ok (after c bytes) r x e in
      let t = a.takes first.0 x first.2 in
      (after_ok c bytes first.0 first.1 ∙ ap (λ (rest : List ℕ). c ∷ rest) t.0, t.1);
  again = λ x rest fits follows. ap (λ (o : Option (List ℕ)). o >>= r) (after_again c (s x ++ rest)) ∙ a.again x rest fits follows;
}

-- a value that is made of others
pub made_exact : {A B : Type 0} {s : A → List ℕ} {F : A → Type 0} {W : List ℕ → Type 0} {r : List ℕ → Option (A × List ℕ)} → IsExact s F W r →
    (make : A → B) (back : B → A) (t : B → List ℕ) (G : B → Type 0) →
    ((x : A) → F x → (s x ≡ t (make x)) × G (make x)) → ((y : B) → G y → F (back y) × (make (back y) ≡ y) × (t y ≡ s (back y))) →
    IsExact t G W (made make r)
made_exact {A} {B} {s} {F} {W} {r} a make back t G forth there = record {
  takes = λ bytes y e.
      let first = bind_ok (r bytes) (λ u. Some (make u.0, u.1)) y e in
      let ta = a.takes bytes first.0 first.1 in
      let f = forth first.0.0 ta.1 in
      let whole : B × List ℕ = (make first.0.0, first.0.1) in
      subst (λ (z : B × List ℕ). (bytes ≡ t z.0 ++ z.1) × G z.0) (some_is whole y first.2) (ta.0 ∙ ap (λ (x : List ℕ). x ++ first.0.1) f.0, f.1);
  again = λ y rest fits follows.
      let b = there y fits in
      ap (λ (x : List ℕ). made make r (x ++ rest)) b.2 ∙ rw (a.again (back y) rest b.0 follows) (ap (λ (z : B). Some (z, rest)) b.1);
}

-- the two laws where what is made is one case of many
pub made_takes : {A B : Type 0} {s : A → List ℕ} {F : A → Type 0} {W : List ℕ → Type 0} {r : List ℕ → Option (A × List ℕ)} → IsExact s F W r →
    (make : A → B) (t : B → List ℕ) (G : B → Type 0) (front : List ℕ) →
    ((x : A) → t (make x) ≡ front ++ s x) → ((x : A) → F x → G (make x)) →
    (bytes : List ℕ) (y : B × List ℕ) → made make r bytes ≡ Some y → (front ++ bytes ≡ t y.0 ++ y.1) × G y.0
made_takes {A} {B} {s} {F} {W} {r} a make t G front spelled fits bytes y e =
    let first = bind_ok (r bytes) (λ u. Some (make u.0, u.1)) y e in
    let ta = a.takes bytes first.0 first.1 in
    let whole : B × List ℕ = (make first.0.0, first.0.1) in
    subst (λ (z : B × List ℕ). (front ++ bytes ≡ t z.0 ++ z.1) × G z.0) (some_is whole y first.2)
    (ap (λ (x : List ℕ). front ++ x) ta.0 ∙ sym (append_assoc front (s first.0.0) first.0.1) ∙ ap (λ (x : List ℕ). x ++ first.0.1) (sym (spelled first.0.0)), fits first.0.0 ta.1)

pub made_again : {A B : Type 0} {s : A → List ℕ} {F : A → Type 0} {W : List ℕ → Type 0} {r : List ℕ → Option (A × List ℕ)} → IsExact s F W r →
    (make : A → B) (x : A) (rest : List ℕ) → F x → W rest → made make r (s x ++ rest) ≡ Some (make x, rest)
made_again a make x rest fits follows = rw (a.again x rest fits follows) refl

-- the two laws where nothing follows
pub all_of-takes : {A : Type 0} {s : A → List ℕ} {F : A → Type 0} {W : List ℕ → Type 0} {r : List ℕ → Option (A × List ℕ)} → IsExact s F W r →
    (w : List ℕ) (x : A) → all_of r w ≡ Some x → (s x ≡ w) × F x
all_of-takes {A} {s} {F} {W} {r} a w x e =
    let first = bind_ok (r w) (λ y. cond (eqb (length y.1) 0) (Some y.0) None) x e in
    let p = cond_some (eqb (length first.0.1) 0) first.0.0 x first.2 in
    let t = a.takes w first.0 first.1 in
    let nothing : first.0.1 ≡ [] = nil_from_length first.0.1 (eqb-true _ _ p.0) in
    subst (λ (y : A). (s y ≡ w) × F y) p.1
    (sym (t.0 ∙ ap (λ (rest : List ℕ). s first.0.0 ++ rest) nothing ∙ append-nil (s first.0.0)), t.1)

pub all_of-again : {A : Type 0} {s : A → List ℕ} {F : A → Type 0} {W : List ℕ → Type 0} {r : List ℕ → Option (A × List ℕ)} → IsExact s F W r →
    (x : A) → F x → W [] → all_of r (s x) ≡ Some x
all_of-again {A} {s} {F} {W} {r} a x fits ends =
    let read : r (s x) ≡ Some (x, []) = ap r (sym (append-nil (s x))) ∙ a.again x [] fits ends in
    rw read refl

-- ---- numbers

-- each byte passes
abbrev pub Pass : (ℕ → Bool) → List ℕ → Type 0
Pass test [] = Unit {0}
Pass test (c ∷ bytes) = (test c ≡ true) × Pass test bytes

pub run_length : (test : ℕ → Bool) (w rest : List ℕ) → Pass test w → Stops test rest → prefix_len test (w ++ rest) ≡ length w
run_length test [] [] h s = refl
run_length test [] (c ∷ rest) h s = rw s refl
run_length test (c ∷ w) rest h s = rw h.0 (omega (arith, run_length test w rest h.1 s))

pub digits_pass : (w : List ℕ) → AllDigits 10 w → Pass is_ascii_digit w
digits_pass [] h = tt
digits_pass (c ∷ w) h = let r = digit_from_value c h.0 in (grind (arith, nat_tests), digits_pass w h.1)

pub numeral_takes : (w : List ℕ) (n : ℕ) → numeral w ≡ Some n → (decimal n ≡ w) × (n < 2 ^ 64)
numeral_takes w n e =
    let p = cond_some (bytes_eq (decimal (digits_value 10 w)) w && ltb (digits_value 10 w) (2 ^ 64)) (digits_value 10 w) n e in
    let q = and_parts (bytes_eq (decimal (digits_value 10 w)) w) (ltb (digits_value 10 w) (2 ^ 64)) p.0 in
    subst (λ (m : ℕ). (decimal m ≡ w) × (m < 2 ^ 64)) p.1 ((bytes_eq-Decides _ _).0 q.0, ltb-true _ _ q.1)

pub numeral_again : (n : ℕ) → n < 2 ^ 64 → numeral (decimal n) ≡ Some n
numeral_again n lt =
    let v : digits_value 10 (decimal n) ≡ n = digits_value-decimal own n lt in
    rw (v, (bytes_eq-Decides (decimal n) (decimal n)).1 refl, lt-ltb n (2 ^ 64) lt) refl

pub number_exact : IsExact decimal (λ n. n < 2 ^ 64) NoDigit number_at
unfolding number_at
number_exact = record {
  takes = λ bytes x e.
      let k = prefix_len is_ascii_digit bytes in
      let first = bind_ok (numeral (take k bytes)) (λ n. Some (n, drop k bytes)) x e in
      let t = numeral_takes (take k bytes) first.0 first.1 in
      let whole : ℕ × List ℕ = (first.0, drop k bytes) in
      subst (λ (y : ℕ × List ℕ). (bytes ≡ decimal y.0 ++ y.1) × (y.0 < 2 ^ 64)) (some_is whole x first.2)
      (sym (take-append-drop k bytes) ∙ ap (λ (w : List ℕ). w ++ drop k bytes) (sym t.0), t.1);
  again = λ n rest lt follows.
      let k = run_length is_ascii_digit (decimal n) rest (digits_pass (decimal n) (digits_decimal own n lt)) follows in
      rw (k, take_at (decimal n) rest (length (decimal n)) refl, drop_at (decimal n) rest (length (decimal n)) refl, numeral_again n lt) refl;
}

pub small_exact : (limit : ℕ) → limit ≤ 2 ^ 64 → IsExact decimal (λ n. n < limit) NoDigit (small_at limit)
unfolding small_at
small_exact limit le = record {
  takes = λ bytes x e.
      let first = bind_ok (number_at bytes) (λ n. cond (ltb n.0 limit) (Some n) None) x e in
      let p = cond_some (ltb first.0.0 limit) first.0 x first.2 in
      let t = number_exact.takes bytes first.0 first.1 in
      subst (λ (y : ℕ × List ℕ). (bytes ≡ decimal y.0 ++ y.1) × (y.0 < limit)) p.1 (t.0, ltb-true _ _ p.0);
  again = λ n rest lt follows. rw (number_exact.again n rest (omega (arith, lt, le)) follows, lt-ltb n limit lt) refl;
}

-- ---- words

abbrev pub is_word_byte : ℕ → Bool
is_word_byte b = not (is_space b)

pub Stops-from_ends : (rest : List ℕ) → Ends rest → Stops is_word_byte rest
Stops-from_ends [] h = tt
Stops-from_ends (c ∷ rest) h = rw h refl

-- the bytes up to the first that does not pass
front_passes : (test : ℕ → Bool) (bytes : List ℕ) → Pass test (take (prefix_len test bytes) bytes)
front_passes test [] = tt
front_passes test (c ∷ bytes) = cases (front_passes test bytes) (test c) refl where
  cases : Pass test (take (prefix_len test bytes) bytes) → (b : Bool) → test c ≡ b → Pass test (take (cond b (1 + prefix_len test bytes) 0) (c ∷ bytes))
  cases more true p =
      let next : suc (prefix_len test bytes) ≡ 1 + prefix_len test bytes = omega arith in
      subst (λ (n : ℕ). Pass test (take n (c ∷ bytes))) next (p, more)
  cases more false p = tt

pub word_takes : (bytes : List ℕ) (x : List ℕ × List ℕ) → word_at bytes ≡ Some x → (bytes ≡ 32 ∷ x.0 ++ x.1) × Pass is_word_byte x.0
unfolding word_at
word_takes bytes x e =
    let first = bind_ok (after 32 bytes) (λ rest. Some (take (position_or_len is_space rest) rest, drop (position_or_len is_space rest) rest)) x e in
    let k = position_or_len is_space first.0 in
    let whole : List ℕ × List ℕ = (take k first.0, drop k first.0) in
    subst (λ (y : List ℕ × List ℕ). (bytes ≡ 32 ∷ y.0 ++ y.1) × Pass is_word_byte y.0) (some_is whole x first.2)
    (after_ok 32 bytes first.0 first.1 ∙ ap (λ (t : List ℕ). 32 ∷ t) (sym (take-append-drop k first.0)), front_passes is_word_byte first.0)

pub word_again : (w rest : List ℕ) → Pass is_word_byte w → Ends rest → word_at (32 ∷ w ++ rest) ≡ Some (w, rest)
unfolding word_at
word_again w rest pass ends =
    let k : position_or_len is_space (w ++ rest) ≡ length w = run_length is_word_byte w rest pass (Stops-from_ends rest ends) in
    rw (k, take_at w rest (length w) refl, drop_at w rest (length w) refl) refl

found : {V : Type 0} (text : V → List ℕ) (u : V) (w : List ℕ) (others : Option V) (v : V) → (others ≡ Some v → text v ≡ w) →
    (b : Bool) → bytes_eq (text u) w ≡ b → cond b (Some u) others ≡ Some v → text v ≡ w
found text u w others v later true p h = subst (λ x. text x ≡ w) (some_is u v h) ((bytes_eq-Decides _ _).0 p)
found text u w others v later false p h = later h

pub find_takes : {V : Type 0} (text : V → List ℕ) (table : List V) (w : List ℕ) (v : V) → find_word text table w ≡ Some v → text v ≡ w
find_takes text [] w v e = absurd cc
find_takes text (u ∷ table) w v e = found text u w (find_word text table w) v (find_takes text table w v) (bytes_eq (text u) w) refl e

-- a word that spells a value
pub word_exact : {V : Type 0} (text : V → List ℕ) (Fits : V → Type 0) (value : List ℕ → Option V) →
    ((v : V) → Fits v → Pass is_word_byte (text v)) →
    ((w : List ℕ) (v : V) → Pass is_word_byte w → value w ≡ Some v → (text v ≡ w) × Fits v) →
    ((v : V) → Fits v → value (text v) ≡ Some v) →
    IsExact (λ (v : V). 32 ∷ text v) Fits Ends (word_as value)
word_exact {V} text Fits value pass takes again = record {
  takes = λ bytes x e.
      let first = bind_ok (word_at bytes) (λ w. value w.0 >>= λ v. Some (v, w.1)) x e in
      let second = bind_ok (value first.0.0) (λ v. Some (v, first.0.1)) x first.2 in
      let word = word_takes bytes first.0 first.1 in
      let t = takes first.0.0 second.0 word.1 second.1 in
      let whole : V × List ℕ = (second.0, first.0.1) in
      subst (λ (y : V × List ℕ). (bytes ≡ (32 ∷ text y.0) ++ y.1) × Fits y.0) (some_is whole x second.2)
      (word.0 ∙ ap (λ (t : List ℕ). 32 ∷ t ++ first.0.1) (sym t.0), t.1);
  again = λ v rest fits follows. rw (word_again (text v) rest (pass v fits) follows, again v fits) refl;
}

-- whether each byte passes
abbrev pub passes : (ℕ → Bool) → List ℕ → Bool
passes test [] = true
passes test (c ∷ bytes) = test c && passes test bytes

pub passes_true : (test : ℕ → Bool) (bytes : List ℕ) → passes test bytes ≡ true → Pass test bytes
passes_true test [] e = tt
passes_true test (c ∷ bytes) e = let p = and_parts (test c) (passes test bytes) e in (p.0, passes_true test bytes p.1)

-- whether each byte of each word of a table passes
abbrev pub all_pass : {V : Type 0} → (ℕ → Bool) → (V → List ℕ) → List V → Bool
all_pass test text [] = true
all_pass test text (v ∷ table) = passes test (text v) && all_pass test text table

either : {V : Type 0} (P : V → Type 0) (u v : V) (others : Option V) (b : Bool) → P u → (others ≡ Some v → P v) → cond b (Some u) others ≡ Some v → P v
either P u v others true here later e = subst P (some_is u v e) here
either P u v others false here later e = later e

-- a word that is found is one of the table
pub find_passes : {V : Type 0} (test : ℕ → Bool) (text : V → List ℕ) (table : List V) (w : List ℕ) (v : V) →
    all_pass test text table ≡ true →
    find_word text table w ≡ Some v →
    Pass test (text v)
find_passes test text [] w v all e = absurd cc
find_passes test text (u ∷ table) w v all e =
    let a = and_parts (passes test (text u)) (all_pass test text table) all in
    either (λ x. Pass test (text x)) u v (find_word text table w) (bytes_eq (text u) w) (passes_true test (text u) a.0) (find_passes test text table w v a.1) e

-- a word of a table without spaces, in which each value is found
pub table_exact : {V : Type 0} (text : V → List ℕ) (table : List V) →
    all_pass is_word_byte text table ≡ true →
    ((v : V) → find_word text table (text v) ≡ Some v) →
    IsExact (λ (v : V). 32 ∷ text v) (λ (v : V). Unit {0}) Ends (word_value text table)
unfolding word_value
table_exact text table all finds =
    word_exact text (λ v. Unit {0}) (find_word text table) (λ v fits. find_passes is_word_byte text table (text v) v all (finds v))
    (λ w v pass e. (find_takes text table w v e, tt)) (λ v fits. finds v)

-- ---- a value or a hyphen

begins_true : (c : ℕ) (bytes : List ℕ) → begins c bytes ≡ true → bytes ≡ c ∷ drop 1 bytes
begins_true c [] e = absurd cc
begins_true c (b ∷ bytes) e = cc (eqb-true b c e)

optional_cases : {A : Type 0} {s : A → List ℕ} {F : A → Type 0} {W : List ℕ → Type 0} {r : List ℕ → Option (A × List ℕ)} → IsExact s F W r →
    (rest : List ℕ) (b : Bool) (x : Option A × List ℕ) → begins 45 rest ≡ b → cond b (Some (None, drop 1 rest)) (made Some r rest) ≡ Some x → (32 ∷ rest ≡ optional s x.0 ++ x.1) × Each F x.0
optional_cases {A} {s} {F} {W} {r} a rest true x p e =
    let whole : Option A × List ℕ = (None, drop 1 rest) in
    subst (λ (y : Option A × List ℕ). (32 ∷ rest ≡ optional s y.0 ++ y.1) × Each F y.0) (some_is whole x e) (ap (λ (t : List ℕ). 32 ∷ t) (begins_true 45 rest p), tt)
optional_cases {A} {s} {F} {W} {r} a rest false x p e =
    let first = bind_ok (r rest) (λ u. Some (Some u.0, u.1)) x e in
    let t = a.takes rest first.0 first.1 in
    let whole : Option A × List ℕ = (Some first.0.0, first.0.1) in
    subst (λ (y : Option A × List ℕ). (32 ∷ rest ≡ optional s y.0 ++ y.1) × Each F y.0) (some_is whole x first.2) (ap (λ (t : List ℕ). 32 ∷ t) t.0, t.1)

optional_again : {A : Type 0} {s : A → List ℕ} {F : A → Type 0} {W : List ℕ → Type 0} {r : List ℕ → Option (A × List ℕ)} → IsExact s F W r →
    ((x : A) (rest : List ℕ) → F x → begins 45 (s x ++ rest) ≡ false) →
    (o : Option A) (rest : List ℕ) → Each F o → W rest → optional_field r (optional s o ++ rest) ≡ Some (o, rest)
unfolding optional_field
optional_again a plain None rest fits follows = refl
optional_again a plain (Some x) rest fits follows = rw (plain x rest fits, a.again x rest fits follows) refl

pub optional_exact : {A : Type 0} {s : A → List ℕ} {F : A → Type 0} {W : List ℕ → Type 0} {r : List ℕ → Option (A × List ℕ)} → IsExact s F W r →
    ((x : A) (rest : List ℕ) → F x → begins 45 (s x ++ rest) ≡ false) → IsExact (optional s) (Each F) W (optional_field r)
unfolding optional_field
optional_exact {A} {s} {F} {W} {r} a plain = record {
  takes = λ bytes x e.
      let first = bind_ok (after 32 bytes) (λ rest. cond (begins 45 rest) (Some (None, drop 1 rest)) (made Some r rest)) x e in
      let t = optional_cases a first.0 (begins 45 first.0) x refl first.2 in
      (after_ok 32 bytes first.0 first.1 ∙ t.0, t.1);
  again = optional_again a plain;
}

-- ---- texts that stand in every line of a form

-- what stands behind a text
pub literal_takes : (text bytes rest : List ℕ) → literal_at text bytes ≡ Some rest → bytes ≡ text ++ rest
literal_takes text bytes rest e =
    let p = cond_some (bytes_eq (take (length text) bytes) text) (drop (length text) bytes) rest e in
    sym (take-append-drop (length text) bytes) ∙ ap (λ (x : List ℕ). x ++ drop (length text) bytes) ((bytes_eq-Decides _ _).0 p.0) ∙ ap (λ (x : List ℕ). text ++ x) p.1

literal_again : (text rest : List ℕ) → literal_at text (text ++ rest) ≡ Some rest
literal_again text rest = rw (take_at text rest (length text) refl, drop_at text rest (length text) refl, (bytes_eq-Decides text text).1 refl) refl

-- a text and a field
pub behind_text_exact : {A : Type 0} {s : A → List ℕ} {F : A → Type 0} {W : List ℕ → Type 0} {r : List ℕ → Option (A × List ℕ)} (t : List ℕ) → IsExact s F W r → IsExact (λ (x : A). t ++ s x) F W (behind_text t r)
behind_text_exact {A} {s} {F} {W} {r} t a = record {
  takes = λ bytes x e.
      let first = bind_ok (literal_at t bytes) r x e in
      let b = a.takes first.0 x first.2 in
      (literal_takes t bytes first.0 first.1 ∙ ap (λ (y : List ℕ). t ++ y) b.0 ∙ sym (append_assoc t (s x.0) x.1), b.1);
  again = λ x rest fits follows.
      ap (behind_text t r) (append_assoc t (s x) rest) ∙ ap (λ (o : Option (List ℕ)). o >>= r) (literal_again t (s x ++ rest)) ∙ a.again x rest fits follows;
}

-- a field and a text
pub before_text_exact : {A : Type 0} {s : A → List ℕ} {F : A → Type 0} {W V : List ℕ → Type 0} {r : List ℕ → Option (A × List ℕ)} (t : List ℕ) → IsExact s F W r → ((rest : List ℕ) → V rest → W (t ++ rest)) →
    IsExact (λ (x : A). s x ++ t) F V (before_text t r)
before_text_exact {A} {s} {F} {W} {V} {r} t a starts = record {
  takes = λ bytes x e.
      let first = bind_ok (r bytes) (λ y. literal_at t y.1 >>= λ rest. Some (y.0, rest)) x e in
      let second = bind_ok (literal_at t first.0.1) (λ rest. Some (first.0.0, rest)) x first.2 in
      let b = a.takes bytes first.0 first.1 in
      let all : A × List ℕ = (first.0.0, second.0) in
      subst (λ (y : A × List ℕ). (bytes ≡ (s y.0 ++ t) ++ y.1) × F y.0) (some_is all x second.2)
      (b.0 ∙ ap (λ (y : List ℕ). s first.0.0 ++ y) (literal_takes t first.0.1 second.0 second.1) ∙ sym (append_assoc (s first.0.0) t second.0), b.1);
  again = λ x rest fits follows.
      ap (before_text t r) (append_assoc (s x) t rest) ∙ rw (a.again x (t ++ rest) fits (starts rest follows), literal_again t rest) refl;
}

-- a field that passes a test
pub tested_exact : {A : Type 0} {s : A → List ℕ} {F : A → Type 0} {W : List ℕ → Type 0} {r : List ℕ → Option (A × List ℕ)} (test : A → Bool) → IsExact s F W r → IsExact s (λ (x : A). F x × (test x ≡ true)) W (tested test r)
tested_exact {A} {s} {F} {W} {r} test a = record {
  takes = λ bytes x e.
      let first = bind_ok (r bytes) (λ y. cond (test y.0) (Some y) None) x e in
      let p = cond_some (test first.0.0) first.0 x first.2 in
      let b = a.takes bytes first.0 first.1 in
      subst (λ (y : A × List ℕ). (bytes ≡ s y.0 ++ y.1) × (F y.0 × (test y.0 ≡ true))) p.1 (b.0, (b.1, p.0));
  again = λ x rest fits follows. rw (a.again x rest fits.0 follows, fits.1) refl;
}
