-- Lines by their numbers, read from the last one on.
use Rattle.std.proofs.Common.{BuildHasherDefault, FoldHasher, ◌≡◌, refl, sym, ap, ◌∙◌, subst, ℕ, ◌+◌, ◌<◌, Bool, true, false, cond, List, [], ◌∷◌, ◌++◌, length, map, Option, Some, None, eqb-true, arith}
use Rattle.std.specs.Prelude.{◌==◌, is_some, nat_eq}
use Rattle.std.specs.List.{AllByRecursion}
use Rattle.std.specs.Option.{option_map, option_or}
use Rattle.std.specs.HashMap as table
use Rattle.ftp_laws.specs.Census.{IsAscending}
use Rattle.ftp_hub.specs.State.{line_of}

-- what is found first is found also where more comes behind it
first-last : {A : Type 0} (b : Bool) (x : A) (all rest last : Option A) → all ≡ option_or rest last → cond b (Some x) all ≡ option_or (cond b (Some x) rest) last
first-last true x all rest last h = refl
first-last false x all rest last h = h

-- a line that is put last is found where no other of its number comes before it
pub line-last :
    {A : Type 0} (number : A → ℕ) (lines : List A) (line : A) (s : ℕ) →
    line_of number (lines ++ line ∷ []) s ≡ option_or (line_of number lines s) (cond (number line == s) (Some line) None)
line-last number [] line s = refl
line-last number (x ∷ lines) line s = first-last (number x == s) x (line_of number (lines ++ line ∷ []) s) (line_of number lines s) (cond (number line == s) (Some line) None) (line-last number lines line s)

-- values that are put in from the last line on
pub put-step :
    {A B : Type 0} (number : A → ℕ) (f : A → B) (lines : List A) (line : A) (s : ℕ) (now : Option B) →
    option_or (option_map f (line_of number lines s)) (cond (number line == s) (Some (f line)) now)
    ≡ option_or (option_map f (line_of number (lines ++ line ∷ []) s)) now
put-step {A = A} {B = B} number f lines line s now =
    go (line_of number lines s) (number line == s)
    ∙ ap (λ x. option_or (option_map f x) now) (sym (line-last number lines line s))
  where
    go : (x : Option A) (b : Bool) → option_or (option_map f x) (cond b (Some (f line)) now) ≡ option_or (option_map f (option_or x (cond b (Some line) None))) now
    go (Some y) b = refl
    go None true = refl
    go None false = refl

-- what is kept by number
abbrev pub Table : Type 0 → Type 0
Table B = table.HashMap ℕ B (BuildHasherDefault FoldHasher)

-- with the lines that are left, the values are as with all
abbrev pub AreLeft : {A B : Type 0} → (A → ℕ) → (Option A → B → B) → List A → Table B → List A → Table B → Type 0
AreLeft number f left now all before = record {
  values : (s : ℕ) → option_map (f (line_of number left s)) (table.get nat_eq now s) ≡ option_map (f (line_of number all s)) (table.get nat_eq before s);
  len : table.hash_map_len now ≡ table.hash_map_len before;
}

-- with one line more they are as before: an earlier line has the last word
pub left-step :
    {A B : Type 0} (number : A → ℕ) (f : Option A → B → B) (behind left all : List A) (line : A) (now next before : Table B) →
    ((v : B) → f None v ≡ v) → ((a b : A) (v : B) → f (Some a) (f (Some b) v) ≡ f (Some a) v) → behind ≡ left ++ line ∷ [] →
    ((s : ℕ) → table.get nat_eq next s ≡ cond (number line == s) (option_map (f (Some line)) (table.get nat_eq now s)) (table.get nat_eq now s)) →
    table.hash_map_len next ≡ table.hash_map_len now →
    AreLeft number f behind now all before → AreLeft number f left next all before
left-step {A = A} {B = B} number f behind left all line now next before none again last told len so_far =
    record {
      values = λ s.
          ap (option_map (f (line_of number left s))) (told s)
          ∙ go (line_of number left s) (number line == s) (table.get nat_eq now s)
          ∙ ap (λ x. option_map (f x) (table.get nat_eq now s)) (sym (line-last number left line s))
          ∙ ap (λ (ls : List A). option_map (f (line_of number ls s)) (table.get nat_eq now s)) (sym last)
          ∙ so_far.values s;
      len = len ∙ so_far.len;
    }
  where
    go : (x : Option A) (b : Bool) (v : Option B) → option_map (f x) (cond b (option_map (f (Some line)) v) v) ≡ option_map (f (option_or x (cond b (Some line) None))) v
    go x true None = refl
    go x false None = refl
    go (Some y) true (Some v) = ap Some (again y line v)
    go None true (Some v) = ap Some (none (f (Some line) v))
    go (Some y) false (Some v) = refl
    go None false (Some v) = refl

-- numbers before the last one ascend, and are below it
pub ascending-last : (xs : List ℕ) (x : ℕ) → IsAscending (xs ++ x ∷ []) → IsAscending xs × AllByRecursion (λ n. n < x) xs
ascending-last [] x h = (tt, tt)
ascending-last (y ∷ xs) x h =
    let rest = ascending-last xs x h.1 in
    let parts = below xs h.0 in
    ((parts.0, rest.0), (parts.1, rest.1))
  where
    below : (ys : List ℕ) → AllByRecursion (λ m. y < m) (ys ++ x ∷ []) → AllByRecursion (λ m. y < m) ys × (y < x)
    below [] h = (tt, h.0)
    below (z ∷ ys) h = let rest = below ys h.1 in ((h.0, rest.0), rest.1)

-- a list of numbers, one by one
pub map-last : {A : Type 0} (f : A → ℕ) (xs : List A) (x : A) → map f (xs ++ x ∷ []) ≡ map f xs ++ f x ∷ []
map-last f [] x = refl
map-last f (y ∷ xs) x = ap (λ zs. f y ∷ zs) (map-last f xs x)

-- what is left to be put in comes before all that is there
abbrev pub IsBefore : {B : Type 0} → List ℕ → (ℕ → Option B) → Type 0
IsBefore left there = (s : ℕ) → is_some (there s) ≡ true → AllByRecursion (λ n. n < s) left

-- so the next is not there
pub before-fresh : {B : Type 0} (xs : List ℕ) (x : ℕ) (v : Option B) → (is_some v ≡ true → AllByRecursion (λ n. n < x) (xs ++ x ∷ [])) → v ≡ None
before-fresh xs x None h = refl
before-fresh {B = B} xs x (Some v) h = absurd (go xs (h refl))
  where
    go : (ys : List ℕ) → AllByRecursion (λ n. n < x) (ys ++ x ∷ []) → ⊥
    go [] h = omega (arith, h.0)
    go (y ∷ ys) h = go ys h.1

-- and it stays so once it is there
pub before-step : {B : Type 0} (xs : List ℕ) (x s : ℕ) (v : Option B) (new : B) → IsAscending (xs ++ x ∷ []) →
    (is_some v ≡ true → AllByRecursion (λ n. n < s) (xs ++ x ∷ [])) →
    is_some (cond (x == s) (Some new) v) ≡ true → AllByRecursion (λ n. n < s) xs
before-step {B = B} xs x s v new up h = go (x == s) refl
  where
    front : (ys : List ℕ) → AllByRecursion (λ n. n < s) (ys ++ x ∷ []) → AllByRecursion (λ n. n < s) ys
    front [] h = tt
    front (y ∷ ys) h = (h.0, front ys h.1)

    go : (b : Bool) → (x == s) ≡ b → is_some (cond b (Some new) v) ≡ true → AllByRecursion (λ n. n < s) xs
    go true e y = subst (λ (m : ℕ). AllByRecursion (λ n. n < m) xs) (eqb-true x s e) (ascending-last xs x up).1
    go false e y = front xs (h y)

-- a list with one more
pub length-last : {A : Type 0} (xs : List A) (x : A) → length (xs ++ x ∷ []) ≡ length xs + 1
length-last [] x = refl
length-last (y ∷ xs) x = omega (arith, length-last xs x)
