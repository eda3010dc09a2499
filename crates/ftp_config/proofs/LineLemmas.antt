-- The users of lines, as the lines are read.
use Rattle.std.proofs.Common.{◌≡◌, ◌∙◌, ℕ, ◌+◌, ◌-◌, ◌<◌, Bool, true, false, cond, not, List, [], ◌∷◌, ◌++◌, length, take, get_or, Bor, Option, Some, None, refl, ap, sym, append-nil, arith}
use Rattle.std.specs.Prelude.{is_some}
use Rattle.std.specs.List.{filter_map}
use Rattle.std.specs.Option.{option_or}
use Rattle.std.specs.Str.{bytes_eq}
use Rattle.std.proofs.lemmas.List.{take_more, get_or-map, length-map}
use Rattle.std.proofs.lemmas.List.Elements.{filter_map-append}
use Rattle.std.proofs.lemmas.Slice.Eq.{bytes_eq-Decides}
use Rattle.ftp_config.specs.declared.user.User.{User}
use Rattle.ftp_config.specs.Line.{spelled_user}
use Rattle.ftp_config.specs.Users.{is_passed_over, line_user, users_in, user_named, is_good_behind, is_good_at, IsFirstBadLine}
use Rattle.ftp_config.proofs.PartLemmas.{texts}

user_named-append : (q : List ℕ) (xs ys : List (List ℕ × User)) → user_named q (xs ++ ys) ≡ option_or (user_named q xs) (user_named q ys)
user_named-append q [] ys = refl
user_named-append q (x ∷ xs) ys =
    elim (bytes_eq q x.0) as (λ b. cond b (Some x.1) (user_named q (xs ++ ys)) ≡ option_or (cond b (Some x.1) (user_named q xs)) (user_named q ys)) [
      | true ↦ refl
      | false ↦ user_named-append q xs ys
    ]

users_in-more : (lines : List (List ℕ)) (line : List ℕ) → users_in (lines ++ line ∷ []) ≡ users_in lines ++ filter_map line_user (line ∷ [])
unfolding users_in
users_in-more lines line = filter_map-append line_user lines (line ∷ [])

none_passed : (line : List ℕ) → is_passed_over line ≡ true → filter_map line_user (line ∷ []) ≡ []
none_passed line over = rw over refl

one_taken : (line : List ℕ) (user : List ℕ × User) → is_passed_over line ≡ false → spelled_user line ≡ Some user → filter_map line_user (line ∷ []) ≡ user ∷ []
one_taken line user over spelled = rw (over, spelled) refl

-- a line that is passed over has no user
pub users_in-passed : (lines : List (List ℕ)) (line : List ℕ) → is_passed_over line ≡ true → users_in (lines ++ line ∷ []) ≡ users_in lines
users_in-passed lines line over = users_in-more lines line ∙ ap (λ us. users_in lines ++ us) (none_passed line over) ∙ append-nil (users_in lines)

-- and is good
pub good-passed : (lines : List (List ℕ)) (line : List ℕ) → is_passed_over line ≡ true → is_good_behind lines line ≡ true
good-passed lines line over = rw over refl

-- a line that spells no user is bad
pub good-none : (lines : List (List ℕ)) (line : List ℕ) → is_passed_over line ≡ false → spelled_user line ≡ None → is_good_behind lines line ≡ false
good-none lines line over none = rw (over, none) refl

-- a line that spells one is good where nobody has the name
pub good-some : (lines : List (List ℕ)) (line name : List ℕ) (user : User) → is_passed_over line ≡ false → spelled_user line ≡ Some (name, user) →
    is_good_behind lines line ≡ not (is_some (user_named name (users_in lines)))
good-some lines line name user over some = rw (over, some) refl

is_none : (o : Option User) → not (is_some o) ≡ true → o ≡ None
is_none None h = refl
is_none (Some x) h = absurd (cc h)

option_or-none : {A : Type 0} (o : Option A) → option_or o None ≡ o
option_or-none None = refl
option_or-none (Some x) = refl

-- its user is the one of the name, and the others are as before
pub users_in-taken : (lines : List (List ℕ)) (line name : List ℕ) (user : User) (q : List ℕ) → is_passed_over line ≡ false → spelled_user line ≡ Some (name, user) →
    not (is_some (user_named name (users_in lines))) ≡ true →
    cond (bytes_eq q name) (Some user) (user_named q (users_in lines)) ≡ user_named q (users_in (lines ++ line ∷ []))
users_in-taken lines line name user q over some new =
    by (bytes_eq q name) refl
    ∙ sym (ap (user_named q) (users_in-more lines line ∙ ap (λ us. users_in lines ++ us) (one_taken line (name, user) over some)) ∙ user_named-append q (users_in lines) ((name, user) ∷ [])) where
      by : (b : Bool) → bytes_eq q name ≡ b → cond b (Some user) (user_named q (users_in lines)) ≡ option_or (user_named q (users_in lines)) (cond b (Some user) None)
      by true same =
          let none : user_named q (users_in lines) ≡ None = ap (λ (n : List ℕ). user_named n (users_in lines)) ((bytes_eq-Decides q name).0 same) ∙ is_none _ new in
          sym (ap (λ o. option_or o (Some user)) none)
      by false other = sym (option_or-none (user_named q (users_in lines)))

-- the lines up to here, and this one
pub take-line : (lines : List (Bor (List ℕ))) (i : ℕ) (d : Bor (List ℕ)) → i < length lines → take (i + 1) (texts lines) ≡ take i (texts lines) ++ (get_or lines i d).now ∷ []
take-line lines i d within =
    let len : length (texts lines) ≡ length lines = length-map lines (λ l. l.now) in
    take_more (texts lines) i [] (omega (arith, len)) ∙ ap (λ (l : List ℕ). take i (texts lines) ++ l ∷ []) (get_or-map (λ l. l.now) lines i d [] within)

-- the line at a place is good behind those before it
pub good_at-line : (lines : List (Bor (List ℕ))) (i : ℕ) (d : Bor (List ℕ)) → i < length lines → is_good_at (texts lines) i ≡ is_good_behind (take i (texts lines)) (get_or lines i d).now
good_at-line lines i d within = ap (is_good_behind (take i (texts lines))) (get_or-map (λ l. l.now) lines i d [] within)

-- the line at a place is the first that is bad
pub first-bad : (lines : List (Bor (List ℕ))) (i : ℕ) (d : Bor (List ℕ)) → i < length lines →
    ((k : ℕ) → k < i → is_good_at (texts lines) k ≡ true) →
    is_good_behind (take i (texts lines)) (get_or lines i d).now ≡ false →
    IsFirstBadLine (texts lines) (i + 1)
first-bad lines i d within before bad =
    let len : length (texts lines) ≡ length lines = length-map lines (λ l. l.now) in
    let place : i + 1 - 1 ≡ i = omega arith in
    record {
      counted = (omega arith, omega (arith, len));
      before = λ k lt. before k (omega arith);
      bad = ap (is_good_at (texts lines)) place ∙ good_at-line lines i d within ∙ bad;
    }
