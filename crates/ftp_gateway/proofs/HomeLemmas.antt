-- The homes of users, one after another.
use Rattle.std.proofs.Common.{◌≡◌, ℕ, List, [], ◌∷◌, ◌++◌, Some, None, Option, true, false, Bool, refl, sym, ap, ◌∙◌, map, cond, Vec, Global, subst, append_assoc}
use Rattle.std.specs.Option.{option_or}
use Rattle.std.specs.Str.{bytes_eq}
use Rattle.std.proofs.lemmas.List.{map-append}
use Rattle.ftp_disk.specs.Home.{home_of, home_if}
use Rattle.ftp_disk.specs.declared.home.Home.{Home}
use Rattle.ftp_config.specs.Users.{named, user_named}
use Rattle.ftp_config.specs.declared.user.User.{User}
use Rattle.ftp_gateway.specs.Owned.{AreHomesOf, IsHome, IsHomeOf}

abbrev pub Entries : Type 0
Entries = List (Vec ℕ Global × User)

user_named-append : (q : List ℕ) (xs ys : List (List ℕ × User)) → user_named q (xs ++ ys) ≡ option_or (user_named q xs) (user_named q ys)
user_named-append q [] ys = refl
user_named-append q (x ∷ xs) ys = at (bytes_eq q x.0) (user_named-append q xs ys)
  where
    at : (b : Bool) → user_named q (xs ++ ys) ≡ option_or (user_named q xs) (user_named q ys) → cond b (Some x.1) (user_named q (xs ++ ys)) ≡ option_or (cond b (Some x.1) (user_named q xs)) (user_named q ys)
    at true rest = refl
    at false rest = rest

either-or : (a b : Option User) (c d : Option Home) → IsHomeOf a c → IsHomeOf b d → IsHomeOf (option_or a b) (option_or c d)
either-or None b None d h k = k
either-or None b (Some c) d h k = absurd h
either-or (Some a) b None d h k = absurd h
either-or (Some a) b (Some c) d h k = h

one-home : (q n : List ℕ) (u : User) (h : Home) → IsHome u h → IsHomeOf (user_named q ((n, u) ∷ [])) (home_if q n h)
one-home q n u h is = at (bytes_eq q n)
  where
    at : (b : Bool) → IsHomeOf (cond b (Some u) None) (cond b (Some h) None)
    at true = is
    at false = tt

-- the homes with one user's more
pub homes-snoc :
    (front : Entries) (e : Vec ℕ Global × User) (old new : List (List ℕ × Home)) (h : Home) →
    AreHomesOf (named front) old → IsHome e.1 h → ((name : List ℕ) → home_of new name ≡ option_or (home_of old name) (home_if name e.0.items h)) →
    AreHomesOf (named (front ++ e ∷ [])) new
homes-snoc front e old new h so is added = λ q.
    subst (λ us. IsHomeOf (user_named q us) (home_of new q)) (sym (map-append (λ (m : Vec ℕ Global × User). (m.0.items, m.1)) front (e ∷ [])))
    (subst (λ o. IsHomeOf o (home_of new q)) (sym (user_named-append q (named front) (named (e ∷ []))))
    (subst (λ o. IsHomeOf (option_or (user_named q (named front)) (user_named q (named (e ∷ [])))) o) (sym (added q))
    (either-or (user_named q (named front)) (user_named q (named (e ∷ []))) (home_of old q) (home_if q e.0.items h) (so q) (one-home q e.0.items e.1 h is))))

-- the users so far have these homes, and the others are left
pub step :
    (front : Entries) (e : Vec ℕ Global × User) (more all : Entries) (old new : List (List ℕ × Home)) (h : Home) → front ++ e ∷ more ≡ all →
    AreHomesOf (named front) old → IsHome e.1 h → ((name : List ℕ) → home_of new name ≡ option_or (home_of old name) (home_if name e.0.items h)) →
    (f : Entries) × (f ++ more ≡ all) × AreHomesOf (named f) new
step front e more all old new h whole so is added = (front ++ e ∷ [], append_assoc front (e ∷ []) more ∙ whole, homes-snoc front e old new h so is added)
