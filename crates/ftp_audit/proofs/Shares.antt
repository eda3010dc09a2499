-- What a file adds to what a user's files were given.
use Rattle.std.proofs.Common.{◌≡◌, ◌≢◌, ℕ, ◌+◌, ◌-◌, ◌≤◌, Bool, true, false, List, Option, Some, None, refl, sym, ◌∙◌, arith}
use Rattle.std.specs.Prelude.{not, unwrap_or, Result, Ok, Err, MatchResult, OnOk}
use Rattle.std.specs.FinMap as map
use Rattle.std.specs.Option.{option_map}
use Rattle.std.specs.Str.{bytes_eq}
use Rattle.std.proofs.lemmas.Slice.Eq.{bytes_eq-Decides}
use Rattle.ftp_audit.specs.declared.quota_book.Held.{Held}
use Rattle.ftp_audit.specs.Usage.{Owners, is_of, share, given}
use Rattle.ftp_audit.proofs.ByName.{same_name}
use Rattle.ftp_audit.proofs.UsageLemmas.{given-insert, no_share}

differs : (b : Bool) → (b ≡ true → ⊥) → b ≡ false
differs true never = absurd (never refl)
differs false never = refl

-- names that differ are found to differ
pub other_name : (a b : List ℕ) → a ≢ b → bytes_eq a b ≡ false
other_name a b other = differs (bytes_eq a b) (λ e. other (same_name a b e))

-- what a file adds for its owner
pub share-own : (held : Held) (user : List ℕ) → held.owner ≡ user → share user held ≡ held.len
share-own held user e =
    let own : is_of user held ≡ true = (bytes_eq-Decides held.owner user).1 e in rw own refl

-- what a file adds for others
pub share-other : (held : Held) (user : List ℕ) → held.owner ≢ user → share user held ≡ 0
share-other held user other =
    let apart : is_of user held ≡ false = other_name held.owner user other in rw apart refl

share-le : (owners : Owners) (path : List ℕ) (held : Held) (user : List ℕ) → map.get owners path ≡ Some held → share user held ≤ given owners user
share-le owners path held user there =
    let empty : Held = record { owner = user; len = 0 } in
    let sum : given (map.insert owners path empty) user + share user held ≡ given owners user + share user empty = rw there at (given-insert owners path empty user) in
    let none : share user empty ≡ 0 = no_share user empty refl in
    omega arith

-- a file of a user was given no more than the user's files were
pub own-le : (owners : Owners) (path : List ℕ) (held : Held) (user : List ℕ) → map.get owners path ≡ Some held → held.owner ≡ user → held.len ≤ given owners user
own-le owners path held user there owner = omega (arith, share-own held user owner, share-le owners path held user there)

-- what a user's files were given with a new file
pub given-new : (owners : Owners) (path user : List ℕ) (len : ℕ) → map.get owners path ≡ None →
    given (map.insert owners path (record { owner = user; len = len })) user ≡ given owners user + len
given-new owners path user len none =
    let held : Held = record { owner = user; len = len } in
    let sum : given (map.insert owners path held) user + 0 ≡ given owners user + share user held = rw none at (given-insert owners path held user) in
    let own : share user held ≡ len = share-own held user refl in
    omega arith

-- what a user's files were given where one of them has another length
pub given-changed : (owners : Owners) (path user : List ℕ) (len : ℕ) (held : Held) → map.get owners path ≡ Some held → held.owner ≡ user →
    given (map.insert owners path (record { owner = user; len = len })) user ≡ given owners user - held.len + len
given-changed owners path user len held there owner =
    let changed : Held = record { owner = user; len = len } in
    let sum : given (map.insert owners path changed) user + share user held ≡ given owners user + share user changed = rw there at (given-insert owners path changed user) in
    let own : share user changed ≡ len = share-own changed user refl in
    let was : share user held ≡ held.len = share-own held user owner in
    let below = own-le owners path held user there owner in
    omega arith

shares_none : (o : Option Held) (user other : List ℕ) → ((held : Held) → o ≡ Some held → held.owner ≡ user) → user ≢ other → unwrap_or (option_map (share other) o) 0 ≡ 0
shares_none None user other owned apart = refl
shares_none (Some held) user other owned apart = share-other held other (λ e. apart (sym (owned held refl) ∙ e))

-- what others' files were given stays, where the file is the user's or nobody's
pub given-others : (owners : Owners) (path user other : List ℕ) (len : ℕ) → ((held : Held) → map.get owners path ≡ Some held → held.owner ≡ user) → user ≢ other →
    given (map.insert owners path (record { owner = user; len = len })) other ≡ given owners other
given-others owners path user other len owned apart =
    let held : Held = record { owner = user; len = len } in
    let sum = given-insert owners path held other in
    let none : share other held ≡ 0 = share-other held other apart in
    let before : unwrap_or (option_map (share other) (map.get owners path)) 0 ≡ 0 = shares_none (map.get owners path) user other owned apart in
    omega arith

turned_off : (b : Bool) → not b ≡ false → b ≡ true
turned_off true e = refl
turned_off false e = cc

-- owners that are not found to differ are equal
pub equal_owner : (a b : List ℕ) {r : Bool} → r ≡ not (bytes_eq a b) → r ≡ false → a ≡ b
equal_owner a b is e = same_name a b (turned_off (bytes_eq a b) (sym is ∙ e))

-- what follows of an Ok
pub on_ok : {A E : Type 0} (r : Result A E) (P Q : Type 0) (R : E → Type 0) → MatchResult r (λ _. P) R → (P → Q) → OnOk r Q
on_ok (Ok x) P Q R is follows = follows is
on_ok (Err e) P Q R is follows = tt
