-- What is said to a password, and who is let in.
use Rattle.std.proofs.Common.{rules, ◌≡◌, ◌∙◌, ℕ, Bool, true, false, List, Option, Some, None, refl, sym, ap, eq-eqb}
use Rattle.std.specs.Prelude.{◌↔◌, IsTrue}
use Rattle.std.proofs.lemmas.Slice.Eq.{bytes_eq-Decides}
use Rattle.ftp_base.specs.Login.{place_of, same_answer}
use Rattle.ftp_base.specs.declared.login.AuthAnswer.{AuthAnswer}
use Rattle.ftp_base.specs.declared.login.AuthAnswer.TheVariants.{Good, Refused}
use Rattle.ftp_config.specs.declared.user.User.{User}
use Rattle.ftp_config.specs.declared.user.Credential.{Credential}
use Rattle.ftp_config.specs.declared.user.Credential.TheVariants as credential
use Rattle.ftp_config.specs.declared.user.PasswordHash.{PasswordHash}
use Rattle.ftp_config.specs.Pbkdf2.{derived_key}
use Rattle.ftp_config.specs.Users.{user_named}
use Rattle.ftp_config.specs.Verdict.{derives, answer_of, answer_for, AcceptsPassword, MayLogIn, hash_or, tried_hash, said_by, said_to}

-- what was found of a password and a hash is whether it derives the key
derives-is : (right : Bool) (password : List ℕ) (hash : PasswordHash) → (IsTrue right ↔ (derived_key password hash.salt hash.rounds ≡ hash.key)) → right ≡ derives password hash
derives-is true password hash h = sym ((bytes_eq-Decides (derived_key password hash.salt hash.rounds) hash.key).1 (h.0 (search rules)))
derives-is false password hash h =
    not_true (derives password hash) (λ e. h.1 ((bytes_eq-Decides (derived_key password hash.salt hash.rounds) hash.key).0 e)) where
      not_true : (b : Bool) → (b ≡ true → IsTrue false) → false ≡ b
      not_true true k = absurd (search (rules, k refl))
      not_true false k = refl

said_by-answer_of : (who : Credential) (stand_in : PasswordHash) (right : Bool) (password : List ℕ) → right ≡ derives password (hash_or who stand_in) → said_by who right ≡ answer_of who password
said_by-answer_of credential.Any stand_in right password e = refl
said_by-answer_of credential.Disabled stand_in right password e = refl
said_by-answer_of (credential.Hash hash) stand_in right password e = ap (said_by (credential.Hash hash)) e

-- what is said where the password was tried on the user's hash, or on a stand-in
pub said_to-answer_for : (found : Option User) (stand_in hash : PasswordHash) (right : Bool) (password : List ℕ) → hash ≡ tried_hash found stand_in →
    (IsTrue right ↔ (derived_key password hash.salt hash.rounds ≡ hash.key)) → said_to found right ≡ answer_for found password
said_to-answer_for None stand_in hash right password same h = refl
said_to-answer_for (Some user) stand_in hash right password same h =
    said_by-answer_of user.credential stand_in right password (derives-is right password hash h ∙ ap (derives password) same)

-- a credential says Good exactly to what it lets in
accepts : (who : Credential) (password : List ℕ) → (answer_of who password ≡ Good) ↔ AcceptsPassword who password
accepts credential.Any password = (λ e. tt, λ o. refl)
accepts credential.Disabled password = (λ e. absurd (cc e), λ o. absurd o)
accepts (credential.Hash hash) password = (
  there (derives password hash) refl,
  λ same. ap (said_by (credential.Hash hash)) ((bytes_eq-Decides (derived_key password hash.salt hash.rounds) hash.key).1 same),
) where
  there : (b : Bool) → derives password hash ≡ b → said_by (credential.Hash hash) (derives password hash) ≡ Good → derived_key password hash.salt hash.rounds ≡ hash.key
  there true e good = (bytes_eq-Decides (derived_key password hash.salt hash.rounds) hash.key).0 e
  there false e good = absurd (let refused : said_by (credential.Hash hash) (derives password hash) ≡ Refused = ap (said_by (credential.Hash hash)) e in cc (refused, good))

-- Good is said exactly to who is let in
pub good-may_log_in : (users : List (List ℕ × User)) (name password : List ℕ) → (answer_for (user_named name users) password ≡ Good) ↔ MayLogIn users name password
good-may_log_in users name password = (there (user_named name users) refl, back) where
  there : (found : Option User) → user_named name users ≡ found → answer_for found password ≡ Good → MayLogIn users name password
  there None e good = absurd (cc good)
  there (Some user) e good = (user, e, (accepts user.credential password).0 good)

  back : MayLogIn users name password → answer_for (user_named name users) password ≡ Good
  back h = ap (λ found. answer_for found password) h.1 ∙ (accepts h.0.credential password).1 h.2

-- an answer is the same as itself
pub same_answer-same : (a b : AuthAnswer) → a ≡ b → same_answer a b ≡ true
same_answer-same a b e = eq-eqb (place_of a) (place_of b) (ap place_of e)
