-- What is said to a name and a password, and who is let in.
use Rattle.std.specs.Prelude.{◌≡◌, ℕ, Bool, List, Option, Some, None, if◌then◌else◌}
use Rattle.std.specs.Str.{bytes_eq}
use Rattle.ftp_base.specs.declared.login.AuthAnswer.{AuthAnswer}
use Rattle.ftp_base.specs.declared.login.AuthAnswer.TheVariants as answer
use Rattle.ftp_config.specs.declared.user.User.{User}
use Rattle.ftp_config.specs.declared.user.Credential.{Credential}
use Rattle.ftp_config.specs.declared.user.Credential.TheVariants as credential
use Rattle.ftp_config.specs.declared.user.PasswordHash.{PasswordHash}
use Rattle.ftp_config.specs.Pbkdf2.{derived_key}
use Rattle.ftp_config.specs.Users.{user_named}

-- whether a password derives the key of a hash
abbrev pub derives : List ℕ → PasswordHash → Bool
derives password hash = bytes_eq (derived_key password hash.salt hash.rounds) hash.key

-- what is said to a password by what lets a user in
abbrev pub answer_of : Credential → List ℕ → AuthAnswer
answer_of credential.Any password = answer.Good
answer_of credential.Disabled password = answer.Disabled
answer_of (credential.Hash hash) password = if derives password hash then answer.Good else answer.Refused

-- what is said to a password of a user, or of nobody
abbrev pub answer_for : Option User → List ℕ → AuthAnswer
answer_for None password = answer.BadUser
answer_for (Some user) password = answer_of user.credential password

-- every password lets in, none does, or the password derives the key of the hash
abbrev pub AcceptsPassword : Credential → List ℕ → Type 0
AcceptsPassword credential.Any password = Unit {0}
AcceptsPassword credential.Disabled password = ⊥
AcceptsPassword (credential.Hash hash) password = derived_key password hash.salt hash.rounds ≡ hash.key

-- a user has the name, and the password lets it in
abbrev pub MayLogIn : List (List ℕ × User) → List ℕ → List ℕ → Type 0
MayLogIn users name password = (user : User) × (user_named name users ≡ Some user) × AcceptsPassword user.credential password

-- its hash, or a stand-in where it has none
abbrev pub hash_or : Credential → PasswordHash → PasswordHash
hash_or credential.Any stand_in = stand_in
hash_or credential.Disabled stand_in = stand_in
hash_or (credential.Hash hash) stand_in = hash

-- the hash that a password is tried on
abbrev pub tried_hash : Option User → PasswordHash → PasswordHash
tried_hash None stand_in = stand_in
tried_hash (Some user) stand_in = hash_or user.credential stand_in

-- what is said by what lets a user in, where the password is right for its hash, or is not
abbrev pub said_by : Credential → Bool → AuthAnswer
said_by credential.Any right = answer.Good
said_by credential.Disabled right = answer.Disabled
said_by (credential.Hash hash) right = if right then answer.Good else answer.Refused

-- what is said to a user or to nobody, where the password is right for the hash that it was tried on, or is not
abbrev pub said_to : Option User → Bool → AuthAnswer
said_to None right = answer.BadUser
said_to (Some user) right = said_by user.credential right

-- the hash of a password by a salt in so many rounds
abbrev pub hash_by : List ℕ → List ℕ → ℕ → PasswordHash
hash_by password salt rounds = record { rounds = rounds; salt = salt; key = derived_key password salt rounds }
