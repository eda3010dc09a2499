-- The grammar of a user's line, by what stands one behind the other.
use Rattle.std.specs.Prelude.{◌≡◌, ◌↔◌, ℕ, ◌<◌, true, false, List, [], ◌∷◌, ◌++◌, length, codes, Ok, Option, Some, None}
use Rattle.std.specs.List.{All}
use Rattle.hex.specs.Hex.{decode_of, decode_sized}
use Rattle.ftp_config.specs.declared.user.User.{User}
use Rattle.ftp_config.specs.declared.user.Credential.{Credential}
use Rattle.ftp_config.specs.declared.user.Credential.TheVariants as credential
use Rattle.ftp_config.specs.declared.user.PasswordHash.{PasswordHash}
use Rattle.ftp_config.specs.declared.user.Rights.{Rights}
use Rattle.ftp_config.specs.declared.user.Rights.TheVariants as rights
use Rattle.ftp_config.specs.Number.{rounds_of}
use Rattle.ftp_config.specs.Home.{is_home}
use Rattle.ftp_config.specs.Line.{is_byte, budget_size, spelled_user}

-- the byte stands nowhere in the text
abbrev pub HasNone : ℕ → List ℕ → Type 0
HasNone c text = All (λ b. is_byte c b ≡ false) text

-- $pbkdf2-sha256$ROUNDS$SALT$KEY
pub record IsHash (text : List ℕ) (hash : PasswordHash) : Type 0 where
  pub rounds : List ℕ
  pub salt : List ℕ
  pub key : List ℕ
  pub spelled : text ≡ codes "$pbkdf2-sha256$" ++ (rounds ++ 36 ∷ (salt ++ 36 ∷ key))
  pub counted : rounds_of rounds ≡ Some hash.rounds
  pub salted : decode_of salt ≡ Ok hash.salt
  pub keyed : decode_sized key 32 ≡ Ok hash.key

-- HASH: a hash, `*` where every password lets in, or `!` where none does
abbrev pub IsCredential : List ℕ → Credential → Type 0
IsCredential text credential.Any = text ≡ codes "*"
IsCredential text credential.Disabled = text ≡ codes "!"
IsCredential text (credential.Hash hash) = IsHash text hash

-- RIGHTS
abbrev pub IsRights : List ℕ → Rights → Type 0
IsRights text rights.ReadWrite = text ≡ codes "rw"
IsRights text rights.ReadOnly = text ≡ codes "ro"

-- nothing, or a colon and BUDGET
abbrev pub IsBudget : List ℕ → Option ℕ → Type 0
IsBudget text None = text ≡ []
IsBudget text (Some size) = (budget : List ℕ) × (text ≡ 58 ∷ budget) × HasNone 58 budget × (budget_size budget ≡ Some size)

-- NAME:HASH:RIGHTS:HOME or NAME:HASH:RIGHTS:HOME:BUDGET, where no field has a colon, and the name is not empty
pub record IsLineOf (line name : List ℕ) (user : User) : Type 0 where
  pub hash : List ℕ
  pub may : List ℕ
  pub budget : List ℕ
  pub spelled : line ≡ name ++ 58 ∷ (hash ++ 58 ∷ (may ++ 58 ∷ (user.home ++ budget)))
  pub apart : HasNone 58 name × HasNone 58 hash × HasNone 58 may × HasNone 58 user.home
  pub some : 0 < length name
  pub opens : IsCredential hash user.credential
  pub allows : IsRights may user.rights
  pub lies : is_home user.home ≡ true
  pub keeps : IsBudget budget user.budget

-- a line is read as a user of a name exactly where it is spelled so
abbrev pub LinesAreSpelled : Type 0
LinesAreSpelled = (line name : List ℕ) (user : User) → (spelled_user line ≡ Some (name, user)) ↔ IsLineOf line name user
