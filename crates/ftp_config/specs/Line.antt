-- The line of a user: NAME:HASH:RIGHTS:HOME, or NAME:HASH:RIGHTS:HOME:BUDGET.
use Rattle.std.specs.Prelude.{ℕ, ◌-◌, ◌*◌, ◌^◌, ◌==◌, ◌&&◌, nat_lt, Bool, List, [], ◌∷◌, ◌++◌, length, take, slice_index, codes, decimal, Option, Some, None, if◌then◌else◌}
use Rattle.std.specs.List.{slice_split}
use Rattle.std.specs.Option.{option_map, option_and_then}
use Rattle.std.specs.Result.{result_ok}
use Rattle.std.specs.Str.{bytes_eq}
use Rattle.hex.specs.Hex.{encode_lower, decode_of, decode_sized}
use Rattle.ftp_config.specs.declared.user.User.{User}
use Rattle.ftp_config.specs.declared.user.Credential.{Credential}
use Rattle.ftp_config.specs.declared.user.Credential.TheVariants as credential
use Rattle.ftp_config.specs.declared.user.PasswordHash.{PasswordHash}
use Rattle.ftp_config.specs.declared.user.Rights.{Rights}
use Rattle.ftp_config.specs.declared.user.Rights.TheVariants as rights
use Rattle.ftp_base.specs.Decimal.{decimal_below}
use Rattle.ftp_config.specs.Number.{rounds_of}
use Rattle.ftp_config.specs.Home.{spelled_home}

infixl 10 ◌>>=◌
-- the next step, where this one gave something
abbrev pub ◌>>=◌ : {A B : Type 0} → Option A → (A → Option B) → Option B
o >>= f = option_and_then f o

-- whether the byte is this one
abbrev pub is_byte : ℕ → ℕ → Bool
is_byte c b = b == c

-- ---- HASH

-- the hash of these rounds, salt and key, of which the last two are in hexadecimal digits
unfoldable pub hash_with : List ℕ → List ℕ → List ℕ → Option PasswordHash
hash_with rounds salt key = do
  n ← rounds_of rounds
  bytes ← result_ok (decode_of salt)
  derived ← result_ok (decode_sized key 32)
  Some (record { rounds = n; salt = bytes; key = derived })

-- the name of the one scheme, which stands behind a dollar
abbrev pub is_scheme : List ℕ → List ℕ → Bool
is_scheme front scheme = length front == 0 && bytes_eq scheme (codes "pbkdf2-sha256")

-- the hash of the parts between dollars
unfoldable pub hash_of_parts : List (List ℕ) → Option PasswordHash
hash_of_parts (front ∷ scheme ∷ rounds ∷ salt ∷ key ∷ []) = if is_scheme front scheme then hash_with rounds salt key else None
hash_of_parts _ = None

-- the hash that a text spells: $pbkdf2-sha256$ROUNDS$SALT$KEY
abbrev pub hash_of : List ℕ → Option PasswordHash
hash_of text = hash_of_parts (slice_split (is_byte 36) text)

-- how a hash is spelled
abbrev pub hash_text : ℕ → List ℕ → List ℕ → List ℕ
hash_text rounds salt key = codes "$pbkdf2-sha256$" ++ (decimal rounds ++ 36 ∷ (encode_lower salt ++ 36 ∷ encode_lower key))

-- which passwords a text lets in: `*` is every one, `!` is none
unfoldable pub credential_of : List ℕ → Option Credential
credential_of text =
    if bytes_eq text (codes "*") then Some credential.Any else
    (if bytes_eq text (codes "!") then Some credential.Disabled else option_map credential.Hash (hash_of text))

-- ---- RIGHTS

-- what a user may do: `rw` is to read and write, `ro` is to read
unfoldable pub rights_of : List ℕ → Option Rights
rights_of text =
    if bytes_eq text (codes "rw") then Some rights.ReadWrite else
    (if bytes_eq text (codes "ro") then Some rights.ReadOnly else None)

-- ---- BUDGET

-- the last byte
abbrev pub last_byte : List ℕ → ℕ
last_byte text = slice_index text (length text - 1)

-- how many bytes a unit stands for: K, M and G are powers of 1024, and without one a budget is in bytes
abbrev pub unit_size : ℕ → ℕ
unit_size b =
    if b == 75 then 2 ^ 10 else
    (if b == 77 then 2 ^ 20 else
    (if b == 71 then 2 ^ 30 else 1))

-- a budget without its unit
abbrev pub without_unit : List ℕ → List ℕ
without_unit text = if unit_size (last_byte text) == 1 then text else take (length text - 1) text

-- how many bytes a budget has, below 2 ^ 64
abbrev pub budget_size : List ℕ → Option ℕ
budget_size text =
    option_and_then
    (λ n. let size = n * unit_size (last_byte text) in if nat_lt size (2 ^ 64) then Some size else None)
    (decimal_below (2 ^ 64) (without_unit text))

-- ---- the line

-- the user of these fields and budget, with its name, which is not empty
unfoldable pub user_with : List ℕ → List ℕ → List ℕ → List ℕ → Option ℕ → Option (List ℕ × User)
user_with name hash rights home budget = do
  who ← credential_of hash
  may ← rights_of rights
  place ← spelled_home home
  if length name == 0 then None else Some (name, record { credential = who; rights = may; home = place; budget = budget })

-- the user of these fields, with its name
unfoldable pub user_of_fields : List (List ℕ) → Option (List ℕ × User)
user_of_fields (name ∷ hash ∷ rights ∷ home ∷ []) = user_with name hash rights home None
user_of_fields (name ∷ hash ∷ rights ∷ home ∷ budget ∷ []) = do
  n ← budget_size budget
  user_with name hash rights home (Some n)
user_of_fields _ = None

-- the user that a line spells, with its name: colons part the fields
abbrev pub spelled_user : List ℕ → Option (List ℕ × User)
spelled_user line = user_of_fields (slice_split (is_byte 58) line)
