-- PBKDF2 with HMAC and SHA-256 (RFC 8018, section 5.2): the key that a password and a salt give in so many rounds, which is the
-- first block, of 32 bytes.
use Rattle.std.specs.Prelude.{ℕ, zero, suc, ◌-◌, List, [], ◌∷◌, ◌++◌, bit_xor}
use Rattle.ftp_config.specs.Hmac.{hmac}

-- two keys, byte by byte
abbrev pub xor_bytes : List ℕ → List ℕ → List ℕ
xor_bytes [] ys = []
xor_bytes (x ∷ xs) [] = []
xor_bytes (x ∷ xs) (y ∷ ys) = bit_xor x y ∷ xor_bytes xs ys

-- the first code is that of the salt and the number of the block, which is 1 in four bytes, and each other one is that of the one before
unfoldable pub code_at : List ℕ → List ℕ → ℕ → List ℕ
code_at password salt zero = hmac password (salt ++ 0 ∷ 0 ∷ 0 ∷ 1 ∷ [])
code_at password salt (suc n) = hmac password (code_at password salt n)

-- the first code combined with the n behind it
unfoldable pub combined : List ℕ → List ℕ → ℕ → List ℕ
combined password salt zero = code_at password salt zero
combined password salt (suc n) = xor_bytes (combined password salt n) (code_at password salt (suc n))

-- the key that is derived from a password by a salt in so many rounds, of which there is at least one
abbrev pub derived_key : List ℕ → List ℕ → ℕ → List ℕ
derived_key password salt rounds = combined password salt (rounds - 1)
