-- HMAC with SHA-256 (RFC 2104): a key and a text give 32 bytes.
use Rattle.std.specs.Prelude.{ℕ, ◌-◌, nat_lt, List, ◌++◌, length, map, replicate, bit_xor, if◌then◌else◌}
use Rattle.sha2.specs.Sha256.{sha256}

-- a key of at most a block: itself, or its digest where it is longer
abbrev pub short_key : List ℕ → List ℕ
short_key key = if nat_lt 64 (length key) then sha256 key else key

-- the key with zeros behind it, up to a block
abbrev pub key_block : List ℕ → List ℕ
key_block key = short_key key ++ replicate (64 - length (short_key key)) 0

-- the key's block, each byte combined with a pad
abbrev pub padded : List ℕ → ℕ → List ℕ
padded key pad = map (λ byte. bit_xor byte pad) (key_block key)

-- the code of a text under a key
abbrev pub hmac : List ℕ → List ℕ → List ℕ
hmac key text = sha256 (padded key 0x5c ++ sha256 (padded key 0x36 ++ text))
