-- Codes, one after the other, and how they are combined.
use Rattle.std.proofs.Common.{◌≡◌, ◌∙◌, ℕ, zero, suc, ◌+◌, ◌-◌, ◌<◌, ◌≤◌, List, [], ◌∷◌, ◌++◌, length, take, drop, map, set, get_or, replicate, false, refl, ap, add-one, arith}
use Rattle.std.specs.Prelude.{bit_xor, nat_lt}
use Rattle.std.proofs.lemmas.Bool.Decides.{nat_tests}
use Rattle.ftp_config.specs.Hmac.{key_block, hmac}
use Rattle.ftp_config.specs.Pbkdf2.{xor_bytes, code_at, combined}

-- the next code is that of the one before
pub code_at-more : (password salt : List ℕ) (i : ℕ) → code_at password salt (i + 1) ≡ hmac password (code_at password salt i)
unfolding code_at
code_at-more password salt i = rw add-one refl

-- one code more is combined with those before
pub combined-more : (password salt : List ℕ) (i : ℕ) → combined password salt (i + 1) ≡ xor_bytes (combined password salt i) (code_at password salt (i + 1))
unfolding combined
combined-more password salt i = rw add-one refl

-- the first bytes of two lists are combined, and the others of the first stay
abbrev pub combined_front : ℕ → List ℕ → List ℕ → List ℕ
combined_front n xs ys = xor_bytes (take n xs) (take n ys) ++ drop n xs

combined_front-suc : (xs ys : List ℕ) (i : ℕ) → i < length xs → i < length ys →
    set (combined_front i xs ys) i (bit_xor (get_or (combined_front i xs ys) i 0) (get_or ys i 0)) ≡ combined_front (suc i) xs ys
combined_front-suc [] ys i p q = absurd (omega arith)
combined_front-suc (x ∷ xs) [] i p q = absurd (omega arith)
combined_front-suc (x ∷ xs) (y ∷ ys) zero p q = refl
combined_front-suc (x ∷ xs) (y ∷ ys) (suc i) p q =
    ap (λ rest. bit_xor x y ∷ rest) (combined_front-suc xs ys i (omega arith) (omega arith))

-- one byte more is combined
pub combined_front-more : (xs ys zs : List ℕ) (i : ℕ) → i < length xs → i < length ys → zs ≡ combined_front i xs ys →
    set zs i (bit_xor (get_or zs i 0) (get_or ys i 0)) ≡ combined_front (i + 1) xs ys
combined_front-more xs ys zs i p q e = rw (e, add-one) (combined_front-suc xs ys i p q)

-- all bytes are combined
pub combined_front-all : (xs ys : List ℕ) → length xs ≡ length ys → combined_front (length xs) xs ys ≡ xor_bytes xs ys
combined_front-all [] ys e = refl
combined_front-all (x ∷ xs) [] e = absurd (omega arith)
combined_front-all (x ∷ xs) (y ∷ ys) e = ap (λ rest. bit_xor x y ∷ rest) (combined_front-all xs ys (omega arith))

-- the first bytes of a block are combined with a pad
abbrev pub padded_front : ℕ → List ℕ → ℕ → List ℕ
padded_front n xs pad = map (λ b. bit_xor b pad) (take n xs) ++ drop n xs

padded_front-suc : (xs : List ℕ) (pad i : ℕ) → i < length xs →
    set (padded_front i xs pad) i (bit_xor (get_or (padded_front i xs pad) i 0) pad) ≡ padded_front (suc i) xs pad
padded_front-suc [] pad i p = absurd (omega arith)
padded_front-suc (x ∷ xs) pad zero p = refl
padded_front-suc (x ∷ xs) pad (suc i) p = ap (λ rest. bit_xor x pad ∷ rest) (padded_front-suc xs pad i (omega arith))

-- one byte more is combined with the pad
pub padded_front-more : (xs zs : List ℕ) (pad i : ℕ) → i < length xs → zs ≡ padded_front i xs pad →
    set zs i (bit_xor (get_or zs i 0) pad) ≡ padded_front (i + 1) xs pad
padded_front-more xs zs pad i p e = rw (e, add-one) (padded_front-suc xs pad i p)

drop-replicate : (n m : ℕ) → drop {A = ℕ} n (replicate m 0) ≡ replicate {A = ℕ} (m - n) 0
drop-replicate zero m = let e : m ≡ m - 0 = omega arith in ap (λ k. replicate {A = ℕ} k 0) e
drop-replicate (suc n) zero = let e : 0 ≡ 0 - suc n = omega arith in ap (λ k. replicate {A = ℕ} k 0) e
drop-replicate (suc n) (suc m) = let e : m - n ≡ suc m - suc n = omega arith in drop-replicate n m ∙ ap (λ k. replicate {A = ℕ} k 0) e

-- a short key is its own front of its block
pub key_block-short : (key : List ℕ) → length key ≤ 64 → key ++ drop (length key) (replicate 64 0) ≡ key_block key
key_block-short key short =
    let whole : nat_lt 64 (length key) ≡ false = grind (arith, nat_tests) in
    rw whole (ap (λ rest. key ++ rest) (drop-replicate (length key) 64))
