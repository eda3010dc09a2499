-- Bits that are combined to none.
use Rattle.std.proofs.Common.{◌≡◌, ℕ, arith}
use Rattle.std.specs.Int.Bits.{bit_or, bit_xor, or_add_and, xor_add_and}
use Rattle.std.proofs.lemmas.Nat.{and_le_l, and_le_r}

-- where a or b has no bit, neither has one
pub bit_or-none : (a b : ℕ) → bit_or a b ≡ 0 → (a ≡ 0) × (b ≡ 0)
bit_or-none a b h = (omega (arith, or_add_and a b, and_le_l a b, and_le_r a b), omega (arith, or_add_and a b, and_le_l a b, and_le_r a b))

-- where a and b differ in no bit, they are the same
pub bit_xor-none : (a b : ℕ) → bit_xor a b ≡ 0 → a ≡ b
bit_xor-none a b h = omega (arith, xor_add_and a b, and_le_l a b, and_le_r a b)
