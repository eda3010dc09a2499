-- Dotted addresses, and their numbers.
use Rattle.std.proofs.Common.{◌≡◌, ◌<◌, ℕ, zero, suc, List, [], ◌∷◌, get_or, length, sym, ap, subst, arith}
use Rattle.std.proofs.lemmas.Nat.{be_bytes_4}
use Rattle.std.specs.Int.{w32, to_be_bytes}
use Rattle.std.specs.Net.Addr.{ipv4_octets, ipv4_bits}
use Rattle.std.specs.Net.Grammar.{IsDotted, IsIpv4Text}
use Rattle.std.specs.declared.net.ipv4_addr.Ipv4Addr.{Ipv4Addr}

four_bytes : (a b c d : ℕ) → (a < 256) × (b < 256) × (c < 256) × (d < 256) → (i : ℕ) → get_or (a ∷ b ∷ c ∷ d ∷ []) i 0 < 256
four_bytes a b c d fit zero = fit.0
four_bytes a b c d fit (suc zero) = fit.1
four_bytes a b c d fit (suc (suc zero)) = fit.2
four_bytes a b c d fit (suc (suc (suc zero))) = fit.3
four_bytes a b c d fit (suc (suc (suc (suc i)))) = omega arith

-- a text of an address spells the octets of its number
pub spells-number : (text : List ℕ) (ip : Ipv4Addr) (n : ℕ) → IsIpv4Text text ip → n ≡ ipv4_bits ip → IsDotted text (to_be_bytes w32 n)
unfolding ipv4_bits
spells-number text ip n d is =
    let octets = ipv4_octets ip in
    let each : (i : ℕ) → get_or octets i 0 < 256 = λ i. rw d.value (four_bytes d.a d.b d.c d.d d.fit i) in
    subst (IsDotted text) (sym (be_bytes_4 octets n (ap length d.value) each is)) d

-- a text that spells no address spells no octets
pub spells-none : (text : List ℕ) → ((ip : Ipv4Addr) → IsIpv4Text text ip → ⊥) → (octets : List ℕ) → IsDotted text octets → ⊥
spells-none text none octets d = none (record { octets = octets }) d
