-- Numbers of sixteen bytes.
use Rattle.std.proofs.Common.{◌≡◌, ℕ, ◌+◌, ◌*◌, ◌/◌, ◌%◌, ◌^◌, ◌<◌, List, ◌∷◌, [], ◌++◌, length, take, drop, refl, sym, ap, ◌∙◌, arith, inl, inr}
use Rattle.std.specs.Int.{w64, w128, to_be_bytes, from_be_bytes}
use Rattle.std.proofs.lemmas.Bool.{cases_lt}
use Rattle.std.proofs.lemmas.List.{length-take, length-drop, get_or-take, get_or-drop, get_or_past, take-append-drop}
use Rattle.ftp_proxy.specs.Reading.{IsBytes}
use Rattle.std.proofs.lemmas.Nat.{be_bytes_8, from_be_bytes-to_be_bytes_8}

pub IsBytes-drop : (n : ℕ) (bytes : List ℕ) → IsBytes bytes → IsBytes (drop n bytes)
IsBytes-drop n bytes h i = rw get_or-drop (h (n + i))

pub IsBytes-take : (n : ℕ) (bytes : List ℕ) → IsBytes bytes → IsBytes (take n bytes)
IsBytes-take n bytes h i =
    elim (cases_lt i n) [
      | inl lt ↦ rw (get_or-take n bytes i 0 lt) (h i)
      | inr le ↦ rw (get_or_past (take n bytes) i 0 (omega (arith, length-take n bytes))) (omega arith)
    ]

-- the bytes of both halves
to_be_bytes-halves : (hi lo n : ℕ) → lo < 2 ^ 64 → n ≡ hi * 2 ^ 64 + lo → to_be_bytes w128 n ≡ to_be_bytes w64 hi ++ to_be_bytes w64 lo
to_be_bytes-halves hi lo n lt e =
    let p15 : n / 1329227995784915872903807060280344576 % 256 ≡ hi / 72057594037927936 % 256 = omega arith in
    let p14 : n / 5192296858534827628530496329220096 % 256 ≡ hi / 281474976710656 % 256 = omega arith in
    let p13 : n / 20282409603651670423947251286016 % 256 ≡ hi / 1099511627776 % 256 = omega arith in
    let p12 : n / 79228162514264337593543950336 % 256 ≡ hi / 4294967296 % 256 = omega arith in
    let p11 : n / 309485009821345068724781056 % 256 ≡ hi / 16777216 % 256 = omega arith in
    let p10 : n / 1208925819614629174706176 % 256 ≡ hi / 65536 % 256 = omega arith in
    let p9 : n / 4722366482869645213696 % 256 ≡ hi / 256 % 256 = omega arith in
    let p8 : n / 18446744073709551616 % 256 ≡ hi % 256 = omega arith in
    let p7 : n / 72057594037927936 % 256 ≡ lo / 72057594037927936 % 256 = omega arith in
    let p6 : n / 281474976710656 % 256 ≡ lo / 281474976710656 % 256 = omega arith in
    let p5 : n / 1099511627776 % 256 ≡ lo / 1099511627776 % 256 = omega arith in
    let p4 : n / 4294967296 % 256 ≡ lo / 4294967296 % 256 = omega arith in
    let p3 : n / 16777216 % 256 ≡ lo / 16777216 % 256 = omega arith in
    let p2 : n / 65536 % 256 ≡ lo / 65536 % 256 = omega arith in
    let p1 : n / 256 % 256 ≡ lo / 256 % 256 = omega arith in
    let p0 : n % 256 ≡ lo % 256 = omega arith in
    λ i. p15 i ∷ p14 i ∷ p13 i ∷ p12 i ∷ p11 i ∷ p10 i ∷ p9 i ∷ p8 i ∷ p7 i ∷ p6 i ∷ p5 i ∷ p4 i ∷ p3 i ∷ p2 i ∷ p1 i ∷ p0 i ∷ []

-- the number of both halves
from_be_bytes-halves : (bytes : List ℕ) → from_be_bytes w128 bytes ≡ from_be_bytes w64 (take 8 bytes) * 2 ^ 64 + from_be_bytes w64 (drop 8 bytes)
from_be_bytes-halves bytes =
    let t0 = get_or-take 8 bytes 0 0 (omega arith) in
    let t1 = get_or-take 8 bytes 1 0 (omega arith) in
    let t2 = get_or-take 8 bytes 2 0 (omega arith) in
    let t3 = get_or-take 8 bytes 3 0 (omega arith) in
    let t4 = get_or-take 8 bytes 4 0 (omega arith) in
    let t5 = get_or-take 8 bytes 5 0 (omega arith) in
    let t6 = get_or-take 8 bytes 6 0 (omega arith) in
    let t7 = get_or-take 8 bytes 7 0 (omega arith) in
    let d0 = get_or-drop 8 bytes 0 0 in
    let d1 = get_or-drop 8 bytes 1 0 in
    let d2 = get_or-drop 8 bytes 2 0 in
    let d3 = get_or-drop 8 bytes 3 0 in
    let d4 = get_or-drop 8 bytes 4 0 in
    let d5 = get_or-drop 8 bytes 5 0 in
    let d6 = get_or-drop 8 bytes 6 0 in
    let d7 = get_or-drop 8 bytes 7 0 in
    omega arith

-- eight bytes are a number below 2 ^ 64
below_8 : (bytes : List ℕ) → IsBytes bytes → from_be_bytes w64 bytes < 2 ^ 64
below_8 bytes small = omega (arith, small 0, small 1, small 2, small 3, small 4, small 5, small 6, small 7)

-- sixteen bytes are a number below 2 ^ 128
pub below_16 : (bytes : List ℕ) → IsBytes bytes → from_be_bytes w128 bytes < 2 ^ 128
below_16 bytes small =
    let hi = below_8 (take 8 bytes) (IsBytes-take 8 bytes small) in
    let lo = below_8 (drop 8 bytes) (IsBytes-drop 8 bytes small) in
    let all = from_be_bytes-halves bytes in
    omega arith

-- `to_be_bytes` of what `from_be_bytes` read gives the bytes back
pub be_bytes_16 : (bytes : List ℕ) → length bytes ≡ 16 → IsBytes bytes → to_be_bytes w128 (from_be_bytes w128 bytes) ≡ bytes
be_bytes_16 bytes l small =
    let front = IsBytes-take 8 bytes small in
    let back = IsBytes-drop 8 bytes small in
    to_be_bytes-halves (from_be_bytes w64 (take 8 bytes)) (from_be_bytes w64 (drop 8 bytes)) (from_be_bytes w128 bytes) (below_8 (drop 8 bytes) back) (from_be_bytes-halves bytes)
    ∙ ap (λ (x : List ℕ). x ++ to_be_bytes w64 (from_be_bytes w64 (drop 8 bytes))) (be_bytes_8 (take 8 bytes) _ (omega (arith, length-take 8 bytes)) front refl)
    ∙ ap (λ (x : List ℕ). take 8 bytes ++ x) (be_bytes_8 (drop 8 bytes) _ (omega (arith, length-drop 8 bytes)) back refl)
    ∙ take-append-drop 8 bytes

-- and the other way round
pub from_be_bytes-to_be_bytes_16 : (n : ℕ) → n < 2 ^ 128 → from_be_bytes w128 (to_be_bytes w128 n) ≡ n
from_be_bytes-to_be_bytes_16 n lt =
    let e : n ≡ n / 2 ^ 64 * 2 ^ 64 + n % 2 ^ 64 = omega arith in
    let hi = from_be_bytes-to_be_bytes_8 (n / 2 ^ 64) (omega arith) in
    let lo = from_be_bytes-to_be_bytes_8 (n % 2 ^ 64) (omega arith) in
    ap (from_be_bytes w128) (to_be_bytes-halves (n / 2 ^ 64) (n % 2 ^ 64) n (omega arith) e)
    ∙ from_be_bytes-halves (to_be_bytes w64 (n / 2 ^ 64) ++ to_be_bytes w64 (n % 2 ^ 64))
    ∙ ap (λ (x : ℕ). x * 2 ^ 64 + from_be_bytes w64 (to_be_bytes w64 (n % 2 ^ 64))) hi
    ∙ ap (λ (x : ℕ). n / 2 ^ 64 * 2 ^ 64 + x) lo
    ∙ sym e
