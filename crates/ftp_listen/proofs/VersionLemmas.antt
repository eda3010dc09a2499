-- Texts of addresses say by their first byte which version of IP they have.
use Rattle.std.proofs.Common.{◌≡◌, ℕ, ◌<◌, ◌^◌, Bool, true, false, true≢false, List, [], ◌∷◌, ◌++◌, length, get_or, append_assoc, sym, ap, ◌∙◌, arith}
use Rattle.std.specs.Prelude.{codes, decimal}
use Rattle.std.specs.Str.Parse.{AllDigits, digits_value}
use Rattle.std.proofs.lemmas.Fmt.{decimal_nonempty, digits_decimal}
use Rattle.std.proofs.lemmas.Str.Parse.{IsNumeralModel, numerals_by_value, tells_digits, digit_at}
use Rattle.std.proofs.lemmas.List.{get_or_append_left}
use Rattle.ftp_base.specs.declared.net.IpAddr.{IpAddr}
use Rattle.ftp_base.specs.declared.net.IpAddr.TheVariants.{V4, V6}
use Rattle.ftp_base.specs.declared.net.SocketAddr.{SocketAddr}
use Rattle.ftp_base.specs.Net.{is_v6}
use Rattle.ftp_system.specs.Listen.{IsHostText, IsBindText}

own : IsNumeralModel (AllDigits 10) (digits_value 10)
own = numerals_by_value (AllDigits 10) tells_digits

-- a number begins with a digit
decimal-first : (n : ℕ) (rest : List ℕ) → n < 256 → get_or (decimal n ++ rest) 0 0 < 58
decimal-first n rest small =
    let some : 0 < length (decimal n) = decimal_nonempty n (omega arith) in
    let digit = digit_at (decimal n) 0 (digits_decimal own n (omega arith)) some in
    omega (arith, digit, get_or_append_left (decimal n) rest 0 0 some)

-- an address of version 4 begins with a digit, and one of version 6 with a bracket
host-first : (host rest : List ℕ) (ip : IpAddr) → IsHostText host ip → (is_v6 ip ≡ true → get_or (host ++ rest) 0 0 ≡ 91) × (is_v6 ip ≡ false → get_or (host ++ rest) 0 0 < 58)
host-first host rest (V4 bits) w = (
  λ v6. absurd (true≢false (sym v6)),
  λ v4. rw w.1.spelled (simp append_assoc (decimal-first w.1.a _ w.1.fit.0)),
)
host-first host rest (V6 bits) w = (
  λ v6. ap (λ h. get_or (h ++ rest) 0 0) w.2,
  λ v4. absurd (true≢false v4),
)

-- what a text writes has one version
pub one-version : (text : List ℕ) (a b : SocketAddr) → IsBindText text a → IsBindText text b → is_v6 a.ip ≡ true → is_v6 b.ip ≡ false → ⊥
one-version text a b v w v6 v4 =
    let x = (host-first v.host (codes ":" ++ v.digits) a.ip v.address).0 v6 in
    let y = (host-first w.host (codes ":" ++ w.digits) b.ip w.address).1 v4 in
    omega (arith, x, y, ap (λ t. get_or t 0 0) v.spelled, ap (λ t. get_or t 0 0) w.spelled)
