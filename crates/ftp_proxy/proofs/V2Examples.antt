-- Worked examples: headers and their outcomes, each by computation.
use Rattle.std.proofs.Common.{◌≡◌, ℕ, List, [], ◌∷◌, ◌++◌, drop, Ok, Err, refl}
use Rattle.ftp_base.specs.declared.net.IpAddr.TheVariants.{V4}
use Rattle.ftp_base.specs.declared.net.SocketAddrPair.{SocketAddrPair}
use Rattle.ftp_proxy.specs.declared.v2_header.Header2.{Header2}
use Rattle.ftp_proxy.specs.declared.v2_header.Body.TheVariants.{LocalBlock, Inet}
use Rattle.ftp_proxy.specs.declared.v2_header.Field.{Field}
use Rattle.ftp_proxy.specs.declared.v2_error.Proxy2Error.TheVariants as error
use Rattle.ftp_proxy.specs.V2Header.{signature, header_bytes}
use Rattle.ftp_proxy.specs.Reading.{refusal_from, fields_at, outcome, taken_len}

-- 192.0.2.7:40000 to 198.51.100.1:2121
abbrev pair : SocketAddrPair
pair = record { source = record { ip = V4 3221225991; port = 40000 }; destination = record { ip = V4 3325256705; port = 2121 } }

-- the same, as bytes
abbrev addresses : List ℕ
addresses = 192 ∷ 0 ∷ 2 ∷ 7 ∷ 198 ∷ 51 ∷ 100 ∷ 1 ∷ 156 ∷ 64 ∷ 8 ∷ 73 ∷ []

-- a stream over version 4, whose block has so many bytes
abbrev proxied : ℕ → List ℕ → List ℕ
proxied len rest = signature ++ 33 ∷ 17 ∷ 0 ∷ len ∷ (addresses ++ rest)

-- the header of these fields
abbrev with : List Field → Header2
with fields = record { family = 17; body = Inet pair fields }

-- a field of kind 4 without a value
abbrev padding : Field
padding = record { kind = 4; value = [] }

no_fields : outcome (proxied 12 []) ≡ Ok (with [])
unfolding refusal_from fields_at
no_fields = refl

no_fields_spelled : header_bytes (with []) ≡ proxied 12 []
no_fields_spelled = refl

one_field : outcome (proxied 15 (4 ∷ 0 ∷ 0 ∷ [])) ≡ Ok (with (padding ∷ []))
unfolding refusal_from fields_at
one_field = refl

one_field_spelled : header_bytes (with (padding ∷ [])) ≡ proxied 15 (4 ∷ 0 ∷ 0 ∷ [])
one_field_spelled = refl

a_field_too_short : outcome (proxied 14 (4 ∷ 0 ∷ [])) ≡ Err (error.BadField 12)
unfolding refusal_from fields_at
a_field_too_short = refl

nothing_behind : drop (taken_len (proxied 12 (85 ∷ []))) (proxied 12 (85 ∷ [])) ≡ 85 ∷ []
unfolding refusal_from
nothing_behind = refl

-- ---- refusals, by the first cause from the left

a_line : outcome (80 ∷ 82 ∷ []) ≡ Err (error.NotSignature 0)
unfolding refusal_from
a_line = refl

another_version : outcome (signature ++ 17 ∷ 255 ∷ []) ≡ Err (error.BadVersion 17)
unfolding refusal_from
another_version = refl

no_family : outcome (signature ++ 33 ∷ 81 ∷ []) ≡ Err (error.BadFamily 81)
unfolding refusal_from
no_family = refl

no_room : outcome (signature ++ 33 ∷ 33 ∷ 0 ∷ 12 ∷ []) ≡ Err (error.ShortBlock 12 36)
unfolding refusal_from
no_room = refl

cut_short : outcome (signature ++ 33 ∷ 17 ∷ 0 ∷ []) ≡ Err error.UnexpectedEof
unfolding refusal_from
cut_short = refl

-- ---- a health check, whose family and block are not looked into

a_health_check : outcome (signature ++ 32 ∷ 255 ∷ 0 ∷ 1 ∷ 9 ∷ []) ≡ Ok (record { family = 255; body = LocalBlock (9 ∷ []) })
unfolding refusal_from
a_health_check = refl
