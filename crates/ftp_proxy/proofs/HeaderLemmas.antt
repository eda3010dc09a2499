-- A header and its bytes.
use Rattle.std.proofs.Common.{◌≡◌, ℕ, true, List, [], ◌∷◌, ◌++◌, length, Some, ap, ◌∙◌, append_assoc, arith}
use Rattle.std.specs.Int.{w16, to_be_bytes}
use Rattle.ftp_proxy.specs.declared.v2_header.Header2.{Header2}
use Rattle.ftp_proxy.specs.V2Header.{signature, command_of, block_of, suits, in_two_bytes, NumbersFit, IsHeader}
use Rattle.ftp_proxy.proofs.FieldsLemmas.{in_two_bytes_some}

regroup : (a b c d e : List ℕ) → a ++ b ++ c ++ d ++ e ≡ a ++ (b ++ (c ++ (d ++ e)))
regroup a b c d e = simp append_assoc

-- what was put together is the header
pub header_made : (h : Header2) (len : ℕ) (bytes : List ℕ) →
    in_two_bytes (length (block_of h.body)) ≡ Some len →
    suits h.family h.body ≡ true →
    NumbersFit h.body →
    bytes ≡ signature ++ command_of h.body ∷ [] ++ h.family ∷ [] ++ to_be_bytes w16 len ++ block_of h.body →
    IsHeader bytes h
header_made h len bytes said agrees numbers is =
    let s = in_two_bytes_some (length (block_of h.body)) len said in
    let grouped : bytes ≡ signature ++ command_of h.body ∷ h.family ∷ (to_be_bytes w16 len ++ block_of h.body) =
    is ∙ regroup signature (command_of h.body ∷ []) (h.family ∷ []) (to_be_bytes w16 len) (block_of h.body) in
    record {
      spelled = grouped ∙ ap (λ (n : ℕ). signature ++ command_of h.body ∷ h.family ∷ (to_be_bytes w16 n ++ block_of h.body)) s.0;
      agrees = agrees;
      short = omega (arith, s.1);
      numbers = numbers;
    }
