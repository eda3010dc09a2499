use Rattle.std.proofs.Common.{◌≡◌, ◌∙◌, ℕ, ◌∷◌, ◌++◌, List, ap, arith}
use Rattle.std.specs.Prelude.{string_bytes, decimal, codes}
use Rattle.hex.specs.Hex.{encode_lower}
use Rattle.ftp_config.specs.Line.{hash_text, hash_of}
use Rattle.ftp_config.proofs.HashTextLemmas.{hash_of-text}
use Rattle.ftp_config.proofs.ResultLemmas.{by_fact}
use Rattle.ftp_config.proofs.mkpasswd.hash_text.Goals as goal

-- a text of these pieces
pieces : (text : List ℕ) (rounds : ℕ) (salt key salt_hex key_hex : List ℕ) → salt_hex ≡ encode_lower salt → key_hex ≡ encode_lower key →
    text ≡ codes "$pbkdf2-sha256$" ++ (decimal rounds ++ 36 ∷ (salt_hex ++ 36 ∷ key_hex)) → text ≡ hash_text rounds salt key
pieces text rounds salt key salt_hex key_hex s k e = e ∙ ap (λ (h : List ℕ). codes "$pbkdf2-sha256$" ++ (decimal rounds ++ 36 ∷ (h ++ 36 ∷ key_hex))) s
    ∙ ap (λ (h : List ℕ). codes "$pbkdf2-sha256$" ++ (decimal rounds ++ 36 ∷ (encode_lower salt ++ 36 ∷ h))) k

pub returns-clause-text : goal.returns-clause-text
returns-clause-text c =
    let salt = c.as_str-salt_hex.ensures.value ∙ c.in_ok-salt_hex.ensures in
    let key = c.as_str-key_hex.ensures.value ∙ c.in_ok-key_hex.ensures in
    by_fact c.format.result _ _ c.format.ensures.ok (λ text same. pieces (string_bytes text) c.args.rounds c.args.salt.now c.args.key.now c.as_str-salt_hex.result.now c.as_str-key_hex.result.now salt key same)

pub returns-clause-hash : goal.returns-clause-hash
returns-clause-hash c =
    let read = hash_of-text c.args.rounds c.args.salt.now c.args.key.now (omega arith) (omega arith) (λ i. (c.type_inv.salt i).fits) (λ i. (c.type_inv.key i).fits) c.requires.whole in
    let salt = c.as_str-salt_hex.ensures.value ∙ c.in_ok-salt_hex.ensures in
    let key = c.as_str-key_hex.ensures.value ∙ c.in_ok-key_hex.ensures in
    by_fact c.format.result _ _ c.format.ensures.ok (λ text same. ap hash_of (pieces (string_bytes text) c.args.rounds c.args.salt.now c.args.key.now c.as_str-salt_hex.result.now c.as_str-key_hex.result.now salt key same) ∙ read)
