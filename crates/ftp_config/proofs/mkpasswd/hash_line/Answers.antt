use Rattle.std.proofs.Common.{◌≡◌, ◌∙◌, ℕ, List, Some, ap}
use Rattle.std.specs.Prelude.{string_bytes}
use Rattle.ftp_config.specs.declared.user.PasswordHash.{PasswordHash}
use Rattle.ftp_config.specs.Pbkdf2.{derived_key}
use Rattle.ftp_config.specs.Line.{hash_text}
use Rattle.ftp_config.proofs.HashTextLemmas.{good-text}
use Rattle.ftp_config.proofs.ResultLemmas.{by_both}
use Rattle.ftp_config.proofs.mkpasswd.hash_line.Goals as goal

-- a hash with this key
abbrev with_key : ℕ → List ℕ → List ℕ → PasswordHash
with_key rounds salt key = record { rounds = rounds; salt = salt; key = key }

pub returns-clause-good : goal.returns-clause-good
returns-clause-good c =
    let salt = c.args.salt.now in
    let key : c.as_slice.result.now ≡ derived_key c.args.password.now salt c.args.rounds = c.as_slice.ensures ∙ c.derived_key-key.ensures in
    by_both c.hash_text.result _ _ _ c.hash_text.ensures.text c.hash_text.ensures.hash (λ text spelled read.
    good-text c.args.password.now c.args.rounds salt (string_bytes text) (spelled ∙ ap (hash_text c.args.rounds salt) key)
    (read ∙ ap (λ (k : List ℕ). Some (with_key c.args.rounds salt k)) key))
