use Rattle.std.proofs.Common.{◌≡◌, ◌∙◌, ◌+◌, ap, sym, append-nil}
use Rattle.ftp_config.specs.Hmac.{hmac}
use Rattle.ftp_config.specs.Pbkdf2.{xor_bytes, code_at, combined}
use Rattle.ftp_config.proofs.CodeLemmas.{code_at-more, combined-more}
use Rattle.ftp_config.proofs.pbkdf2.derived_key.Goals as goal

pub loop-i-init : goal.loop-i-init
unfolding code_at combined
loop-i-init c = (c.code-code.ensures c.args.password.now c.new-keyed.ensures, c.code-code.ensures c.args.password.now c.new-keyed.ensures)

pub loop-i-preserved : goal.loop-i-preserved
loop-i-preserved c =
    let password = c.args.password.now in
    let salt = c.args.salt.now in
    let i = c.loop-i.i in
    let next : c.code-code-in-loop-i.result ≡ code_at password salt (i + 1) =
    c.code-code-in-loop-i.ensures password c.new-keyed.ensures ∙ ap (hmac password) (append-nil c.as_slice.result.now ∙ c.as_slice.ensures ∙ c.loop-i.invariant.0)
    ∙ sym (code_at-more password salt i) in
    (next, c.combine.ensures ∙ ap (λ key. xor_bytes key c.code-code-in-loop-i.result) c.loop-i.invariant.1 ∙ ap (xor_bytes (combined password salt i)) next ∙ sym (combined-more password salt i))
