use Rattle.std.proofs.Common.{◌∙◌, arith}
use Rattle.ftp_config.proofs.CodeLemmas.{key_block-short}
use Rattle.ftp_config.proofs.hmac.key_block.Goals as goal

pub returns-else-key-gt64 : goal.returns-else-key-gt64
returns-else-key-gt64 c = c.put_front-else-key-gt64.ensures ∙ key_block-short c.args.key.now (omega arith)
