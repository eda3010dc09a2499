use Rattle.std.proofs.Common.{◌%◌, ◌/◌, ◌∙◌, w64, arith}
use Rattle.std.proofs.lemmas.List.{get_or_read}
use Rattle.std.proofs.lemmas.Nat.Bits.{bit_at_set_same, bit_at_set_other}
use Rattle.ftp_switchboard.proofs.Words.{bit_of-set, bit_of-set-other}
use Rattle.ftp_switchboard.proofs.row.Row.put.Goals as goal

pub returns-clause-bit : goal.returns-clause-bit
returns-clause-bit c =
    bit_of-set c.args.self.now.words.items c.args.j _ c.requires.bit
    ∙ bit_at_set_same w64 c.index_mut.result.now (c.args.j % 64) (omega arith)

pub returns-clause-others : goal.returns-clause-others
returns-clause-others c =
    bit_of-set-other c.args.self.now.words.items c.args.j _ c.requires.bit
    (λ i below apart. rw (get_or_read c.args.self.now.words.items (c.args.j / 64) c.index_mut.result.now c.requires.bit c.index_mut.ensures.value 0) (bit_at_set_other w64 _ (c.args.j % 64) (omega arith) i apart))
