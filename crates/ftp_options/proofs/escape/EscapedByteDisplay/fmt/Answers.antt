use Rattle.std.proofs.Common.{false, sym, rules}
use Rattle.std.proofs.lemmas.Fmt.{hex_byte}
use Rattle.ftp_options.proofs.escape.EscapedByteDisplay.fmt.Goals as goal

pub returns-else-is_plain-clause-writes : goal.returns-else-is_plain-clause-writes
returns-else-is_plain-clause-writes g c =
    let written = c.write-else-is_plain.ensures.writes in
    rw (sym c.if-is_plain.ensures) (rw (c.laid_out.ensures, c.in_radix.ensures, hex_byte false c.args.self.now.0 (search rules)) at written)
