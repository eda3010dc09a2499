use Rattle.std.specs.Prelude.{take}
use Rattle.std.specs.Fmt.{HasWritten, IsPlainFormatter}
use Rattle.ftp_options.specs.Texts.{escape}
use Rattle.ftp_options.proofs.escape.EscapedDisplay.fmt.Given as goal

abbrev pub invariant-loop-b : goal.invariant-loop-b
invariant-loop-b g l =
    IsPlainFormatter l.fn.f → HasWritten g.W.Write.write_str_gives l.fn.f (escape (take l.b-index l.b-items)) l.f
