use Rattle.std.proofs.Common.{◌≡◌, ◌<◌, ◌^◌, take}
use Rattle.ftp_text.specs.Fields.{hex_digits}
use Rattle.ftp_text.proofs.field.hex_value.Given as goal

abbrev pub invariant-loop-c : goal.invariant-loop-c
invariant-loop-c l = (l.value < 16 ^ l.c-index) × (hex_digits l.c-index l.value ≡ take l.c-index l.digits)
