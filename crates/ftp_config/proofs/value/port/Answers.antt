use Rattle.std.proofs.Common.{◌≡◌, ℕ, ◌<◌, ◌≤◌, ◌&&◌, ℤ, pos, negsuc, Bool, true, Option, Some, None, refl, nat_le, if◌then◌else◌, option_and_then, arith}
use Rattle.std.proofs.lemmas.Bool.Decides.{nat_tests}
use Rattle.toml.specs.Data.{Data, as_integer}
use Rattle.toml.specs.View.{table_view}
use Rattle.ftp_config.specs.Config.{value_at, number_or, within}
use Rattle.ftp_config.proofs.value.port.Goals as goal

-- an integer of the range is a port
in_range : (z : Option ℤ) (n : ℕ) → option_and_then (within 1 65535) z ≡ Some n → n < 65536
in_range None n is = cc is
in_range (Some (negsuc m)) n is = cc is
in_range (Some (pos m)) n is = by (nat_le 1 m) (nat_le m 65535) refl is where
  by : (a b : Bool) → nat_le m 65535 ≡ b → (if a && b then Some m else None) ≡ Some n → n < 65536
  by true true le is =
      let small : m ≤ 65535 = grind (arith, nat_tests) in
      let same : m ≡ n = cc in
      omega (arith, small, same)
  by a b le is = cc is

-- and so is the usual one
is_port : (value : Option Data) (usual n : ℕ) → usual < 65536 → number_or 1 65535 usual value ≡ Some n → n < 65536
is_port None usual n small is = let same : usual ≡ n = cc in omega (arith, small, same)
is_port (Some value) usual n small is = in_range (as_integer value) n is

pub overflow_cast-port : goal.overflow_cast-port
overflow_cast-port c =
    let small : c.in_ok-n.n < 65536 = is_port (value_at c.args.key (table_view c.args.table.now)) c.args.usual c.in_ok-n.n (omega arith) (rw c.from.ensures at c.in_ok-n.ensures.written) in
    omega (arith, small)
