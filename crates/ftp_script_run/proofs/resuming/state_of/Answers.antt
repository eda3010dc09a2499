use Rattle.std.proofs.Common.{◌∙◌, ap, arith, length}
use Rattle.std.specs.Prelude.{Err}
use Rattle.ftp_script_run.proofs.BeginLemmas.{near-bad}
use Rattle.ftp_script_run.proofs.resuming.state_of.Goals as goal

pub overflow_add-result : goal.overflow_add-result
overflow_add-result c =
    let near = near-bad c.in-Err-BadLine.k c.as_slice.result.now (c.decode_state.ensures.bad c.in-Err-BadLine.k (c.in-Err-BadLine.is ∙ ap Err c.in-Err-BadLine.field-0-is)) in
    omega (arith, near, c.first.ensures.small, ap length c.as_slice.ensures.value)
