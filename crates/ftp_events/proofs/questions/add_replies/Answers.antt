use Rattle.std.proofs.Common.{arith}
use Rattle.std.proofs.lemmas.Grind.{common_steps}
use Rattle.std.proofs.lemmas.List.{map-append}
use Rattle.std.proofs.lemmas.List.Elements.{filter_map-append}
use Rattle.ftp_events.proofs.questions.add_replies.Goals as goal

pub loop-action-preserved : goal.loop-action-preserved
loop-action-preserved c = grind (arith, common_steps, filter_map-append, map-append)
