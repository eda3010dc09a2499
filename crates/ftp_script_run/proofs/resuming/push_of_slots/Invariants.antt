use Rattle.std.proofs.Common.{◌≡◌, ◌++◌, take}
use Rattle.std.specs.Prelude.{option_to_list}
use Rattle.std.specs.List.{flat_map}
use Rattle.ftp_hub.specs.declared.state.SlotLine.{SlotLine}
use Rattle.ftp_script_run.specs.Resumed.{link_kept}
use Rattle.ftp_script_run.proofs.resuming.push_of_slots.Given as goal

abbrev pub invariant-loop-line : goal.invariant-loop-line
invariant-loop-line l = l.links.items ≡ l.initial.links.items ++ flat_map (λ (s : SlotLine). option_to_list (link_kept s.what)) (take l.line-index l.slots)
