use Rattle.std.proofs.Common.{◌≡◌, ◌+◌, length, []}
use Rattle.std.specs.List.{slice_split}
use Rattle.std.specs.Option.{option_map_or}
use Rattle.ftp_text.specs.Reading.{is_comma, each_of}
use Rattle.ftp_text.proofs.Lists.{with_first}
use Rattle.ftp_text.proofs.calls.each.Given as goal

abbrev pub invariant-loop-rest : goal.invariant-loop-rest
invariant-loop-rest g l =
    with_first l.calls.items (each_of g.C.CallText.spelled (option_map_or (λ rest. slice_split is_comma rest.now) l.rest []))
    ≡ each_of g.C.CallText.spelled (slice_split is_comma l.word)

abbrev pub decreases-loop-rest : goal.decreases-loop-rest
decreases-loop-rest g l = option_map_or (λ rest. length rest.now + 1) l.rest 0
