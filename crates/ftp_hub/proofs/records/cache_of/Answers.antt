use Rattle.std.proofs.Common.{◌≡◌, sym, ap, ◌∙◌, true, List, [], ◌∷◌, ◌++◌}
use Rattle.std.specs.Prelude.{filter}
use Rattle.std.specs.Option.{option_or}
use Rattle.ftp_options.specs.declared.lockout.FailedLoginsBlock.{FailedLoginsBlock}
use Rattle.ftp_lockout.specs.Failures.{failures_of}
use Rattle.ftp_hub.specs.declared.state.RecordLine.{RecordLine}
use Rattle.ftp_hub.specs.State.{is_made_by, recorded_in}
use Rattle.ftp_hub.proofs.Recording.{kept-step}
use Rattle.ftp_hub.proofs.records.cache_of.Goals as goal

-- with one line more, whose record counts, what is there and what is left are all
pub loop-line-preserved-in-Continue-1 : goal.loop-line-preserved-in-Continue-1
loop-line-preserved-in-Continue-1 c =
    let by : FailedLoginsBlock = c.args.policy.block_by in
    let left : List RecordLine = c.pop.new.self.items in
    let line : RecordLine = c.in-Some.line in
    let all : c.loop-line.lines.items ≡ left ++ line ∷ [] = c.in-Some.ensures.items in
    let made : is_made_by by line ≡ true = sym c.is_made_by.ensures ∙ c.if-is_made_by.true in
    record {
      told = λ key.
          ap (option_or (recorded_in (filter (is_made_by by) left) key)) (c.in_ok-restore.ensures.recorded key)
          ∙ kept-step by left line key (failures_of c.loop-line.cache key) made
          ∙ ap (λ (ls : List RecordLine). option_or (recorded_in (filter (is_made_by by) ls) key) (failures_of c.loop-line.cache key)) (sym all)
          ∙ c.loop-line.invariant.told key;
      policy = c.in_ok-restore.ensures.policy ∙ c.loop-line.invariant.policy;
    }
