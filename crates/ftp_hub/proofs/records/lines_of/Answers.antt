use Rattle.std.proofs.Common.{◌≡◌, sym, ap, ◌∙◌, subst, true, List, [], ◌++◌, append-nil}
use Rattle.std.specs.List.{AllByRecursion}
use Rattle.std.specs.Map.{keys_of}
use Rattle.std.proofs.lemmas.List.{nil_from_length}
use Rattle.ftp_lockout.specs.declared.cache.Failures.{Failures}
use Rattle.ftp_lockout.specs.declared.key.LoginKey.{LoginKey}
use Rattle.ftp_lockout.specs.Logins.{IsKey}
use Rattle.ftp_hub.specs.declared.state.RecordLine.{RecordLine}
use Rattle.ftp_hub.specs.State.{entries_of, is_made_by}
use Rattle.ftp_hub.proofs.Recording.{all-last, entries-step}
use Rattle.ftp_hub.proofs.records.lines_of.Goals as goal

-- the next record is of a key of the policy
pub line_of-requires : goal.line_of-requires
line_of-requires c =
    record { key = (subst (λ rs. AllByRecursion (IsKey c.args.block_by) (keys_of rs)) c.in-Some.ensures.steps.0 c.loop-key.invariant.keys).0 }

-- no record was taken yet
pub loop-key-init : goal.loop-key-init
loop-key-init c =
    let all = c.into_iter-key-iterator.ensures.into_iter_gives.0 in
    record {
      entries = ap (λ (ls : List RecordLine). entries_of ls ++ c.into_iter-key-iterator.result.rest.items) c.in_ok-lines.ensures.items ∙ all;
      made = subst (AllByRecursion (λ (line : RecordLine). is_made_by c.args.block_by line ≡ true)) (sym c.in_ok-lines.ensures.items) tt;
      keys = subst (λ rs. AllByRecursion (IsKey c.args.block_by) (keys_of rs)) (sym all) c.requires.keys;
    }

-- with one record more there is one line more
pub loop-key-preserved : goal.loop-key-preserved
loop-key-preserved c =
    let inv = c.loop-key.invariant in
    let more = c.in_ok-push.ensures.items in
    let left = c.in-Some.ensures.steps.0 in
    record {
      entries =
          ap (λ (ls : List RecordLine). entries_of ls ++ c.next.new.self.rest.items) more
          ∙ entries-step c.loop-key.lines.items c.line_of.result c.next.new.self.rest.items c.in-Some.key c.in-Some.failures c.line_of.ensures.key c.line_of.ensures.failures
          ∙ ap (λ (rs : List (LoginKey × Failures)). entries_of c.loop-key.lines.items ++ rs) (sym left)
          ∙ inv.entries;
      made = subst (AllByRecursion (λ (line : RecordLine). is_made_by c.args.block_by line ≡ true)) (sym more) (all-last (λ (line : RecordLine). is_made_by c.args.block_by line ≡ true) c.loop-key.lines.items c.line_of.result inv.made c.line_of.ensures.made);
      keys = (subst (λ rs. AllByRecursion (IsKey c.args.block_by) (keys_of rs)) left inv.keys).1;
    }

-- none is left
pub returns : goal.returns
returns c =
    let inv = c.loop-key.invariant in
    let rest = c.loop-key.key-iterator.rest in
    let none : rest.items ≡ [] = nil_from_length rest.items (sym rest.ok.0 ∙ c.in-None.ensures.steps.0) in
    record {
      entries =
          sym (append-nil (entries_of c.loop-key.lines.items))
          ∙ ap (λ (rs : List (LoginKey × Failures)). entries_of c.loop-key.lines.items ++ rs) (sym none)
          ∙ inv.entries;
      made = inv.made;
    }
