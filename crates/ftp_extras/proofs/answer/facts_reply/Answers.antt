use Rattle.std.proofs.Common.{◌≡◌, ◌∙◌, ℕ, List, [], ◌∷◌, ◌++◌, ap, sym}
use Rattle.std.proofs.lemmas.List.{append-nil}
use Rattle.ftp_extras.specs.Answers.{facts_line}
use Rattle.ftp_extras.specs.ReplyLines.{line_with_end}
use Rattle.ftp_extras.proofs.answer.facts_reply.Goals as goal

pub returns : goal.returns
returns c =
    let line = facts_line c.args.path.now c.args.found in
    let put : c.put_line.new.text.items ≡ line_with_end line =
    c.in_ok-put_line.ensures
    ∙ ap (λ (t : List ℕ). t ++ line_with_end c.as_slice.result.now) c.new-lines.ensures.items
    ∙ ap line_with_end (c.as_slice.ensures.value ∙ c.in_ok-line.ensures)
    in
    c.in_ok-reply.ensures (line ∷ []) (c.as_slice-2.ensures.value ∙ put ∙ sym (append-nil (line_with_end line)))
