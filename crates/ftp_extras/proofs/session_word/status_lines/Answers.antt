use Rattle.std.proofs.Common.{◌≡◌, ◌∙◌, ℕ, List, ◌++◌, ap}
use Rattle.ftp_extras.specs.Extra.{seen}
use Rattle.ftp_extras.specs.Plan.{user_line, place_line}
use Rattle.ftp_extras.specs.ReplyLines.{line_with_end}
use Rattle.ftp_extras.proofs.Appends.{three-lines}
use Rattle.ftp_extras.proofs.session_word.status_lines.Goals as goal

pub returns : goal.returns
returns c =
    let who = seen c.args.asker.now in
    let user : c.put_line.new.text.items ≡ line_with_end (user_line who) =
    c.in_ok-put_line.ensures
    ∙ ap (λ (t : List ℕ). t ++ line_with_end c.as_slice.result.now) c.new-text.ensures.items
    ∙ ap line_with_end (c.as_slice.ensures.value ∙ c.in_ok-user.ensures)
    in
    let place : c.put_line-2.new.text.items ≡ c.put_line.new.text.items ++ line_with_end (place_line who) =
    c.in_ok-put_line-2.ensures
    ∙ ap (λ (l : List ℕ). c.put_line.new.text.items ++ line_with_end l) (c.as_slice-2.ensures.value ∙ c.in_ok-place.ensures)
    in
    three-lines _ _ _ _ _ _ user place c.in_ok-put_line-3.ensures
