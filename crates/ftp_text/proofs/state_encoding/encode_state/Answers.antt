use Rattle.std.proofs.Common.{ℕ, List, ◌++◌, ap, ◌∙◌}
use Rattle.ftp_text.specs.StateText.{state_text}
use Rattle.ftp_text.specs.Walk.{walk}
use Rattle.ftp_text.proofs.WalkLemmas.{walk-is}
use Rattle.ftp_text.proofs.state_encoding.encode_state.Goals as goal

pub returns : goal.returns
returns c = record {
  lists =
      c.from_vec.ensures
      ∙ c.in_ok-put_state.ensures
      ∙ ap (λ (o : List ℕ). o ++ state_text (walk c.args.state.now)) c.new-out.ensures.items;
  text = λ lines is.
      c.from_vec.ensures
      ∙ c.in_ok-put_state.ensures
      ∙ ap (λ (o : List ℕ). o ++ state_text (walk c.args.state.now)) c.new-out.ensures.items
      ∙ ap state_text (walk-is c.args.state.now lines is);
}
