use Rattle.std.proofs.Common.{◌≡◌, ℕ, List, ◌++◌, codes, append_assoc}
use Rattle.std.specs.Prelude.{decimal}
use Rattle.ftp_events.proofs.text.write_offset_text.Goals as goal

-- text that is written piece by piece is one text
joined : (t w digits tail : List ℕ) → t ++ w ++ digits ++ tail ≡ t ++ (w ++ digits ++ tail)
joined t w digits tail = simp append_assoc

pub returns : goal.returns
returns c =
    rw (c.write_words-2.ensures.items, c.write_offset.ensures.items, c.write_words.ensures.items)
    (joined c.args.text.now.items (codes "Restarting at ") (decimal c.args.offset) (codes ". Now send STORE or RETRIEVE."))
