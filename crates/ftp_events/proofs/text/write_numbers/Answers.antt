use Rattle.std.proofs.Common.{◌≡◌, ℕ, List, [], ◌∷◌, ◌++◌, codes, append_assoc}
use Rattle.std.specs.Prelude.{decimal}
use Rattle.ftp_events.proofs.text.write_numbers.Goals as goal

-- text that is written piece by piece is one text
joined : (t w a b c d p q : List ℕ) → t ++ w ++ (a ++ 44 ∷ []) ++ (b ++ 44 ∷ []) ++ (c ++ 44 ∷ []) ++ (d ++ 44 ∷ []) ++ (p ++ 44 ∷ []) ++ (q ++ 41 ∷ []) ≡ t ++ (w ++ (a ++ 44 ∷ (b ++ 44 ∷ (c ++ 44 ∷ (d ++ 44 ∷ (p ++ 44 ∷ q))))) ++ 41 ∷ [])
joined t w a b c d p q = simp append_assoc

pub returns : goal.returns
returns c =
    rw (c.write_number-6.ensures.items, c.write_number-5.ensures.items, c.write_number-4.ensures.items, c.write_number-3.ensures.items, c.write_number-2.ensures.items, c.write_number.ensures.items, c.write_words.ensures.items)
    (joined c.args.text.now.items (codes "Entering Passive Mode (") (decimal c.args.a) (decimal c.args.b) (decimal c.args.c) (decimal c.args.d) (decimal c.args.high) (decimal c.args.low))
