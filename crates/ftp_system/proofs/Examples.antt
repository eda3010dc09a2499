-- Worked examples: the text of bytes with Telnet commands, each by computation.
use Rattle.std.proofs.Common.{◌≡◌, ℕ, List, [], ◌∷◌, ◌++◌, refl}
use Rattle.std.specs.Prelude.{codes}
use Rattle.ftp_system.specs.Telnet.{text, text_in}

-- a line that asks for a transfer's end
abbrev abort : List ℕ
abort = codes "ABOR" ++ 13 ∷ 10 ∷ []

doubled : text (codes "CWD " ++ 255 ∷ 255 ∷ codes "x") ≡ codes "CWD " ++ 255 ∷ codes "x"
unfolding text_in
doubled = refl

-- IAC IP, IAC DM
interrupt_and_mark : text (255 ∷ 244 ∷ 255 ∷ 242 ∷ abort) ≡ abort
unfolding text_in
interrupt_and_mark = refl

-- IAC IP, and IAC before DM sent as urgent data; both IAC so; IAC IP, IAC, and DM so
mark_alone : text (255 ∷ 244 ∷ 242 ∷ abort) ≡ abort
unfolding text_in
mark_alone = refl

both_alone : text (244 ∷ 255 ∷ 242 ∷ abort) ≡ abort
unfolding text_in
both_alone = refl

mark_lost : text (255 ∷ 244 ∷ 255 ∷ abort) ≡ abort
unfolding text_in
mark_lost = refl

-- IAC DO TIMING-MARK, IAC WILL 255
requests : text (255 ∷ 253 ∷ 6 ∷ codes "NO" ++ 255 ∷ 251 ∷ 255 ∷ codes "OP") ≡ codes "NOOP"
unfolding text_in
requests = refl

-- IAC SB 24 1 IAC IAC IAC SE
parameters : text (255 ∷ 250 ∷ 24 ∷ 1 ∷ 255 ∷ 255 ∷ 255 ∷ 240 ∷ codes "NOOP") ≡ codes "NOOP"
unfolding text_in
parameters = refl

-- in a line the bytes of a character stay, also where one stands for a command elsewhere
character : text (codes "CWD " ++ 244 ∷ 128 ∷ 128 ∷ 128 ∷ 10 ∷ []) ≡ codes "CWD " ++ 244 ∷ 128 ∷ 128 ∷ 128 ∷ 10 ∷ []
unfolding text_in
character = refl

-- an unfinished command has no text
unfinished : text (codes "NO" ++ 255 ∷ []) ≡ codes "NO"
unfolding text_in
unfinished = refl
