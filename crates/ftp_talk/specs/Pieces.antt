-- What is said, in pieces: bytes, each behind a delay.
use Rattle.std.specs.Prelude.{◌≡◌, ℕ, ◌+◌, ◌≤◌, List, [], ◌∷◌, ◌++◌, Option, Some, None}
use Rattle.std.specs.List.{flat_map}
use Rattle.ftp_base.specs.declared.reply.Reply.{Reply}
use Rattle.ftp_base.specs.Reply.{encoding}
use Rattle.ftp_base.specs.Outside.{Writes}
use Rattle.ftp_events.specs.declared.action.Action.{Action}
use Rattle.ftp_control.specs.Writing.{WritesFront}
use Rattle.ftp_extras.specs.ReplyLines.{reply_bytes, epsv_reply}
use Rattle.ftp_shared.specs.Outbox.{replies_in}
use Rattle.ftp_talk.specs.Saying.{IsPaused}

-- pieces, with the milliseconds of their delays
abbrev pub Pieces : Type 0
Pieces = List (ℕ × List ℕ)

-- the lines of replies, each a piece
abbrev pub pieces_of : List (ℕ × Reply) → Pieces
pieces_of [] = []
pieces_of (r ∷ replies) = (r.0, encoding r.1) ∷ pieces_of replies

-- what an entry says to session s: the replies to it among the actions; where a port is granted for an EPSV the reply to the
-- EPSV stands in place of those
abbrev pub entry_pieces : ℕ → Option ℕ → List Action → Pieces
entry_pieces s None actions = pieces_of (replies_in actions s)
entry_pieces s (Some port) actions = (0, reply_bytes (epsv_reply port)) ∷ []

-- what is said to session s: the replies that came earlier, and then what the entry says
abbrev pub said_pieces : ℕ → Option ℕ → List (ℕ × Reply) → List Action → Pieces
said_pieces s port earlier actions = pieces_of earlier ++ entry_pieces s port actions

-- the bytes of pieces
abbrev pub piece_text : Pieces → List ℕ
piece_text pieces = flat_map (λ p. p.1) pieces

-- the milliseconds of the delays of pieces
abbrev pub piece_delays : Pieces → ℕ
piece_delays [] = 0
piece_delays (p ∷ pieces) = p.0 + piece_delays pieces

-- of a text that waited and of pieces behind it a part from the front was sent, and no byte of a piece before its delay and
-- those of all pieces before it were paused; not more was paused than the delays of all
pub record SaysPieces (old new : Option (List ℕ)) (before after : ℕ) (waited : List ℕ) (pieces : Pieces) : Type 0 where
  pub begun : Pieces
  pub left : Pieces
  pub parts : begun ++ left ≡ pieces
  pub written : WritesFront old new (waited ++ piece_text begun)
  pub millis : ℕ
  pub least : piece_delays begun ≤ millis
  pub most : millis ≤ piece_delays pieces
  pub paused : IsPaused millis before after

-- a text that waited and pieces behind it were said but for what waits now, and the delays of the pieces were paused
pub record Says (old new : Option (List ℕ)) (before after : ℕ) (waited waits : List ℕ) (pieces : Pieces) : Type 0 where
  pub gone : List ℕ
  pub written : Writes old new gone
  pub text : gone ++ waits ≡ waited ++ piece_text pieces
  pub paused : IsPaused (piece_delays pieces) before after
