use Rattle.std.proofs.Common.{ap, ◌∙◌}
use Rattle.std.specs.FinMap as finmap
use Rattle.ftp_switchboard.specs.Board.{Held, key, key_cmp}
use Rattle.ftp_hub.proofs.claims.free_board.Goals as goal

-- a new board has no holders
pub returns-clause-free : goal.returns-clause-free
returns-clause-free c a p = ap (λ (held : Held). finmap.get held (key a p)) c.new.ensures.free ∙ finmap.get-empty key_cmp (key a p)
