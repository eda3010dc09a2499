use Rattle.std.proofs.Common.{◌≡◌, ℕ, Option, Some, sym, ap, ◌∙◌}
use Rattle.std.specs.FinMap as finmap
use Rattle.ftp_base.specs.Net.{ipv4}
use Rattle.ftp_switchboard.specs.Board.{Held, key, holder_at}
use Rattle.ftp_switchboard.proofs.BoardLemmas.{get-present_released}
use Rattle.ftp_events.specs.Slot.{waiting_port}
use Rattle.ftp_handlers.specs.Handlers.{held_without}
use Rattle.ftp_handlers.proofs.closed.release.Goals as goal

-- the port that the session waits for is given up
pub returns-in-Some-waiting_port-clause-holders : goal.returns-in-Some-waiting_port-clause-holders
returns-in-Some-waiting_port-clause-holders c a p =
    let before : Option ℕ = holder_at c.args.board.now a p in
    let source : ipv4 c.args.session.now.opening.client ≡ Some c.in-Some.source = sym c.ipv4.ensures ∙ c.in-Some.is in
    let waited : waiting_port c.args.session.now.slot ≡ Some c.in-Some-waiting_port.port = sym c.waiting_port.ensures ∙ c.in-Some-waiting_port.is in
    ap (λ (held : Held). finmap.get held (key a p)) c.release.ensures.held
    ∙ get-present_released c.args.board.now.held c.in-Some.source (Some c.in-Some-waiting_port.port) c.args.number a p
    ∙ ap (λ (w : Option ℕ). held_without c.args.number (Some c.in-Some.source) w a p before) (sym waited)
    ∙ ap (λ (client : Option ℕ). held_without c.args.number client (waiting_port c.args.session.now.slot) a p before) (sym source)
