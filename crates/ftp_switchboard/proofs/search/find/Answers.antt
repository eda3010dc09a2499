use Rattle.std.proofs.Common.{◌≡◌, ℕ, sym, ap, ◌∙◌, Some, arith}
use Rattle.ftp_switchboard.specs.Bits.{port_at, session_of}
use Rattle.ftp_switchboard.proofs.RowLemmas.{session_of-at, session_of-gap}
use Rattle.ftp_switchboard.proofs.search.find.Goals as goal

pub returns-then-place-len-clause-session : goal.returns-then-place-len-clause-session
returns-then-place-len-clause-session c =
    sym (session_of-gap c.args.row.now.pairs.items c.args.port c.place_of-place.result c.requires.order c.place_of-place.ensures.place
    (λ within same. omega arith))

pub returns-then-found-port-clause-session : goal.returns-then-found-port-clause-session
returns-then-found-port-clause-session c =
    sym (session_of-gap c.args.row.now.pairs.items c.args.port c.place_of-place.result c.requires.order c.place_of-place.ensures.place
    (λ within same. c.if-found-port.true (ap (λ (e : ℕ × ℕ). e.0) c.pair-found.ensures.pair ∙ same)))

pub returns-clause-session : goal.returns-clause-session
returns-clause-session c =
    let here : port_at c.args.row.now.pairs.items c.place_of-place.result ≡ c.args.port = ap (λ (e : ℕ × ℕ). e.0) (sym c.pair-found.ensures.pair) ∙ c.if-found-port.false in
    ap (λ (e : ℕ × ℕ). Some e.1) c.pair-found.ensures.pair
    ∙ sym (session_of-at c.args.row.now.pairs.items c.place_of-place.result c.requires.order (omega arith))
    ∙ ap (session_of c.args.row.now.pairs.items) here
