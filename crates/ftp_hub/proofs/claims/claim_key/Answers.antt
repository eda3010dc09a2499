use Rattle.std.proofs.Common.{◌≡◌, sym, ap, ◌∙◌, None}
use Rattle.std.specs.FinMap as finmap
use Rattle.ftp_switchboard.specs.Board.{Held, holder_at, key as key_pair}
use Rattle.ftp_hub.proofs.Claiming.{claim-after, claim-held, claim-kept, claim-own, nobody-there}
use Rattle.ftp_hub.proofs.claims.claim_key.Goals as goal

pub returns-in-Ok-clause-claimed : goal.returns-in-Ok-clause-claimed
returns-in-Ok-clause-claimed c =
    claim-own c.args.board.now c.try_and_claim.new.self c.args.key c.args.session
    (claim-after c.args.board.now c.reserve_room.new.self c.try_and_claim.new.self c.args.key c.args.session c.args.key.source c.args.key.port c.reserve_room.ensures.same.held c.in-Ok.ensures.claimed)

pub returns-in-Ok-clause-held : goal.returns-in-Ok-clause-held
returns-in-Ok-clause-held c a p s h =
    claim-held c.args.board.now c.try_and_claim.new.self c.args.key c.args.session a p s
    (claim-after c.args.board.now c.reserve_room.new.self c.try_and_claim.new.self c.args.key c.args.session a p c.reserve_room.ensures.same.held c.in-Ok.ensures.claimed) h

pub returns-in-Ok-clause-kept : goal.returns-in-Ok-clause-kept
returns-in-Ok-clause-kept c a p s h =
    let key = c.args.key in
    let free : holder_at c.args.board.now key.source key.port ≡ None =
    ap (λ (h : Held). finmap.get h (key_pair key.source key.port)) (sym c.reserve_room.ensures.same.held)
    ∙ nobody-there (holder_at c.reserve_room.new.self key.source key.port) (λ there. let z = c.in-Ok.ensures.entry_not_available.1 there in cc)
    in
    claim-kept c.args.board.now c.try_and_claim.new.self key c.args.session a p s
    (claim-after c.args.board.now c.reserve_room.new.self c.try_and_claim.new.self key c.args.session a p c.reserve_room.ensures.same.held c.in-Ok.ensures.claimed) free h
