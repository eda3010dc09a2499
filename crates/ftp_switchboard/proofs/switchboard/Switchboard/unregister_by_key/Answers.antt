use Rattle.std.proofs.Common.{◌≡◌, ℕ, None, sym, ap, ◌∙◌}
use Rattle.std.specs.FinMap as finmap
use Rattle.std.specs.Option.{option_map}
use Rattle.ftp_switchboard.specs.Board.{Board}
use Rattle.ftp_switchboard.specs.Rows.{holder_in}
use Rattle.ftp_switchboard.proofs.InsideLemmas.{absent-same, holder-is, order-is, room-is, room-seen}
use Rattle.ftp_switchboard.proofs.TableLemmas.{held-remove}
use Rattle.ftp_switchboard.proofs.switchboard.Switchboard.unregister_by_key.Goals as goal

pub locate-requires-clause-order : goal.locate-requires-clause-order
locate-requires-clause-order c = order-is c.self.inside.range c.self.inside.rows c.self.inside.spare c.self.invariant

pub returns-in_err-place-clause-holder : goal.returns-in_err-place-clause-holder
returns-in_err-place-clause-holder c =
    c.from_residual.ensures ∙ ap (option_map (λ (found : ℕ × ℕ). found.1)) (sym c.in_err-place.was) ∙ c.locate.ensures.session
    ∙ holder-is c.self.inside.range c.self.inside.rows c.self.inside.spare c.self.invariant c.args.self.now c.self.view_is c.args.key.now.source c.args.key.now.port

pub returns-in_err-place-clause-held : goal.returns-in_err-place-clause-held
returns-in_err-place-clause-held c =
    let none : holder_in c.self.inside.rows c.args.key.now.source c.args.key.now.port ≡ None = sym c.locate.ensures.session ∙ ap (option_map (λ (found : ℕ × ℕ). found.1)) c.in_err-place.was in
    let same = held-remove c.self.inside.rows c.self.inside.rows c.self.invariant.rows.unique c.self.invariant.rows.unique c.args.key.now.source c.args.key.now.port
    (absent-same c.self.inside.rows c.args.key.now.source c.args.key.now.port none) in
    sym (ap (λ (b : Board). b.held) c.self.view_is) ∙ same ∙ ap (λ (b : Board). finmap.remove b.held c.args.key.now) c.self.view_is

pub returns-clause-holder : goal.returns-clause-holder
returns-clause-holder c =
    ap (option_map (λ (found : ℕ × ℕ). found.1)) (sym c.in_ok-place.was) ∙ c.locate.ensures.session
    ∙ holder-is c.self.inside.range c.self.inside.rows c.self.inside.spare c.self.invariant c.args.self.now c.self.view_is c.args.key.now.source c.args.key.now.port

pub returns-clause-held : goal.returns-clause-held
returns-clause-held c =
    held-remove c.self.inside.rows c.take.new.rows c.self.invariant.rows.unique c.take.ensures.rows.unique c.args.key.now.source c.args.key.now.port c.take.ensures.holders
    ∙ ap (λ (b : Board). finmap.remove b.held c.args.key.now) c.self.view_is

pub returns-clause-room : goal.returns-clause-room
returns-clause-room c other apart some =
    room-seen c.self.inside.range c.take.new.rows c.take.new.spare other
    (c.take.ensures.room other apart (room-is c.self.inside.range c.self.inside.rows c.self.inside.spare c.self.invariant c.args.self.now c.self.view_is other some))
