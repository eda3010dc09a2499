use Rattle.std.proofs.Common.{ℕ, Bool, ap, sym, subst, ◌∙◌}
use Rattle.std.proofs.lemmas.Result.{IfOk-weaker}
use Rattle.std.specs.Prelude.{Result}
use Rattle.ftp_control.specs.declared.command.Command.{Command}
use Rattle.ftp_control.specs.declared.line.LineError.{LineError}
use Rattle.ftp_control.specs.declared.line.LineError.TheVariants.{InvalidCommand}
use Rattle.ftp_talk.specs.Commands.{GivenBy, refused_as}
use Rattle.ftp_talk.specs.Ground.{history}
use Rattle.ftp_talk.specs.Speaking.{IsHeardAs}
use Rattle.ftp_talk.proofs.ServeLemmas.{asking-plain, refused-plain}
use Rattle.ftp_talk.proofs.control_session.ControlSession.ask_own.Goals as goal

pub returns-then-is_refused-clause-asked : goal.returns-then-is_refused-clause-asked
returns-then-is_refused-clause-asked g c = λ q sent ts pieces line draws s same.
    let named = c.in_ok-refused.ensures.kind ∙ ap (λ (n : ℕ). refused_as n InvalidCommand) s.known.session in
    let read = subst (λ (b : Bool). IsHeardAs b line c.args.command) c.if-is_refused.true same in (
      subst (λ (r : Result Command LineError). GivenBy q (history q ts) r c.in_ok-refused.refused) (sym read.0) named,
      asking-plain q c.args.self.now _ _ _ ts pieces c.in_ok-refused.refused s (refused-plain q (history q ts) InvalidCommand _ named),
    )

pub returns-clause-asked : goal.returns-clause-asked
returns-clause-asked g c =
    IfOk-weaker c.ask_alone.result _ _ (λ k asked. λ q sent ts pieces line draws s same.
    let read = subst (λ (b : Bool). IsHeardAs b line c.args.command) c.if-is_refused.false same in
    let a = asked q sent ts pieces draws s in
    (subst (λ (r : Result Command LineError). GivenBy q (history q ts) r k.0) (sym read) a.0, a.1))
    c.ask_alone.ensures.asked
