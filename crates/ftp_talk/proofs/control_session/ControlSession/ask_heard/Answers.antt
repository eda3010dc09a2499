use Rattle.std.proofs.Common.{ℕ, ap}
use Rattle.std.proofs.lemmas.Result.{IfOk-weaker}
use Rattle.ftp_base.specs.declared.message.ControlChanMsg.TheVariants.{CommandChannelReply}
use Rattle.ftp_base.specs.declared.reply.Reply.TheVariants.{None as NoReply}
use Rattle.ftp_events.specs.declared.event.EventKind.TheVariants as kind
use Rattle.ftp_talk.specs.Ground.{history}
use Rattle.ftp_talk.proofs.ServeLemmas.{asking-plain, told-plain}
use Rattle.ftp_talk.proofs.control_session.ControlSession.ask_heard.Goals as goal

pub returns-in-Pass-clause-asked : goal.returns-in-Pass-clause-asked
returns-in-Pass-clause-asked g c = rw c.in-Pass.is c.ask_own.ensures.asked

pub returns-in-Tell-clause-asked : goal.returns-in-Tell-clause-asked
returns-in-Tell-clause-asked g c = λ q sent ts pieces line draws s same.
    let named = ap (λ (n : ℕ). kind.Internal n c.in-Tell.message) s.known.session in
    rw c.in-Tell.is (named, asking-plain q c.args.self.now _ _ _ ts pieces _ s (told-plain q (history q ts) c.in-Tell.message _ named))

pub returns-in-Say-clause-asked : goal.returns-in-Say-clause-asked
returns-in-Say-clause-asked g c = λ q sent ts pieces line draws s same.
    let m = CommandChannelReply NoReply in
    let named = ap (λ (n : ℕ). kind.Internal n m) s.known.session in
    rw c.in-Say.is (named, asking-plain q c.args.self.now _ _ _ ts pieces _ s (told-plain q (history q ts) m _ named))

pub returns-in-As-clause-asked : goal.returns-in-As-clause-asked
returns-in-As-clause-asked g c = rw c.in-As.is (IfOk-weaker c.ask_alone.result _ _ (λ k asked. λ q sent ts pieces line draws s same. asked q sent ts pieces draws s) c.ask_alone.ensures.asked)

pub returns-in-Epsv-clause-asked : goal.returns-in-Epsv-clause-asked
returns-in-Epsv-clause-asked g c = rw c.in-Epsv.is (IfOk-weaker c.ask_alone-in-Epsv.result _ _ (λ k asked. λ q sent ts pieces line draws s same. asked q sent ts pieces draws s) c.ask_alone-in-Epsv.ensures.asked)
