use Rattle.std.proofs.Common.{◌≡◌, refl, sym, ap, ◌∙◌, ℕ, true, false, not, ◌||◌, ◌⊎◌, inl, inr, List, None, Err}
use Rattle.ftp_base.specs.declared.net.SocketAddr.{SocketAddr}
use Rattle.ftp_base.specs.Net.{is_v6}
use Rattle.ftp_options.specs.Modes.{is_proxy}
use Rattle.ftp_transfer.specs.declared.job.Outcome.{Outcome}
use Rattle.ftp_events.specs.Log.{is_stopped}
use Rattle.ftp_events.specs.ConnectionRows.{header_row}
use Rattle.ftp_events.specs.declared.decision.Decision.TheVariants as decision
use Rattle.ftp_events.specs.declared.event.Answer.TheVariants as answer
use Rattle.ftp_events.specs.Board.{target}
use Rattle.ftp_laws.proofs.TableLemmas.{holder-other}
use Rattle.ftp_handlers.specs.Rooms.{actions_in}
use Rattle.ftp_hub.proofs.Common.{Answer, Decision, Entry, Options, V4, decide, entry, is_used, named_session, past_of}
use Rattle.ftp_hub.proofs.DataLinks.{fault-comes, serves-closed}
use Rattle.ftp_hub.proofs.Refusals.{serves-refused}
use Rattle.ftp_hub.proofs.hub.Hub.proxied.Goals.{then-not-is_proxy-via-then-not-is_proxy, then-not-is_proxy-via-else-not-is_proxy+then-is_v6}
use Rattle.ftp_hub.proofs.hub.Hub.proxied.Goals as goal

-- a connection of another mode, or from an address of version 6, is refused
pub returns-then-not-is_proxy-clause-serves : goal.returns-then-not-is_proxy-clause-serves
unfolding decide
returns-then-not-is_proxy-clause-serves c log st =
    let misplaced : (not (is_proxy c.args.self.now.options.mode) || is_v6 c.in-Proxied.raw.ip) ≡ true =
    elim c.then-not-is_proxy.branch [
      | then-not-is_proxy-via-then-not-is_proxy w ↦ rw (sym w.if-not-is_proxy.ensures) refl
      | then-not-is_proxy-via-else-not-is_proxy+then-is_v6 w ↦ rw (sym w.if-not-is_proxy.ensures, sym w.if-is_v6.ensures) refl
    ]
    in
    serves-refused c.args.self.now log c.args.event.now c.args.answer decision.Misplaced _ st (rw (c.in-Proxied.is, misplaced) refl) refl c.requires.ready.ready.actions

-- so is a number that was used
pub returns-then-has-clause-serves : goal.returns-then-has-clause-serves
unfolding decide
returns-then-has-clause-serves c log st =
    let used : is_used (past_of log) c.in-Proxied.number ≡ true = sym (st.tables.numbers c.in-Proxied.number) ∙ sym c.has.ensures ∙ c.if-has.true in
    serves-refused c.args.self.now log c.args.event.now c.args.answer decision.UsedNumber _ st (rw (c.in-Proxied.is, sym c.if-not-is_proxy.ensures, sym c.if-is_v6.ensures, used) refl) refl c.requires.ready.ready.actions

-- a header that is none closes the connection
pub returns-in-Header-Err-clause-serves : goal.returns-in-Header-Err-clause-serves
unfolding decide
returns-in-Header-Err-clause-serves c log st =
    let unused : is_used (past_of log) c.in-Proxied.number ≡ false = sym (st.tables.numbers c.in-Proxied.number) ∙ sym c.has.ensures ∙ c.if-has.false in
    let going : is_stopped (past_of log) ≡ false = sym st.tables.stopped ∙ c.if-self.false in
    let found : c.in-Header-Err.field-0 ≡ Err c.in-Header-Err.fault = rw c.in-Header-Err.is at c.in-Header-Err.field-0-is in
    let header : c.args.answer ≡ answer.Header (Err c.in-Header-Err.fault) = c.in-Header-Err.is ∙ ap answer.Header found in
    let nowhere : target c.args.self.now.options c.args.event.now.kind c.args.answer ≡ None = rw (c.in-Proxied.is, header) refl in
    let unnamed : named_session c.args.event.now.kind ≡ None = rw c.in-Proxied.is refl in
    let fault : Decision = decision.HeaderFault c.in-Header-Err.fault in
    serves-closed c.args.self.now _ log c.args.event.now c.args.answer fault _ c.in-Proxied.number st (fault-comes c.in-Header-Err.fault)
    (rw (c.in-Proxied.is, header, sym c.if-not-is_proxy.ensures, sym c.if-is_v6.ensures, unused, going) refl)
    (rw (unnamed, nowhere) refl) refl (rw c.in-Proxied.is refl)
    (rw (c.close.ensures.actions, c.requires.ready.ready.actions) refl)
    refl refl refl c.put.ensures
    (λ a p. st.tables.holders a p ∙ sym (holder-other c.args.self.now.options (past_of log) (entry c.args.event.now c.args.answer fault (actions_in c.close.new.self)) (V4 a) p nowhere unnamed refl refl))
    refl refl

-- nothing else is a header
headless :
    (o : Options) (past : List Entry) (raw : SocketAddr) (x : Answer) →
    (x ≡ answer.None) ⊎ (((outcome : Outcome) × (x ≡ answer.Done outcome)) ⊎ ((bytes : ℕ) × (x ≡ answer.Moved bytes))) →
    header_row o past raw x ≡ decision.NotExpected
headless o past raw x (inl h) = rw h refl
headless o past raw x (inr (inl h)) = rw h.1 refl
headless o past raw x (inr (inr h)) = rw h.1 refl

-- without a header it is refused
pub returns-in-None : goal.returns-in-None
unfolding decide
returns-in-None c =
    record {
      serves = λ log st.
          let unused : is_used (past_of log) c.in-Proxied.number ≡ false = sym (st.tables.numbers c.in-Proxied.number) ∙ sym c.has.ensures ∙ c.if-has.false in
          let going : is_stopped (past_of log) ≡ false = sym st.tables.stopped ∙ c.if-self.false in
          serves-refused c.args.self.now log c.args.event.now c.args.answer decision.NotExpected _ st
          (sym (rw (c.in-Proxied.is, sym c.if-not-is_proxy.ensures, sym c.if-is_v6.ensures, unused, going) (headless c.args.self.now.options (past_of log) c.in-Proxied.raw c.args.answer c.in-None.is))) refl c.requires.ready.ready.actions;
      head = record { options = refl; count = refl; counters = refl };
      twice = refl;
    }
