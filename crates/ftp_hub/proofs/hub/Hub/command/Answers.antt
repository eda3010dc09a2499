use Rattle.std.proofs.Common.{◌≡◌, refl, sym, ap, ◌∙◌, ℕ, true, false, ◌||◌, Option, Some, None}
use Rattle.std.specs.Prelude.{nat_eq, unwrap_or}
use Rattle.std.specs.HashMap as map
use Rattle.ftp_hub.proofs.Common.{Decision, EventKind, IsFew, Running, Session, has, held_after, holder_at, ipv4, new_number, past_of, session_acts, session_after, waiting_port}
use Rattle.ftp_switchboard.specs.Board.{Board}
use Rattle.ftp_events.specs.declared.decision.Decision.TheVariants as decision
use Rattle.ftp_events.specs.declared.event.Answer.TheVariants as answer
use Rattle.ftp_events.specs.declared.event.EventKind.TheVariants as kind
use Rattle.ftp_events.specs.CommandRows.{command_row}
use Rattle.ftp_events.specs.Decide.{around, is_at_work}
use Rattle.ftp_events.specs.Words.{is_number}
use Rattle.ftp_handlers.specs.Handlers.{is_abor, is_auth, is_command, is_port, is_transfer, number_of}
use Rattle.ftp_laws.proofs.Cases.{by_test}
use Rattle.ftp_hub.specs.Stands.{stops_for, used_for}
use Rattle.ftp_hub.proofs.Commands.{IsPlain, serves-unknown, serves-command, command-plain, command-unmoved, row-same}
use Rattle.ftp_hub.proofs.Decisions.{Comes, comes-held, kept-unanswered, passes-live}
use Rattle.ftp_hub.proofs.Ends.{transfer-comes, transfer-plain, transfer-row}
use Rattle.ftp_hub.proofs.Failures.{failures-stay}
use Rattle.ftp_hub.proofs.Moved.{jobs-kept, jobs-start, sessions-stay, tables-lent}
use Rattle.ftp_hub.proofs.Named.{few-counts}
use Rattle.ftp_hub.proofs.RowCases.{goes_on-lives}
use Rattle.ftp_hub.proofs.hub.Hub.command.Goals as goal

-- commands are plain, and so is a transfer that is asked for: it brings no number, and says nothing of a password
session-plain : (k : EventKind) → (is_transfer k ≡ false → is_command k ≡ true) → IsPlain k
session-plain k other = by_test (is_transfer k) (transfer-plain k) (λ no. command-plain k (other no))

transfer-number : (k : EventKind) (d : Decision) → is_transfer k ≡ true → new_number k d ≡ None
transfer-number (kind.Transfer s command) d e = refl
transfer-number (kind.Stou s word) d e = refl
transfer-number _ d e = cc

transfer-unsaid : (k : EventKind) → is_transfer k ≡ true → is_auth k ≡ false
transfer-unsaid (kind.AuthDone s said) e = cc
transfer-unsaid _ e = refl

-- a session that is not live
pub returns-in_default-clause-serves : goal.returns-in_default-clause-serves
returns-in_default-clause-serves c log given st =
    serves-unknown c.args.self.now _ log c.args.event.now given _ c.args.number st (session-plain _ c.requires.of_this_event).no_end c.requires.named (sym c.in_default.ensures.value) c.requires.fits.ready.actions
    (tables-lent c.args.self.now _ (past_of log) refl (λ q. ap (λ (m : map.HashMap ℕ Session _). map.get nat_eq m q) c.get_mut.follows.holds-at-none) (ap map.hash_map_len c.get_mut.follows.holds-at-none) refl refl refl refl refl st.tables)

-- a transfer of a live session
pub returns-then-is_transfer-clause-serves : goal.returns-then-is_transfer-clause-serves
returns-then-is_transfer-clause-serves c log given st =
    let v : Session = c.in-Some.session.now in
    let s = c.args.number in
    let k = c.args.event.now.kind in
    let o = c.args.self.now.options in
    let d : Decision = c.queue.result in
    let jobs = c.args.self.now.jobs in
    let job : Option Running = map.get nat_eq jobs s in
    let asked : is_transfer k ≡ true = sym c.is_transfer.ensures ∙ c.if-is_transfer.true in
    let there : map.get nat_eq c.args.self.now.sessions s ≡ Some v = sym c.in-Some.ensures.value in
    let few : IsFew v = few-counts c.args.self.now log s v st c.requires.fits.below (sym (st.tables.sessions s) ∙ there) in
    let comes : Comes d = transfer-comes s v d (c.queue.ensures.decision few) in
    let lent = c.get_mut.follows.holds c.queue.new.session in
    let same_board : (a p : ℕ) → holder_at c.queue.new.board a p ≡ holder_at c.args.self.now.board a p = λ a p. ap (λ (board : Board). holder_at board a p) c.queue.ensures.board in
    serves-command c.args.self.now _ log c.args.event.now given d _ s v c.queue.new.session st c.requires.fits.below (transfer-plain k asked) c.requires.named there
    (λ few.
    record {
      row = c.queue.ensures.decision few ∙ transfer-row o (around o (past_of log) c.args.event.now.at k v) k s v asked c.requires.named;
      acts = c.queue.ensures.actions few given;
      tables = record {
        moved = record {
          options = refl;
          session = c.queue.ensures.session few given ∙ ap (λ n. session_after c.args.event.now.at k given d n job v) (sym (comes.silent k given));
          sessions = sessions-stay c.args.self.now.sessions _ d s c.queue.new.session (passes-live d comes.passes) comes.passes.as_many (lent.3 (rw there refl)).0 lent.2;
          jobs = jobs-start jobs c.queue.new.jobs o k given d _ s v comes.unfinished (comes.kept given) (c.queue.ensures.starts few) (c.queue.ensures.actions few given);
        };
        numbers = λ q. ap (λ (n : Option ℕ). is_number n q || has c.args.self.now.numbers q) (sym (transfer-number k d asked));
        holders = λ shared a p. same_board a p ∙ sym (comes-held d s (ipv4 v.opening.client) (waiting_port v.slot) a p (holder_at c.args.self.now.board a p) comes);
        alone = λ alone. same_board;
        failures = failures-stay c.args.self.now c.args.event.now v (transfer-unsaid k asked);
        stopped = refl;
      };
    })

-- any other command of a live session
pub returns-clause-serves : goal.returns-clause-serves
returns-clause-serves c log given st =
    let v : Session = c.in-Some.session.now in
    let there : map.get nat_eq c.args.self.now.sessions c.args.number ≡ Some v = sym c.in-Some.ensures.value in
    let job : Option Running = map.get nat_eq c.args.self.now.jobs c.args.number in
    let lent = c.get_mut.follows.holds c.command-decision.new.session in
    let lives = goes_on-lives c.command-decision.result c.command-decision.ensures.goes_on in
    let number : number_of c.args.event.now.kind ≡ c.args.number = ap (λ (n : Option ℕ). unwrap_or n 0) c.requires.named in
    let o = c.args.self.now.options in
    let k = c.args.event.now.kind in
    let plain = session-plain k c.requires.of_this_event in
    let d : Decision = c.command-decision.result in
    let number_used : is_port k ≡ true → c.args.room.now.used ≡ used_for c.args.self.now k = λ port. c.requires.fits.used port in
    let stops : is_abor k ≡ true → c.args.room.now.stops ≡ stops_for c.args.self.now k = λ abor. c.requires.fits.stops abor in
    let row : d ≡ command_row o (around o (past_of log) c.args.event.now.at k v) k v =
    c.command-decision.ensures.decision (is_at_work o (past_of log) k)
    ∙ row-same c.args.self.now log c.args.room.now.used c.args.room.now.stops c.args.event.now.at k c.args.number v st plain.no_link number_used stops (sym (st.tables.sessions c.args.number) ∙ there)
    in
    let unmoved : d ≡ decision.Moved → ⊥ = λ moved. command-unmoved o (around o (past_of log) c.args.event.now.at k v) k v (sym row ∙ moved) in
    serves-command c.args.self.now _ log c.args.event.now given c.command-decision.result _ c.args.number v c.command-decision.new.session st c.requires.fits.below plain c.requires.named there
    (λ few.
    let acts = c.command-decision.ensures.actions few.notices given job ∙ ap (λ n. session_acts o n k given c.command-decision.result job (Some v)) number in
    record {
      row = row;
      acts = acts;
      tables = record {
        moved = record {
          options = refl;
          session = c.command-decision.ensures.session few.notices given job;
          sessions = sessions-stay c.args.self.now.sessions _ c.command-decision.result c.args.number c.command-decision.new.session lives.lives lives.as_many (lent.3 (rw there refl)).0 lent.2;
          jobs = jobs-kept c.args.self.now.jobs _ o c.args.number k given answer.None d _ c.args.number v lives.idle (λ job. kept-unanswered d given job unmoved) c.mark.ensures.jobs c.mark.ensures.len acts;
        };
        numbers = c.use_number.ensures;
        holders = λ shared a p. c.command-decision.ensures.holders shared a p ∙ ap (λ n. held_after c.command-decision.result n (ipv4 v.opening.client) (waiting_port v.slot) a p (holder_at c.args.self.now.board a p)) number;
        alone = λ alone a p. ap (λ (board : Board). holder_at board a p) (c.command-decision.ensures.alone alone);
        failures = c.command-decision.ensures.failures;
        stopped = refl;
      };
    })
