use Rattle.std.proofs.Common.{◌≡◌, refl, sym, ap, ◌∙◌, subst, ℕ, Bool, true, false, ◌||◌, List, Option, Some, None, cond}
use Rattle.std.specs.Prelude.{IfSome, is_some, nat_eq, nat_lt, ◌==◌, unwrap_or}
use Rattle.std.specs.HashMap as map
use Rattle.std.proofs.Common.{arith, ◌-◌}
use Rattle.ftp_hub.proofs.Common.{Decision, Entry, EventKind, Options, Running, Session, V4, has, held_after, holder_at, ipv4, new_number, notices_of, past_of, session_acts, session_after, waiting_port}
use Rattle.ftp_events.specs.declared.event.EventKind.TheVariants as kind
use Rattle.ftp_events.specs.declared.decision.Decision.TheVariants as decision
use Rattle.ftp_events.specs.Classes.{is_ending, is_stop}
use Rattle.ftp_events.specs.CommandRows.{Around, command_row, idle_row, is_linked}
use Rattle.ftp_events.specs.Decide.{around}
use Rattle.ftp_events.specs.Words.{is_number}
use Rattle.ftp_handlers.specs.Handlers.{ends_session, is_auth, number_of}
use Rattle.ftp_hub.proofs.Decisions.{ending-kept, put-back}
use Rattle.ftp_hub.specs.Endings.{is_over}
use Rattle.ftp_hub.proofs.Commands.{at-work, serves-unknown, serves-command, ending-plain}
use Rattle.ftp_laws.proofs.GrantLemmas.{holder-legacy}
use Rattle.ftp_hub.proofs.Failures.{failures-stay}
use Rattle.ftp_hub.proofs.Named.{ends-none}
use Rattle.ftp_hub.proofs.RowCases.{EndsLife, ending-ends}
use Rattle.ftp_hub.proofs.Moved.{jobs-stay, tables-lent}
use Rattle.ftp_hub.proofs.hub.Hub.close.Goals as goal

-- an ending brings no number, and says nothing of a password
ending-number : (k : EventKind) (d : Decision) → ends_session k ≡ true → new_number k d ≡ None
ending-number (kind.Quit s) d e = refl
ending-number (kind.Closed s) d e = refl
ending-number (kind.IdleTick s) d e = refl
ending-number _ d e = cc

ending-unsaid : (k : EventKind) → ends_session k ≡ true → is_auth k ≡ false
ending-unsaid (kind.AuthDone s said) e = cc
ending-unsaid _ e = refl

-- what the session ends with is decided as an end, and as no stop
over-ends : (o : Options) (a : Around) (runs : Bool) (k : EventKind) (v : Session) → a.runs ≡ runs → is_over o runs a.at k v ≡ true → is_ending (command_row o a k v) ≡ true
over-ends o a runs (kind.IdleTick s) v same over = ap (λ b. is_ending (idle_row o b a.at v)) same ∙ over
over-ends o a runs (kind.Closed s) v same over = refl
over-ends o a runs (kind.Quit s) v same over = refl
over-ends o a runs k v same over = cc

over-plain : (o : Options) (a : Around) (k : EventKind) (v : Session) → ends_session k ≡ true → is_stop (command_row o a k v) ≡ false
over-plain o a (kind.IdleTick s) v e = idle-plain (nat_lt (a.at - v.active_at) o.idle_ms) (a.runs || is_linked v.slot)
  where
    idle-plain : (early working : Bool) → is_stop (cond early decision.Early (cond working decision.Waited decision.TimedOut)) ≡ false
    idle-plain true working = refl
    idle-plain false true = refl
    idle-plain false false = refl
over-plain o a (kind.Closed s) v e = refl
over-plain o a (kind.Quit s) v e = refl
over-plain o a k v e = cc

-- what is known of a session that is there
there-so : (P : Session → Type 0) (x : Option Session) (v : Session) → x ≡ Some v → IfSome x P → P v
there-so P x v e h = subst (λ (y : Option Session). IfSome y P) e h

-- a session that is not live
pub returns-in_default-clause-serves : goal.returns-in_default-clause-serves
returns-in_default-clause-serves c log given st =
    let none : map.get nat_eq c.args.self.now.sessions c.args.number ≡ None = sym c.take.ensures.value ∙ c.in_default.is in
    let len : map.hash_map_len c.take.new.table ≡ map.hash_map_len c.args.self.now.sessions = omega (arith, rw c.in_default.is at c.take.ensures.len) in
    serves-unknown c.args.self.now _ log c.args.event.now given _ c.args.number st (ending-plain _ c.requires.of_this_event).no_end c.requires.named none c.requires.ready.actions
    (tables-lent c.args.self.now _ (past_of log) refl
    (λ q.
    c.take.ensures.updates q
    ∙ ap (λ (x : Option Session). cond (c.args.number == q) x (map.get nat_eq c.args.self.now.sessions q)) (sym none)
    ∙ put-back (map.get nat_eq c.args.self.now.sessions) c.args.number q)
    len refl refl refl refl refl st.tables)

-- the end of a live session
pub returns-clause-serves : goal.returns-clause-serves
returns-clause-serves c log given st =
    let o = c.args.self.now.options in
    let k = c.args.event.now.kind in
    let v : Session = c.in-Some.session in
    let d : Decision = c.ending.result in
    let there : map.get nat_eq c.args.self.now.sessions c.args.number ≡ Some v = sym c.take.ensures.value ∙ c.in-Some.is in
    let past : List Entry = past_of log in
    let a : Around = around o past c.args.event.now.at k v in
    let runs : a.runs ≡ is_some (map.get nat_eq c.args.self.now.jobs c.args.number) = at-work c.args.self.now log k c.args.number st c.requires.named in
    let over : is_ending (command_row o a k v) ≡ true =
    over-ends o a (is_some (map.get nat_eq c.args.self.now.jobs c.args.number)) k v runs
    (there-so (λ v. is_over o (is_some (map.get nat_eq c.args.self.now.jobs c.args.number)) c.args.event.now.at k v ≡ true) _ v there c.requires.over)
    in
    let row : d ≡ command_row o a k v = c.ending.ensures.decision a over in
    let plain : is_stop d ≡ false = ap is_stop row ∙ over-plain o a k v c.requires.of_this_event in
    let leaves : EndsLife d = ending-ends d plain c.ending.ensures.ends in
    let job : Option Running = map.get nat_eq c.args.self.now.jobs c.args.number in
    let after : Session = session_after c.args.event.now.at k given d (notices_of k d given) job v in
    let len : map.hash_map_len c.take.new.table ≡ map.hash_map_len c.args.self.now.sessions - 1 = omega (arith, rw c.in-Some.is at c.take.ensures.len) in
    let number : number_of k ≡ c.args.number = ap (λ (n : Option ℕ). unwrap_or n 0) c.requires.named in
    let after_board : (a p : ℕ) → holder_at c.ending.new.board a p ≡ held_after d c.args.number (ipv4 v.opening.client) (waiting_port v.slot) a p (holder_at c.args.self.now.board a p) = λ a p. c.ending.ensures.holders a p ∙ ap (λ n. held_after d n (ipv4 v.opening.client) (waiting_port v.slot) a p (holder_at c.args.self.now.board a p)) number in
    serves-command c.args.self.now _ log c.args.event.now given d _ c.args.number v after st c.requires.below (ending-plain _ c.requires.of_this_event) c.requires.named there
    (λ few.
    let acts = c.ending.ensures.actions few.notices given job ∙ ap (λ n. session_acts o n k given d job (Some v)) number in
    record {
      row = row;
      acts = acts;
      tables = record {
        moved = record {
          options = refl;
          session = refl;
          sessions = record {
            table = λ q. c.take.ensures.updates q ∙ sym (ap (λ b. cond (c.args.number == q) (cond b (Some after) None) (map.get nat_eq c.args.self.now.sessions q)) leaves.ended);
            live = len ∙ sym (leaves.one_less (map.hash_map_len c.args.self.now.sessions));
          };
          jobs = jobs-stay c.args.self.now.jobs o c.args.number k given d _ c.args.number v leaves.idle (λ job. ending-kept d given job c.ending.ensures.ends) acts;
        };
        numbers = λ q. ap (λ (n : Option ℕ). is_number n q || has c.args.self.now.numbers q) (sym (ending-number k d c.requires.of_this_event));
        holders = λ shared a p. after_board a p;
        alone = λ alone a p.
            let before : holder_at c.args.self.now.board a p ≡ None = st.tables.holders a p ∙ holder-legacy o (past_of log) (V4 a) p alone in
            after_board a p
            ∙ ap (held_after d c.args.number (ipv4 v.opening.client) (waiting_port v.slot) a p) before
            ∙ ends-none d c.args.number (ipv4 v.opening.client) (waiting_port v.slot) a p c.ending.ensures.ends ∙ sym before;
        failures = failures-stay c.args.self.now c.args.event.now v (ending-unsaid k c.requires.of_this_event);
        stopped = refl;
      };
    })
