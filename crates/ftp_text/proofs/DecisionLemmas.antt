-- Each decision is read exactly.
use Rattle.std.proofs.Common.{◌≡◌, ℕ, ◌^◌, ◌<◌, List, [], ◌∷◌, ◌++◌, Option, Some, None, refl, ap, subst, ◌∙◌, arith}
use Rattle.std.specs.Prelude.{codes}
use Rattle.ftp_base.specs.declared.login.LockState.{LockState}
use Rattle.ftp_base.specs.declared.login.LockState.TheVariants as lock
use Rattle.ftp_events.specs.declared.decision.Decision.{Decision}
use Rattle.ftp_events.specs.declared.decision.Decision.TheVariants as decision
use Rattle.ftp_text.specs.Fields.{field, number}
use Rattle.ftp_text.specs.Reading.{find_word, word_value}
use Rattle.ftp_text.proofs.Exact.{Ends, IsNil, Ends-from_nil, IsExact, is_word_byte, some_is, find_takes, find_passes, pair_exact, made_takes, made_again, word_exact, table_exact}
use Rattle.ftp_text.proofs.FieldLemmas.{number_is, kind_is, port_is, small_is, ticket_is, proxy_error_is}
use Rattle.ftp_text.specs.Printing.{decision_text, decision_fields, lock_text}
use Rattle.ftp_text.specs.LogLines.{decided_text, IsDecision}
use Rattle.ftp_text.specs.DecisionReading.{heads, head, locks, lock_and_delay_at, decision_behind, decision_at}
use Rattle.ftp_text.proofs.WordThen.{marked_exact}

lock_is : IsExact (λ (l : Option LockState). field (lock_text l)) (λ l. Unit {0}) Ends (word_value lock_text locks)
lock_is = table_exact lock_text locks refl (elim [ None ↦ refl | Some lock.MaxFailuresReached ↦ refl | Some lock.AlreadyLocked ↦ refl ])

abbrev LockAndDelay : Type 0
LockAndDelay = Option LockState × ℕ

lock_and_delay_is : IsExact (λ (x : LockAndDelay). field (lock_text x.0) ++ number x.1) (λ (x : LockAndDelay). Unit {0} × (x.1 < 2 ^ 32)) Ends lock_and_delay_at
lock_and_delay_is = pair_exact lock_is (small_is (2 ^ 32) (omega arith)) (λ y rest h. refl)

-- each decision has the name of its head, which is found in the table
head-text : (d : Decision) → decision_text (head d) ≡ decision_text d
head-text (decision.Attached s) = refl
head-text _ = refl

head_found : (d : Decision) → find_word decision_text heads (decision_text d) ≡ Some (head d)
head_found (decision.Attached s) = refl
head_found _ = refl

-- what stands behind a name is read as what the decision of that name says
abbrev Is : Decision → Decision → Type 0
Is w d = IsDecision d × (decision_text (head d) ≡ decision_text w)

decision_takes : (w : Decision) (bytes : List ℕ) (y : Decision × List ℕ) → decision_behind w bytes ≡ Some y → (bytes ≡ decision_fields y.0 ++ y.1) × Is w y.0
decision_takes (decision.HeaderFault fault) bytes y e =
    made_takes proxy_error_is decision.HeaderFault decision_fields (Is (decision.HeaderFault fault)) [] (λ x. refl) (λ x f. (tt, refl)) bytes y e
decision_takes (decision.Attached s) bytes y e =
    made_takes number_is decision.Attached decision_fields (Is (decision.Attached s)) [] (λ x. refl) (λ x f. (f, refl)) bytes y e
decision_takes (decision.LoginFailed lock delay) bytes y e =
    made_takes lock_and_delay_is (λ x. decision.LoginFailed x.0 x.1) decision_fields (Is (decision.LoginFailed lock delay)) [] (λ x. refl) (λ x f. (f.1, refl)) bytes y e
decision_takes (decision.Granted port) bytes y e =
    made_takes port_is decision.Granted decision_fields (Is (decision.Granted port)) [] (λ x. refl) (λ x f. (f, refl)) bytes y e
decision_takes (decision.Queued t) bytes y e =
    made_takes ticket_is (λ x. decision.Queued (record { session = x.0; nr = x.1 })) decision_fields (Is (decision.Queued t)) [] (λ x. refl) (λ x f. (f, refl)) bytes y e
decision_takes (decision.CwdRefused kind) bytes y e =
    made_takes kind_is decision.CwdRefused decision_fields (Is (decision.CwdRefused kind)) [] (λ x. refl) (λ x f. (tt, refl)) bytes y e
decision_takes d bytes y e =
    let whole : Decision × List ℕ = (d, bytes) in
    subst (λ (x : Decision × List ℕ). (bytes ≡ decision_fields x.0 ++ x.1) × Is d x.0) (some_is whole y e) (refl, (tt, refl))

decision_again : (d : Decision) (rest : List ℕ) → IsDecision d → IsNil rest → decision_behind (head d) (decision_fields d ++ rest) ≡ Some (d, rest)
decision_again (decision.HeaderFault fault) rest fits follows = made_again proxy_error_is decision.HeaderFault fault rest tt (Ends-from_nil rest follows)
decision_again (decision.Attached s) rest fits follows = made_again number_is decision.Attached s rest fits (Ends-from_nil rest follows)
decision_again (decision.LoginFailed lock delay) rest fits follows =
    let x : LockAndDelay = (lock, delay) in made_again lock_and_delay_is (λ y. decision.LoginFailed y.0 y.1) x rest (tt, fits) (Ends-from_nil rest follows)
decision_again (decision.Granted port) rest fits follows = made_again port_is decision.Granted port rest fits (Ends-from_nil rest follows)
decision_again (decision.Queued t) rest fits follows =
    let x : ℕ × ℕ = (t.session, t.nr) in
    made_again ticket_is (λ y. decision.Queued (record { session = y.0; nr = y.1 })) x rest fits (Ends-from_nil rest follows)
decision_again (decision.CwdRefused kind) rest fits follows = made_again kind_is decision.CwdRefused kind rest tt (Ends-from_nil rest follows)
decision_again d rest fits follows = refl

decision_starts : (d : Decision) (rest : List ℕ) → IsDecision d → IsNil rest → Ends (decision_fields d ++ rest)
decision_starts (decision.HeaderFault fault) rest fits follows = refl
decision_starts (decision.Attached s) rest fits follows = refl
decision_starts (decision.LoginFailed lock delay) rest fits follows = refl
decision_starts (decision.Granted port) rest fits follows = refl
decision_starts (decision.Queued t) rest fits follows = refl
decision_starts (decision.CwdRefused kind) rest fits follows = refl
decision_starts d rest fits follows = Ends-from_nil rest follows

-- a head is found by its name
abbrev IsFound : Decision → Type 0
IsFound w = find_word decision_text heads (decision_text w) ≡ Some w

head_is : IsExact (λ (w : Decision). 32 ∷ decision_text w) IsFound Ends (word_value decision_text heads)
unfolding word_value
head_is =
    word_exact decision_text IsFound (find_word decision_text heads)
    (λ w fits. find_passes is_word_byte decision_text heads (decision_text w) w refl fits)
    (λ t w pass e. (let same = find_takes decision_text heads t w e in (same, ap (find_word decision_text heads) same ∙ e)))
    (λ w fits. fits)

pub decision_is : IsExact decided_text IsDecision IsNil decision_at
unfolding decision_at
decision_is =
    marked_exact (codes "=") heads head_is (λ d fits. ap (find_word decision_text heads) (head-text d) ∙ head_found d)
    (record { takes = decision_takes; again = decision_again; starts = decision_starts })
    (λ d fits. ap (λ (t : List ℕ). 61 ∷ field t ++ decision_fields d) (head-text d))
